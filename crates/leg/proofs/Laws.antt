-- What a line is told as where its samples are taken back to bytes. Assumes nothing.
use Rattle.std.proofs.Math.Path.{◌≡◌, refl}
use Rattle.std.proofs.Common.{arith}
use Rattle.std.specs.Prelude.{Bool, cond, ℕ, ◌-◌, ◌≤◌, eqb, ℤ}
use Rattle.std.proofs.Math.Bool.{true, false}
use mathlib.Core.List.{List, [], ◌∷◌, ◌++◌, map}
use Rattle.std.proofs.Math.ListN.{length, take, drop, take-append-drop}
use borrow.Author.Tests.{ne_eqb, eqb-false}
use Rattle.g711.specs.G711.{known, byte_of, all_values, written, write_call}
use Rattle.pcm_line.specs.PcmLine.{samples}
use Rattle.pcm_line.specs.PcmLine as PcmLine
use Rattle.leg.specs.Leg.{back_to, bytes_of, answer}
use Rattle.leg.specs.Laws.{by_values, Took, as_many, given}

-- samples of which some are no table values are some
some : (law : ℕ) (l : List ℤ) → all_values law l ≡ false → length l ≡ 0 → ⊥
unfolding all_values
some law [] g n = let z : ◌≡◌ {A = ℕ} 0 1 = cc in omega arith
some law (z ∷ l) g n = omega arith

module _ (law : ℕ) (lent : List ℕ) (l : List ℤ) (h : length l ≤ length lent) {code : ℕ} {v : List ℕ} (e : written code v ≡ write_call law l (take (length l) lent)) where
  -- it refused
  pub told : (code ≡ 0 → ⊥) → answer code 0 (v ++ drop (length l) lent) ≡ back_to law l lent
  unfolding back_to
  told c = by (known law) (all_values law l) refl refl
    where
      by : (p q : Bool) → known law ≡ p → all_values law l ≡ q → answer code 0 (v ++ drop (length l) lent) ≡ back_to law l lent
      by true true f g = let z = by_values law lent l h e true true f g in absurd (c (cc))
      by true false f g =
          let z = by_values law lent l h e true false f g in
          let x : code ≡ 17 = cc in
          let y : v ≡ take (length l) lent = cc in
          rw (x, y, take-append-drop (length l) lent, f, g, ne_eqb (length l) 0 (some law l g))
      by false q f g =
          let z = by_values law lent l h e false q f g in
          let x : code ≡ 16 = cc in
          let y : v ≡ take (length l) lent = cc in
          rw (x, y, take-append-drop (length l) lent, f)

pub took : (law : ℕ) (l : List ℤ) (lent left : List ℕ) (n : ℕ) → answer 0 n left ≡ back_to law l lent → Took law l lent n left
unfolding back_to
took law l lent left n = by (known law) (eqb (length l) 0) (all_values law l) refl refl refl
  where
    by : (p q r : Bool) → known law ≡ p → eqb (length l) 0 ≡ q → all_values law l ≡ r
        → answer 0 n left ≡ cond p (cond q (answer 9 0 lent) (cond r (answer 0 (length l) (map (byte_of law) l ++ drop (length l) lent)) (answer 17 0 lent))) (answer 16 0 lent)
        → Took law l lent n left
    by true false true f g v e = record { known_law = f; some_samples = eqb-false (length l) 0 g; table_values = v; many = cc; bytes = cc }
    by true false false f g v e = let z : ◌≡◌ {A = ℕ} 0 17 = cc in absurd (omega arith)
    by true true r f g v e = let z : ◌≡◌ {A = ℕ} 0 9 = cc in absurd (omega arith)
    by false q r f g v e = let z : ◌≡◌ {A = ℕ} 0 16 = cc in absurd (omega arith)

module _ (law : ℕ) (t lent : List ℕ) (zeros : List ℤ) {n : ℕ} {found : List ℤ} (f : PcmLine.answer n found ≡ PcmLine.read t zeros) (h : n ≤ length lent) {code : ℕ} {v : List ℕ}
    (e : written code v ≡ write_call law (take (n - 0) found) (take (n - 0) lent)) where
  pub bytes_told : (code ≡ 0 → ⊥) → answer code 0 (v ++ drop (n - 0) lent) ≡ bytes_of law t lent
  unfolding bytes_of
  bytes_told c = let m : n - 0 ≡ length (samples t) = as_many law t lent zeros f h e in rw m (told law lent (samples t) (omega (arith, m)) (given law t lent zeros f h e) c)

-- Laws of a line of a G.711 leg: what the calls of `g711` and `pcm_line` answer, by the tests of the code. Assumes nothing.
use Rattle.std.proofs.Math.Path.{◌≡◌, refl}
use Rattle.std.proofs.Common.{ap, ◌∙◌, arith, length-append, length-take, take_at, length-take-le}
use Rattle.std.specs.Prelude.{Bool, cond, ℕ, ◌-◌, ◌≤◌, eqb, ℤ}
use Rattle.std.proofs.Math.Bool.{true, false}
use mathlib.Core.List.{List, [], ◌∷◌, ◌++◌, map}
use Rattle.std.proofs.Math.ListN.{length, take, drop}
use Rattle.std.proofs.lemmas.List.{length-map}
use Rattle.std.proofs.Math.Seq.{take_all}
use borrow.Author.Tests.{eq-eqb, ne_eqb}
use Rattle.print.specs.Print.{frame_room, over}
use Rattle.g711.specs.G711.{known, value, byte_of, all_values, read, written, refusal, read_call, write_call}
use Rattle.pcm_line.specs.PcmLine.{pcm_line, samples}
use Rattle.pcm_line.specs.PcmLine as PcmLine
use Rattle.pcm_line.specs.Laws.{read_many, read_front, samples_few}
use Rattle.leg.specs.Leg.{leg_line, back_to, bytes_of, answer}

-- ---- bytes to a line

-- a text t over lent bytes: what is answered, and what they are then
abbrev Prints : List ℕ → List ℕ → ℕ → List ℕ → Type 0
Prints t lent r out = (r ≤ frame_room) × ((r ≡ length t) × (out ≡ over t lent))

nothing : {t : List ℕ} (lent : List ℕ) → t ≡ [] → Prints t lent 0 lent
unfolding over
nothing lent e = rw e (omega arith, (refl, refl))

pub no_bytes : (law : ℕ) (l lent : List ℕ) → length l ≡ 0 → Prints (leg_line law l) lent 0 lent
unfolding leg_line
no_bytes law l lent h = nothing lent (rw (eq-eqb (length l) 0 h))

-- as many samples as bytes are lent to `g711::read`, of 80, so that it refuses another law alone
module _ (law : ℕ) (l : List ℕ) (h : length l ≤ 80) (lent : List ℤ) (k : length lent ≡ 80) {code : ℕ} {v : List ℤ} (e : read code v ≡ read_call law l (take (length l - 0) lent)) where
  equal : length l ≡ length (take (length l - 0) lent)
  equal = simp length-take (omega arith)

  by_law : (p : Bool) → known law ≡ p → read code v ≡ cond p (read 0 (map (value law) l)) (read 16 (take (length l - 0) lent))
  unfolding read_call refusal
  by_law true f = rw (f, eq-eqb (length l) (length (take (length l - 0) lent)) equal) at e
  by_law false f = rw f at e

  pub other_law : (code ≡ 0 → ⊥) → (out : List ℕ) → Prints (leg_line law l) out 0 out
  unfolding leg_line
  other_law c out = by (known law) refl
    where
      by : (p : Bool) → known law ≡ p → Prints (leg_line law l) out 0 out
      by true f = let z = by_law true f in absurd (c (cc))
      by false f = nothing out (rw f (same (eqb (length l) 0)))
        where
          same : (q : Bool) → ◌≡◌ {A = List ℕ} (cond q [] []) []
          same true = refl
          same false = refl

  pub values : code ≡ 0 → (known law ≡ true) × (v ≡ map (value law) l)
  values c = by (known law) refl
    where
      by : (p : Bool) → known law ≡ p → (known law ≡ true) × (v ≡ map (value law) l)
      by true f = let z = by_law true f in (f, cc)
      by false f = let z = by_law false f in let y : ◌≡◌ {A = ℕ} 16 0 = cc in absurd (omega arith)

  module _ (c : code ≡ 0) (rest : List ℤ) where
    pub many : length v ≡ length l
    many = ap length (values c).1 ∙ length-map l (value law)

    -- the samples read are at the front of a longer list
    pub front_fits : length l ≤ length (v ++ rest)
    front_fits = simp length-append (omega (arith, many))

    -- and what is printed of them
    pub printed : (length l ≡ 0 → ⊥) → (buffer : List ℕ) {r : ℕ} {out : List ℕ} → Prints (pcm_line (take 80 (take (length l - 0) (v ++ rest)))) buffer r out → Prints (leg_line law l) buffer r out
    unfolding leg_line
    printed n buffer p =
        let w = values c in
        rw (ne_eqb (length l) 0 n, w.0, ← w.1) (rw (take_at v rest (length l - 0) (omega (arith, many)), take_all 80 v (omega (arith, many))) at p)

-- as many bytes as samples are lent to `g711::write`, those at the front
module _ (law : ℕ) (lent : List ℕ) (l : List ℤ) (h : length l ≤ length lent) {code : ℕ} {v : List ℕ} (e : written code v ≡ write_call law l (take (length l) lent)) where
  pub by_values : (p q : Bool) → known law ≡ p → all_values law l ≡ q
      → written code v ≡ cond p (cond q (written 0 (map (byte_of law) l)) (written 17 (take (length l) lent))) (written 16 (take (length l) lent))
  unfolding write_call refusal
  by_values true true f g = rw (f, g, eq-eqb (length (take (length l) lent)) (length l) (length-take-le (length l) lent h)) at e
  by_values true false f g = rw (f, g, eq-eqb (length (take (length l) lent)) (length l) (length-take-le (length l) lent h)) at e
  by_values false q f g = rw f at e

  -- it wrote: the law is known and every sample is a table value
  wrote : code ≡ 0 → (known law ≡ true) × (all_values law l ≡ true) × (v ≡ map (byte_of law) l)
  wrote c = by (known law) (all_values law l) refl refl
    where
      by : (p q : Bool) → known law ≡ p → all_values law l ≡ q → (known law ≡ true) × (all_values law l ≡ true) × (v ≡ map (byte_of law) l)
      by true true f g = let z = by_values true true f g in (f, g, cc)
      by true false f g = let z = by_values true false f g in let y : ◌≡◌ {A = ℕ} 17 0 = cc in absurd (omega arith)
      by false q f g = let z = by_values false q f g in let y : ◌≡◌ {A = ℕ} 16 0 = cc in absurd (omega arith)

  -- nothing, of no samples
  pub no_line : code ≡ 0 → length l ≡ 0 → answer 9 0 (v ++ drop (length l) lent) ≡ back_to law l lent
  unfolding back_to
  no_line c n =
      let w = wrote c in
      let m : map (byte_of law) l ≡ [] = none l n in
      rw (w.2, m, n, w.0)
    where
      none : (s : List ℤ) → length s ≡ 0 → map (byte_of law) s ≡ []
      none [] g = refl
      none (z ∷ s) g = absurd (omega arith)

  -- the bytes of some
  pub done : code ≡ 0 → (length l ≡ 0 → ⊥) → answer 0 (length l) (v ++ drop (length l) lent) ≡ back_to law l lent
  unfolding back_to
  done c n =
      let w = wrote c in
      rw (w.2, w.0, w.1, ne_eqb (length l) 0 n)

-- what is said of samples that are taken
pub record Took (law : ℕ) (l : List ℤ) (lent : List ℕ) (n : ℕ) (left : List ℕ) : Type 0 where
  pub known_law : known law ≡ true
  pub some_samples : length l ≡ 0 → ⊥
  pub table_values : all_values law l ≡ true
  pub many : n ≡ length l
  pub bytes : left ≡ map (byte_of law) l ++ drop (length l) lent

-- ---- the same of the samples that `pcm_line::read` found

-- they are at most 80, and have room where they were written
module _ (t : List ℕ) (lent : List ℤ) {n : ℕ} {found : List ℤ} (f : PcmLine.answer n found ≡ PcmLine.read t lent) where
  pub found_few : n ≤ 80
  found_few = omega (arith, read_many t lent f, samples_few t)

  pub found_fits : n ≤ length found
  found_fits = omega (arith, read_many t lent f, ap length (read_front t lent f), length-take n found)

module _ (law : ℕ) (t lent : List ℕ) (zeros : List ℤ) {n : ℕ} {found : List ℤ} (f : PcmLine.answer n found ≡ PcmLine.read t zeros) (h : n ≤ length lent) {code : ℕ} {v : List ℕ}
    (e : written code v ≡ write_call law (take (n - 0) found) (take (n - 0) lent)) where
  pub as_many : n - 0 ≡ length (samples t)
  as_many = omega (arith, read_many t zeros f)

  pub given : written code v ≡ write_call law (samples t) (take (length (samples t)) lent)
  given =
      let m : n - 0 ≡ n = omega arith in
      let g : take (n - 0) found ≡ samples t = rw m (read_front t zeros f) in
      rw (g, as_many) at e

  pub bytes_none : code ≡ 0 → n ≡ 0 → answer 9 0 (v ++ drop (n - 0) lent) ≡ bytes_of law t lent
  unfolding bytes_of
  bytes_none c z = rw as_many (no_line law lent (samples t) (omega (arith, as_many)) given c (omega (arith, as_many)))

  pub bytes_done : code ≡ 0 → (n ≡ 0 → ⊥) → answer 0 n (v ++ drop (n - 0) lent) ≡ bytes_of law t lent
  unfolding bytes_of
  bytes_done c z =
      let m : n ≡ length (samples t) = read_many t zeros f in
      rw (as_many, m) (done law lent (samples t) (omega arith) given c (λ y. z (omega arith)))

-- What the code knows of a value of type Far, and lists that are written from the front. Assumes nothing.
use Prim.Native.Nat.{ℕ, zero, suc, ◌-◌, ◌<◌}
use mathlib.Core.Path.{◌≡◌, refl, ap, sym, ◌∙◌}
use mathlib.Core.List.{List, [], ◌∷◌, ◌++◌, append_assoc, append-nil}
use native.Mathlib.Omega.{arith}
use lib.IntN.{ℤ, pos}
use lib.ListN.{length, take, drop, replicate, length-append, length-drop}
use lib.Seq.{take_at, take_all}
use lib.Signed.{mag}
use Rattle.laws.specs.Lists.{tab}
use Rattle.block.specs.Block.{put}
use Rattle.compare_step.specs.declared.Far.{Far}

-- its words are words, and its lists have their lengths
pub record Kept (h : Far) : Type 0 where
  pub count : mag h.count < 32768
  pub clean : mag h.clean < 32768
  pub status : mag h.status < 32768
  pub tail : length h.tail ≡ 10
  pub words : length h.words ≡ 160

-- the part of a list from place n on, as the code lends it
pub from_on : (n : ℕ) (l : List ℤ) → take (length l - n) (drop n l) ≡ drop n l
from_on n l = take_all (length l - n) (drop n l) (simp length-drop (omega arith))

-- the parameters at the front of a state block
pub params_front : (p q r : List ℤ) → r ≡ p ++ q → length r ≡ 234 → length q ≡ 164 → (take 70 r ≡ p) × (length p ≡ 70)
params_front p q r e h k =
    let n : length p ≡ 70 = omega (arith, sym (length-append p q) ∙ sym (ap length e) ∙ h) in
    (rw e (take_at p q 70 n), n)

-- the parts behind each other
pub in_order : (p : List ℤ) (x y z : ℤ) (u w : List ℤ) → ((((p ++ (x ∷ [])) ++ (y ∷ [])) ++ (z ∷ [])) ++ u) ++ w ≡ p ++ (x ∷ y ∷ z ∷ (u ++ w))
in_order p x y z u w = simp append_assoc

-- zeros
pub tab_zeros : (n : ℕ) → tab n (λ k. pos 0) ≡ replicate n (pos 0)
unfolding tab
tab_zeros zero = refl
tab_zeros (suc n) = rw (tab_zeros n) (sym (replicate_snoc n))
  where
    replicate_snoc : (k : ℕ) → pos 0 ∷ replicate k (pos 0) ≡ replicate k (pos 0) ++ (pos 0 ∷ [])
    replicate_snoc zero = refl
    replicate_snoc (suc k) = ap (λ (l : List ℤ). pos 0 ∷ l) (replicate_snoc k)

-- ten samples behind 80 zeros
pub put_last : (e : List ℤ) → length e ≡ 10 → put (replicate 90 (pos 0)) 80 e ≡ replicate 80 (pos 0) ++ e
unfolding put
put_last e h = rw (h, append-nil e)

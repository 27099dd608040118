-- What the proofs of `fixed` use of its definitions. Assumes nothing.
use Prim.Native.Nat.{ℕ, zero, suc, ◌+◌, ◌-◌, ◌*◌, ◌/◌, ◌%◌, ◌<◌}
use Rattle.std.proofs.Math.Path.{◌≡◌, refl}
use Rattle.std.proofs.Common.{ap, ◌∙◌, subst, arith, lt_of_le_of_lt, lt_of_lt_of_le, lit<, lit≤, SFits}
use Rattle.std.specs.Prelude.{Bool, List, ℤ, pos, negsuc, ◌+ℤ◌, ◌*ℤ◌, set, replicate}
use Rattle.std.proofs.Math.Bool.{true, false}
use Rattle.std.proofs.Math.Dec.{T}
use Rattle.std.specs.Int.Signed.{lt_z, non_neg}
use borrow.Author.Tests.{ltb-true}
use Rattle.std.specs.Int.{w16, w32}
use Rattle.laws.specs.Range.{mag_add, mag_mul}
use Rattle.laws.specs.Lists.{at}
use Rattle.laws.specs.Loops.{steps, run, ended_from}
use Rattle.basic_op.specs.Ops.{add, mult}
use Rattle.fixed.specs.Fixed.{position, pulse, codevector, sharpen}

pub position_lt : (index k : ℕ) → position index k < 40
unfolding position
position_lt index zero = omega arith
position_lt index (suc zero) = omega arith
position_lt index (suc (suc zero)) = omega arith
position_lt index (suc (suc (suc k))) = omega arith

pub position_last : (index k : ℕ) → (k ≡ 0 → ⊥) → (k ≡ 1 → ⊥) → (k ≡ 2 → ⊥) → 5 * (index / 1024 % 8) + 3 + index / 512 % 2 ≡ position index k
unfolding position
position_last index zero f g h = absurd (f refl)
position_last index (suc zero) f g h = absurd (g refl)
position_last index (suc (suc zero)) f g h = absurd (h refl)
position_last index (suc (suc (suc k))) f g h = refl

-- ---- the generator's product and sum stay within 32 bits

pub fits_product : (z : ℤ) → SFits w16 z → SFits w32 (pos 31821 *ℤ z)
fits_product z f = record { sfits = lt_of_le_of_lt (mag_mul (pos 31821) z 31822 _ (lit< tt) f.sfits) (lit< tt) }

pub fits_next : (z : ℤ) (k : ℕ) → k < 32768 → SFits w16 z → SFits w32 (pos 31821 *ℤ z +ℤ pos k)
fits_next z k h f = record { sfits = lt_of_lt_of_le (mag_add (pos 31821 *ℤ z) (pos k) 1042743297 32768 (lt_of_le_of_lt (mag_mul (pos 31821) z 31822 _ (lit< tt) f.sfits) (lit< tt)) h) (lit≤ tt) }

-- ---- a parameter that went through a local, inside a loop's step

pub codevector_is : {p q : ℤ} (index sign : ℕ) → q ≡ p → steps (λ k l. set l (position index k) (pulse q sign k)) 4 (replicate 40 (pos 0)) ≡ codevector p index sign
unfolding codevector
codevector_is index sign e = rw e

-- the word that `add_delayed` writes at place t0 + k
abbrev pub add_delayed : ℕ → ℤ → ℕ → List ℤ → ℤ
add_delayed t0 b k c = add (at c (t0 + k)) (mult (at c k) b)

pub add_delayed_end : {b y : ℤ} (t0 n : ℕ) (code out : List ℤ) → y ≡ b → n ≡ 40 - t0 → out ≡ run (add_delayed t0 y) t0 n code → out ≡ run (add_delayed t0 b) t0 (40 - t0) code
add_delayed_end t0 n code out e h g = ended_from (run (add_delayed t0 _) t0) (40 - t0) g h ∙ ap (λ (x : ℤ). run (add_delayed t0 x) t0 (40 - t0) code) e

-- ---- `sharpen`, by the code's tests on y, which is t0 read back

module _ (code : List ℤ) (beta : ℤ) {y t0 : ℤ} (e : y ≡ t0) where
  pub sharpen_none : lt_z y (pos 1) ≡ true → code ≡ sharpen code t0 beta
  unfolding sharpen
  sharpen_none p = go t0 (rw e at p)
    where
      go : (t : ℤ) → lt_z t (pos 1) ≡ true → code ≡ sharpen code t beta
      go (pos zero) q = refl
      go (pos (suc n)) q = let h : suc n < 1 = ltb-true (suc n) 1 q in absurd (omega arith)
      go (negsuc n) q = refl

-- a number that is not below 1 is no negative one
pub positive : (z : ℤ) → lt_z z (pos 1) ≡ false → T (non_neg z)
positive (pos n) p = tt
positive (negsuc n) p = let h : ◌≡◌ {A = Bool} true false = p in absurd (subst T h tt)

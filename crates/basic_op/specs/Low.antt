-- The lower 16 bits of a number of 32, as `x & 65535` gives them. Assumes nothing.
use Rattle.std.specs.Prelude.{suc, ◌%◌, ◌^◌, ◌≤◌, ◌<◌, refl, Bool, ℤ, negsuc, ◌+ℤ◌, ◌-ℤ◌}
use Rattle.std.proofs.Math.Path.{◌≡◌, ap}
use Rattle.std.proofs.Common.{◌∙◌, subst, SFits, to_z, of_z}
use Rattle.std.proofs.Math.Bool.{true, false}
use native.Mathlib.Omega.{arith}
use Rattle.std.proofs.Math.Dec.{T}
use Rattle.std.specs.Int.Bits.{bit_and}
use Rattle.std.proofs.lemmas.Nat.{and_mask}
use Rattle.std.proofs.Math.IntN.{pos}
use Rattle.std.specs.Int.Signed.{mag, lt_z}
use borrow.Author.Tests.{lt-ltb, le-ltb, ltb-true, ltb-false}
use Rattle.std.specs.Int.{w16, w32}
use Rattle.std.proofs.lemmas.Int.{to_z_pos}
use Rattle.std.proofs.Math.Facts.{sfits_to_z}
use Rattle.basic_op.specs.Ops.{low16, extract_l}

pub low_lt : (x : ℤ) → low16 x < 65536
unfolding low16
low_lt (pos n) = omega arith
low_lt (negsuc n) = omega arith

-- of a word of 16 bits they are its bits
pub low_bits : (z : ℤ) → mag z < 32768 → low16 z ≡ of_z w16 z
unfolding low16
low_bits (pos n) h = omega arith
low_bits (negsuc n) h = omega arith

low_mod : (x : ℤ) → mag x < 2 ^ 31 → of_z w32 x % 65536 ≡ low16 x
unfolding low16
low_mod (pos n) h = refl
low_mod (negsuc n) h = omega arith

pub low_and : (x : ℤ) → SFits w32 x → to_z w32 (bit_and (of_z w32 x) 65535) ≡ pos (low16 x)
low_and x f = rw (and_mask (of_z w32 x) 16, low_mod x f.sfits) (to_z_pos w32 (low16 x) (omega (arith, low_lt x)))

-- the upper half of the patterns are the negative numbers
module _ (x : ℤ) {y : ℤ} (e : y ≡ pos (low16 x)) where
  pub low_neg : lt_z (pos 32767) y ≡ true → y -ℤ pos 65536 ≡ extract_l x
  unfolding extract_l
  low_neg p = rw (e, lt-ltb (low16 x) 65536 (low_lt x), le-ltb (low16 x) 32768 above)
    where
      above : 32768 ≤ low16 x
      above = ltb-true 32767 (low16 x) (rw e at p)

  pub low_pos : lt_z (pos 32767) y ≡ false → y ≡ extract_l x
  unfolding extract_l
  low_pos p = rw (e, lt-ltb (low16 x) 32768 below)
    where
      below : low16 x < 32768
      below = let h : low16 x ≤ 32767 = ltb-false 32767 (low16 x) (rw e at p) in omega arith

pub fits_extract_l : (x : ℤ) → SFits w16 (extract_l x)
unfolding extract_l
fits_extract_l x = sfits_to_z (record { fits = low_lt x })

-- a word's 16 bits, by the code's test on y, which is x read back
module _ {y x : ℤ} (e : y ≡ x) (h : mag x < 2 ^ 15) where
  pub low_add : lt_z y (pos 0) ≡ true → y +ℤ pos 65536 ≡ pos (low16 x)
  unfolding low16
  low_add p = rw e (go x h (rw e at p))
    where
      go : (x : ℤ) → mag x < 2 ^ 15 → lt_z x (pos 0) ≡ true → x +ℤ pos 65536 ≡ pos (low16 x)
      go (pos n) h p = let q : n < 0 = ltb-true n 0 p in absurd (omega arith)
      go (negsuc n) h p = rw (le-ltb 65536 (suc n) (omega arith)) (ap pos (omega arith))

  pub low_same : lt_z y (pos 0) ≡ false → y ≡ pos (low16 x)
  unfolding low16
  low_same p = e ∙ go x h (rw e at p)
    where
      go : (x : ℤ) → mag x < 2 ^ 15 → lt_z x (pos 0) ≡ false → x ≡ pos (low16 x)
      go (pos n) h p = ap pos (omega arith)
      go (negsuc n) h p = let q : ◌≡◌ {A = Bool} true false = p in absurd (subst T q tt)

-- Laws of the form without saturation: a word of the excitation is a rounded sum that is clamped once, where neither gain is -32768. Assumes nothing.
use Rattle.std.specs.Prelude.{ℕ, suc, ◌+◌, ◌*◌, ◌^◌, ◌≤◌, ◌<◌, min, ◌≡◌, refl, Bool, true, false, cond, ◌&&◌, ltb, ℤ, pos, negsuc, nat_abs, ◌+ℤ◌, ◌*ℤ◌}
use Rattle.std.proofs.Common.{sym, ap, mul-le-mul, arith, ltb-true, ltb-false, lt-ltb, le-ltb, SFits}
use Rattle.std.proofs.Math.Bool.{and-eq-true_iff}
use Rattle.std.proofs.Math.IntN.{sub_ℕ}
use Rattle.std.specs.Int.Signed.{mag, lt_z, shr_z, nat_abs-le}
use Rattle.std.specs.Int.{w16, w32}
use Rattle.laws.specs.Range.{abs_mul, mag_abs, mag_double}
use Rattle.laws.specs.Sums.{abs_add}
use Rattle.laws.specs.Ints.{neg_is, double_add}
use Rattle.basic_op.specs.Ops.{sat, sat16, sat32, l_add, l_mult, l_mac, l_shl, by_sign, extract_h, round}
use Rattle.basic_op.specs.Laws.{sat_id}
use Rattle.synth.specs.Synth.{excite}

pub sat_pos : (n a : ℕ) → sat n (pos a) ≡ pos (min a n)
unfolding sat
sat_pos n a = go (ltb n a) refl
  where
    go : (t : Bool) → ltb n a ≡ t → cond t (pos n) (pos a) ≡ pos (min a n)
    go true e = ap pos (omega (arith, ltb-true n a e))
    go false e = ap pos (omega (arith, ltb-false n a e))

pub sat_neg : (n a : ℕ) → sat n (negsuc a) ≡ negsuc (min a n)
unfolding sat
sat_neg n a = go (ltb n a) refl
  where
    go : (t : Bool) → ltb n a ≡ t → cond t (negsuc n) (negsuc a) ≡ negsuc (min a n)
    go true e = ap negsuc (omega (arith, ltb-true n a e))
    go false e = ap negsuc (omega (arith, ltb-false n a e))

-- a negative sum that was doubled twice, with saturation
clamped_low : (m j : ℕ) → j ≡ min (2 * min (2 * m + 1) 2147483647 + 1) 2147483647 → shr_z (sat32 (sub_ℕ 32768 (suc j))) (2 ^ 16) ≡ sat16 (shr_z (sub_ℕ 8192 (suc m)) (2 ^ 14))
clamped_low m j q = go (ltb 8192 (suc m)) refl
  where
    go : (t : Bool) → ltb 8192 (suc m) ≡ t → shr_z (sat32 (sub_ℕ 32768 (suc j))) (2 ^ 16) ≡ sat16 (shr_z (sub_ℕ 8192 (suc m)) (2 ^ 14))
    go true e = let h = ltb-true 8192 (suc m) e in rw (lt-ltb 32768 (suc j) (omega arith), e, sat_neg, sat_neg) (ap negsuc (omega arith))
    go false e = let h = ltb-false 8192 (suc m) e in rw (le-ltb 32768 (suc j) (omega arith), e, sat_pos, sat_pos) (ap pos (omega arith))

-- the three saturating steps end like one clamp
clamped : (s : ℤ) → round (l_shl (sat32 (pos 2 *ℤ s)) (pos 1)) ≡ sat16 (shr_z (s +ℤ pos 8192) (2 ^ 14))
unfolding round extract_h l_add l_shl by_sign
clamped (pos m) = rw (sat_pos, sat_pos, sat_pos, sat_pos) (ap pos (omega arith))
clamped (negsuc m) =
    let i = min (2 * m + 1) 2147483647 in
    rw (neg_is (2 * suc m) (2 * m + 1) (omega arith), sat_neg 2147483647 (2 * m + 1), neg_is (suc i * 2 ^ 1) (2 * i + 1) (omega arith), sat_neg 2147483647 (2 * i + 1)) (clamped_low m (min (2 * i + 1) 2147483647) refl)

-- by the code's test on both gains, each read back
module _ {y z : ℤ} (e : y ≡ z) (f : SFits w16 z) where
  gain_size : lt_z (negsuc 32767) y ≡ true → nat_abs z ≤ 32767
  gain_size p = go z f.sfits (rw e at p)
    where
      go : (z : ℤ) → mag z < 32768 → lt_z (negsuc 32767) z ≡ true → nat_abs z ≤ 32767
      go (pos n) h q = omega arith
      go (negsuc n) h q = omega (arith, ltb-true n 32767 q)

  pub first_gain : (t : Bool) → (lt_z (negsuc 32767) y && t) ≡ true → nat_abs z ≤ 32767
  first_gain t p = gain_size ((and-eq-true_iff (lt_z (negsuc 32767) y) t).0 p).0

  pub second_gain : (t : Bool) → (t && lt_z (negsuc 32767) y) ≡ true → nat_abs z ≤ 32767
  second_gain t p = gain_size ((and-eq-true_iff t (lt_z (negsuc 32767) y)).0 p).1

-- where neither gain is -32768: no product saturates, and the sum and its rounding fit 32 bits
module _ (gp gc v c : ℤ) (hp : nat_abs gp ≤ 32767) (hc : nat_abs gc ≤ 32767) (fv : SFits w16 v) (fc : SFits w16 c) where
  adaptive_size : nat_abs (v *ℤ gp) ≤ 32768 * 32767
  adaptive_size = rw abs_mul (mul-le-mul (nat_abs-le v fv.sfits) hp)

  fixed_size : nat_abs (c *ℤ gc) ≤ 32768 * 32767
  fixed_size = rw abs_mul (mul-le-mul (nat_abs-le c fc.sfits) hc)

  pub excite_fits : SFits w32 (v *ℤ gp +ℤ c *ℤ gc)
  excite_fits = record { sfits = omega (arith, adaptive_size, fixed_size, abs_add (v *ℤ gp) (c *ℤ gc), mag_abs (v *ℤ gp +ℤ c *ℤ gc)) }

  pub excite_round_fits : SFits w32 (v *ℤ gp +ℤ c *ℤ gc +ℤ pos 8192)
  excite_round_fits =
      record { sfits = omega (arith, adaptive_size, fixed_size, abs_add (v *ℤ gp) (c *ℤ gc), abs_add (v *ℤ gp +ℤ c *ℤ gc) (pos 8192), mag_abs (v *ℤ gp +ℤ c *ℤ gc +ℤ pos 8192)) }

  pub excite_whole : sat16 (shr_z (v *ℤ gp +ℤ c *ℤ gc +ℤ pos 8192) (2 ^ 14)) ≡ excite gp gc v c
  unfolding excite l_mac l_mult l_add
  excite_whole =
      rw (sat_id 2147483647 (pos 2 *ℤ (v *ℤ gp)) (mag_double (v *ℤ gp) 2147483647 (omega (arith, adaptive_size))), sat_id 2147483647 (pos 2 *ℤ (c *ℤ gc)) (mag_double (c *ℤ gc) 2147483647 (omega (arith, fixed_size))), ← double_add (v *ℤ gp) (c *ℤ gc))
      (sym (clamped (v *ℤ gp +ℤ c *ℤ gc)))

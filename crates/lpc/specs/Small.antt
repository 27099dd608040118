-- `step` and `top` on coefficients so small that nothing saturates: plain sums, and how fast they grow. Assumes nothing.
use Rattle.std.specs.Prelude.{◌+◌, ◌*◌, ◌/◌, ◌≤◌, ◌<◌, ◌≡◌, refl, ℤ, nat_abs, ◌+ℤ◌, ◌-ℤ◌, ◌*ℤ◌}
use Rattle.std.proofs.Common.{sym, ap, ◌∙◌, arith, lit<}
use Rattle.std.proofs.Math.IntN.{pos}
use Rattle.std.specs.Int.Signed.{mag, shr_z, nat_abs-le}
use Rattle.laws.specs.Range.{mag_add, mag_sub, mag_scale, mag_word, mag_shr_is}
use Rattle.laws.specs.Ints.{mul_assoc}
use Rattle.basic_op.specs.Ops.{sat, l_add, l_sub, l_shl, by_sign}
use Rattle.basic_op.specs.Oper32b.{multiply_32_by_16}
use Rattle.basic_op.specs.Laws.{sat_id}
use Rattle.basic_op.specs.Product.{product_is}
use Rattle.lpc.specs.Lpc.{step, top}

-- twice the product of a split number, as the code computes it
pub four : (v q : ℤ) → mag v < 2147418112 → mag q < 32768 → shr_z (shr_z v 2 *ℤ q) 32768 *ℤ pos 4 ≡ multiply_32_by_16 v q *ℤ pos 2
four v q h k = sym (ap (λ (x : ℤ). x *ℤ pos 2) (product_is v q h k) ∙ mul_assoc (shr_z (shr_z v 2 *ℤ q) 32768) (pos 2) (pos 2))

-- no shift but a doubling
pub twice : (x : ℤ) → sat 2147483647 (x *ℤ pos 2) ≡ l_shl x (pos 1)
unfolding l_shl by_sign
twice x = refl

half_small : (v q : ℤ) → mag q < 32768 → mag (shr_z (shr_z v 2 *ℤ q) 32768) ≤ mag v / 2 + 1
half_small v q k =
    let a : nat_abs (shr_z v 2) ≤ mag v / 2 + 1 = nat_abs-le (shr_z v 2) (rw (mag_shr_is v 2) (omega arith)) in
    let b : mag (shr_z v 2 *ℤ q) ≤ (mag v / 2 + 1) * 32768 = mag_word (shr_z v 2) q (mag v / 2 + 1) a k in
    rw (mag_shr_is (shr_z v 2 *ℤ q) 32768) (omega arith)

pub twice_small : (v q : ℤ) → mag v < 2147418112 → mag q < 32768 → mag (multiply_32_by_16 v q *ℤ pos 2) ≤ 2 * mag v + 8
twice_small v q h k =
    let a : mag (shr_z (shr_z v 2 *ℤ q) 32768 *ℤ pos 4) < (mag v / 2 + 2) * 4 = mag_scale (shr_z (shr_z v 2 *ℤ q) 32768) 4 (mag v / 2 + 2) (lit< tt) (omega (arith, half_small v q k)) in
    rw (← four v q h k) (omega arith)

module _ (p q : ℤ) (k : mag q < 32768) where
  module _ (s o : ℤ) (h : 2 * mag p + mag s + mag o + 16 < 2147483648) where
    product_fits : mag (multiply_32_by_16 p q *ℤ pos 2) ≤ 2 * mag p + 8
    product_fits = twice_small p q (omega arith) k

    pub step_less : mag (s -ℤ multiply_32_by_16 p q *ℤ pos 2) < 2 * mag p + mag s + 12
    step_less =
        let b : mag (s -ℤ multiply_32_by_16 p q *ℤ pos 2) < (mag s + 1) + ((2 * mag p + 9) + 1) = mag_sub s (multiply_32_by_16 p q *ℤ pos 2) (mag s + 1) (2 * mag p + 9) (omega arith) (omega (arith, product_fits)) in
        omega arith

    pub step_small : mag (s -ℤ multiply_32_by_16 p q *ℤ pos 2 +ℤ o) ≤ 2 * mag p + mag s + mag o + 16
    step_small =
        let b : mag (s -ℤ multiply_32_by_16 p q *ℤ pos 2 +ℤ o) < (2 * mag p + mag s + 12) + (mag o + 1) = mag_add (s -ℤ multiply_32_by_16 p q *ℤ pos 2) o _ (mag o + 1) step_less (omega arith) in
        omega arith

    pub step_plain : s -ℤ multiply_32_by_16 p q *ℤ pos 2 +ℤ o ≡ step p q s o
    unfolding step l_add l_sub
    step_plain =
        rw (
          ← twice (multiply_32_by_16 p q),
          sat_id 2147483647 (multiply_32_by_16 p q *ℤ pos 2) (omega (arith, product_fits)),
          sat_id 2147483647 (s -ℤ multiply_32_by_16 p q *ℤ pos 2) (omega (arith, step_less)),
          sat_id 2147483647 (s -ℤ multiply_32_by_16 p q *ℤ pos 2 +ℤ o) (omega (arith, step_small)),
        )

  module _ (o : ℤ) (h : 2 * mag p + 2 * mag o + 16 < 2147483648) where
    top_fits : mag (multiply_32_by_16 p q *ℤ pos 2) ≤ 2 * mag p + 8
    top_fits = twice_small p q (omega arith) k

    older_less : mag (o *ℤ pos 2) < (mag o + 1) * 2
    older_less = mag_scale o 2 (mag o + 1) (lit< tt) (omega arith)

    pub top_small : mag (o *ℤ pos 2 -ℤ multiply_32_by_16 p q *ℤ pos 2) ≤ 2 * mag p + 2 * mag o + 16
    top_small =
        let b : mag (o *ℤ pos 2 -ℤ multiply_32_by_16 p q *ℤ pos 2) < (mag o + 1) * 2 + ((2 * mag p + 9) + 1) = mag_sub (o *ℤ pos 2) (multiply_32_by_16 p q *ℤ pos 2) ((mag o + 1) * 2) (2 * mag p + 9) older_less (omega (arith, top_fits)) in
        omega arith

    pub top_plain : o *ℤ pos 2 -ℤ multiply_32_by_16 p q *ℤ pos 2 ≡ top p q o
    unfolding top l_sub
    top_plain =
        rw (
          ← twice (multiply_32_by_16 p q),
          ← twice o,
          sat_id 2147483647 (multiply_32_by_16 p q *ℤ pos 2) (omega (arith, top_fits)),
          sat_id 2147483647 (o *ℤ pos 2) (omega (arith, older_less)),
          sat_id 2147483647 (o *ℤ pos 2 -ℤ multiply_32_by_16 p q *ℤ pos 2) (omega (arith, top_small)),
        )

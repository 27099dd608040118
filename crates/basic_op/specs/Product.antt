-- Mpy_32_16 as one product: where the number's upper half is above -32768 no step of it saturates. Assumes nothing.
use Rattle.std.specs.Prelude.{ℕ, suc, ◌*◌, ◌%◌, ◌^◌, ◌≤◌, ◌<◌, ◌≡◌, ℤ, pos, negsuc, neg_ℤ, nat_abs, ◌+ℤ◌, ◌-ℤ◌, ◌*ℤ◌}
use Rattle.std.proofs.Common.{sym, ap, ◌∙◌, arith, mul-one, lit<}
use Rattle.std.proofs.Math.IntN.{+ℤ_idl, +ℤ_invr, *ℤ_comm}
use Rattle.std.specs.Int.Signed.{mag, shr_z, nat_abs-le}
use Rattle.std.specs.Int.{w16}
use Rattle.std.proofs.lemmas.Int.{to_z_pos}
use Rattle.laws.specs.Range.{mag_scale, mag_word, mag_shr_is, floor_div}
use Rattle.laws.specs.Ints.{add_swap, mul_add, mul_assoc, shr_split, shr_shr}
use Rattle.basic_op.specs.Ops.{sat, l_mult, l_mac, l_msu, l_sub, l_add, mult, extract_h, extract_l, low16}
use Rattle.basic_op.specs.Oper32b.{split_high_low, multiply_split_by_16, multiply_32_by_16}
use Rattle.basic_op.specs.Laws.{sat_id}

-- ---- ranges

double : (z : ℤ) → mag z ≤ 1073709056 → mag (z *ℤ pos 2) ≤ 2147483647
double z h = let b : mag (z *ℤ pos 2) < 1073709057 * 2 = mag_scale z 2 1073709057 (lit< tt) (omega arith) in omega arith

sat_double : (z : ℤ) → mag z ≤ 1073709056 → sat 2147483647 (pos 2 *ℤ z) ≡ z *ℤ pos 2
sat_double z h = ap (sat 2147483647) (*ℤ_comm (pos 2) z) ∙ sat_id 2147483647 (z *ℤ pos 2) (double z h)

times_one : (z : ℤ) → z *ℤ pos 1 ≡ z
times_one (pos n) = ap pos (mul-one n)
times_one (negsuc n) = ap (λ (k : ℕ). neg_ℤ (pos k)) (mul-one (suc n))

-- ---- the two parts of a number: its upper 16 bits, and the 15 below them

record Parts (v : ℤ) : Type 0 where
  low : ℕ
  less : low < 32768
  sum : shr_z v 2 ≡ shr_z v 65536 *ℤ pos 32768 +ℤ pos low

parts : (v : ℤ) → Parts v
parts v =
    let f = floor_div (shr_z v 2) 32768 (lit< tt) in
    record { low = f.rest; less = f.less; sum = f.sum ∙ ap (λ (x : ℤ). x *ℤ pos 32768 +ℤ pos f.rest) (shr_shr v 2 32768) }

rest : (a b : ℤ) → a +ℤ b -ℤ a ≡ b
rest a b = add_swap a b (neg_ℤ a) ∙ ap (λ (x : ℤ). x +ℤ b) (+ℤ_invr a) ∙ +ℤ_idl b

upper_small : (v : ℤ) → mag v < 2 ^ 31 → mag (shr_z v 65536) < 32768
upper_small v h = rw (mag_shr_is v 65536) (omega arith)

coarse : (h : ℤ) → mag h < 32768 → l_mult h (pos 16384) ≡ h *ℤ pos 32768
unfolding l_mult
coarse h k =
    let b : mag (h *ℤ pos 32768) < 32768 * 32768 = mag_scale h 32768 32768 (lit< tt) k in
    ap (sat 2147483647) (*ℤ_comm (pos 2) (h *ℤ pos 16384) ∙ mul_assoc h (pos 16384) (pos 2)) ∙ sat_id 2147483647 (h *ℤ pos 32768) (omega arith)

word_low : (n : ℕ) → n < 32768 → extract_l (pos n) ≡ pos n
unfolding extract_l low16
word_low n h = let e : n % 65536 ≡ n = omega arith in rw e (to_z_pos w16 n h)

lower_is : (v : ℤ) → mag v < 2 ^ 31 → (p : Parts v) → (split_high_low v).lower ≡ pos p.low
unfolding split_high_low l_msu l_sub extract_h
lower_is v h p =
    rw (coarse (shr_z v 65536) (upper_small v h), p.sum, rest (shr_z v 65536 *ℤ pos 32768) (pos p.low), sat_id 2147483647 (pos p.low) (omega (arith, p.less)))
    (word_low p.low p.less)

-- ---- the product

joined : (a b c : ℤ) → a +ℤ b ≡ c → mag a ≤ 1073709056 → mag b ≤ 1073709056 → mag c ≤ 1073709056
    → sat 2147483647 (sat 2147483647 (pos 2 *ℤ a) +ℤ sat 2147483647 (pos 2 *ℤ (b *ℤ pos 1))) ≡ c *ℤ pos 2
joined a b c e h k l =
    rw (times_one b, sat_double a h, sat_double b k)
    (ap (sat 2147483647) (sym (mul_add a b (pos 2)) ∙ ap (λ (x : ℤ). x *ℤ pos 2) e) ∙ sat_id 2147483647 (c *ℤ pos 2) (double c l))

module _ (v q : ℤ) (h : mag v < 2147418112) (k : mag q < 32768) where
  upper_abs : nat_abs (shr_z v 65536) ≤ 32767
  upper_abs = nat_abs-le (shr_z v 65536) (rw (mag_shr_is v 65536) (omega arith))

  half_abs : nat_abs (shr_z v 2) ≤ 1073709056
  half_abs = nat_abs-le (shr_z v 2) (rw (mag_shr_is v 2) (omega arith))

  pub product_small : mag (shr_z (shr_z v 2 *ℤ q) 32768) ≤ 1073709056
  product_small =
      let b : mag (shr_z v 2 *ℤ q) ≤ 1073709056 * 32768 = mag_word (shr_z v 2) q 1073709056 half_abs k in
      rw (mag_shr_is (shr_z v 2 *ℤ q) 32768) (omega arith)

  fine : (n : ℕ) → n < 32768 → mult (pos n) q ≡ shr_z (pos n *ℤ q) 32768
  unfolding mult
  fine n l =
      let b : mag (pos n *ℤ q) ≤ 32767 * 32768 = mag_word (pos n) q 32767 (omega arith) k in
      sat_id 32767 (shr_z (pos n *ℤ q) 32768) (rw (mag_shr_is (pos n *ℤ q) 32768) (omega arith))

  fine_small : (n : ℕ) → n < 32768 → mag (shr_z (pos n *ℤ q) 32768) ≤ 1073709056
  fine_small n l =
      let b : mag (pos n *ℤ q) ≤ 32767 * 32768 = mag_word (pos n) q 32767 (omega arith) k in
      rw (mag_shr_is (pos n *ℤ q) 32768) (omega arith)

  product_of : (p : Parts v) → shr_z v 65536 *ℤ q +ℤ shr_z (pos p.low *ℤ q) 32768 ≡ shr_z (shr_z v 2 *ℤ q) 32768
  product_of p = sym (ap (λ (x : ℤ). shr_z (x *ℤ q) 32768) p.sum ∙ shr_split (shr_z v 65536) (pos p.low) q 32768 (lit< tt))

  by_parts : Parts v → multiply_32_by_16 v q ≡ shr_z (shr_z v 2 *ℤ q) 32768 *ℤ pos 2
  unfolding multiply_32_by_16 multiply_split_by_16 split_high_low l_mac l_add l_mult extract_h
  by_parts p =
      rw (lower_is v (omega arith) p, fine p.low p.less)
      (joined (shr_z v 65536 *ℤ q) (shr_z (pos p.low *ℤ q) 32768) _ (product_of p)
      (mag_word (shr_z v 65536) q 32767 upper_abs k) (fine_small p.low p.less) product_small)

  pub product_is : multiply_32_by_16 v q ≡ shr_z (shr_z v 2 *ℤ q) 32768 *ℤ pos 2
  product_is = by_parts (parts v)

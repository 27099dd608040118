-- `norm_l`, which counts doublings, is one less than the leading zeros of the number's magnitude. Assumes nothing.
use Rattle.std.specs.Prelude.{ℕ, zero, suc, ◌+◌, ◌-◌, ◌*◌, ◌^◌, ◌≤◌, ◌<◌, ◌≡◌, refl, true, false, ℤ, pos, negsuc, ◌+ℤ◌}
use Rattle.std.proofs.Common.{sym, ap, ◌∙◌, arith, pow-suc, le_trans, le_of_eq, lt_of_lt_of_le, mul-le-mul_right, mul-lt-mul_of_pos_right, pow_mono, pow-add, pow_pos, lt-ltb, le-ltb, le-leb}
use Rattle.std.specs.Int.Count.{count_leading_zeros}
use Rattle.std.proofs.lemmas.Nat.{leading_top, leading_length}
use Rattle.std.specs.Int.Signed.{mag}
use Rattle.std.proofs.lemmas.Bool.{lt-leb}
use Rattle.basic_op.specs.Ops.{normal, doublings, norm_l}

normal_yes : (z : ℤ) → 2 ^ 30 ≤ mag z → normal z ≡ true
unfolding normal
normal_yes (pos a) h = rw (le-leb 1073741824 a h)
normal_yes (negsuc a) h = rw (lt-ltb 1073741823 a h)

normal_no : (z : ℤ) → mag z < 2 ^ 30 → normal z ≡ false
unfolding normal
normal_no (pos a) h = rw (lt-leb 1073741824 a h)
normal_no (negsuc a) h = rw (le-ltb 1073741823 a (omega arith))

dbl_low : (z : ℤ) → mag z + mag z ≤ mag (z +ℤ z)
dbl_low (pos a) = omega arith
dbl_low (negsuc a) = omega arith

dbl_high : (z : ℤ) → mag (z +ℤ z) ≤ mag z + mag z + 1
dbl_high (pos a) = omega arith
dbl_high (negsuc a) = omega arith

-- a magnitude of t + 1 digits, of 31: 30 - t doublings
count_is : (i t k : ℕ) (z : ℤ) → i + t ≡ 30 → 2 ^ t ≤ mag z → mag z < 2 ^ suc t → i ≤ k → doublings k z ≡ i
unfolding doublings
count_is zero t zero z e lo hi l = refl
count_is zero t (suc k) z e lo hi l = rw (normal_yes z (rw top at lo))
  where
    top : t ≡ 30
    top = omega arith
count_is (suc i) t zero z e lo hi l = absurd (omega arith)
count_is (suc i) t (suc k) z e lo hi l = rw (normal_no z small) (ap suc (count_is i (suc t) k (z +ℤ z) (omega arith) low high (omega arith)))
  where
    small : mag z < 2 ^ 30
    small = let q : 2 ^ suc t ≤ 2 ^ 30 = pow_mono {j = 30} (omega arith) in omega arith

    low : 2 ^ suc t ≤ mag (z +ℤ z)
    low = omega (arith, pow-suc 2 t, dbl_low z)

    high : mag (z +ℤ z) < 2 ^ suc (suc t)
    high = omega (arith, pow-suc 2 (suc t), dbl_high z)

-- the highest of 32 digits is 0 below 2 ^ 31
pub some_lead : (a : ℕ) → a < 2 ^ 31 → 1 ≤ count_leading_zeros 32 a
some_lead a h = go (count_leading_zeros 32 a) (leading_length 32 a (omega arith))
  where
    go : (l : ℕ) → (m : ℕ) × (l + m ≡ 32) × (a < 2 ^ m) × (2 ^ m ≤ 2 * a + 1) → 1 ≤ l
    go zero t = let q : t.0 ≡ 32 = omega (arith, t.1) in let r : 2 ^ 32 ≤ 2 * a + 1 = rw q at t.3 in absurd (omega arith)
    go (suc l) t = omega arith

-- the same by the leading zeros
zeros_are : (z : ℤ) → 0 < mag z → mag z < 2 ^ 31 → doublings 31 z ≡ count_leading_zeros 32 (mag z) - 1
zeros_are z p h = go (leading_top 32 (mag z) p (omega arith)) (some_lead (mag z) h)
  where
    go : (j : ℕ) × (count_leading_zeros 32 (mag z) + suc j ≡ 32) × (2 ^ j ≤ mag z) × (mag z < 2 ^ suc j) → 1 ≤ count_leading_zeros 32 (mag z) → doublings 31 z ≡ count_leading_zeros 32 (mag z) - 1
    go t l = count_is (count_leading_zeros 32 (mag z) - 1) t.0 31 z (omega (arith, t.1)) t.2 t.3 (omega (arith, t.1))

minus_one : doublings 31 (negsuc 0) ≡ count_leading_zeros 32 0 - 1
unfolding doublings normal count_leading_zeros
minus_one = refl

pub norm_is : (z : ℤ) → (z ≡ pos 0 → ⊥) → mag z < 2 ^ 31 → norm_l z ≡ pos (count_leading_zeros 32 (mag z) - 1)
unfolding norm_l
norm_is (pos zero) n h = absurd (n refl)
norm_is (pos (suc a)) n h = ap pos (zeros_are (pos (suc a)) (omega arith) h)
norm_is (negsuc zero) n h = ap pos minus_one
norm_is (negsuc (suc a)) n h = ap pos (zeros_are (negsuc (suc a)) (omega arith) h)

-- ---- a positive number shifted left by its norm: 2 ^ 30 or more, and still in range

module _ (n : ℕ) (p : 0 < n) (h : n < 2 ^ 31) where
  top_digit : (j : ℕ) × (doublings 31 (pos n) + j ≡ 30) × (2 ^ j ≤ n) × (n < 2 ^ suc j)
  top_digit = go (leading_top 32 n p (omega arith))
    where
      go : (j : ℕ) × (count_leading_zeros 32 n + suc j ≡ 32) × (2 ^ j ≤ n) × (n < 2 ^ suc j) → (j : ℕ) × (doublings 31 (pos n) + j ≡ 30) × (2 ^ j ≤ n) × (n < 2 ^ suc j)
      go t = (t.0, omega (arith, t.1, zeros_are (pos n) p h, some_lead n h), t.2, t.3)

  pub norm_few : doublings 31 (pos n) ≤ 30
  norm_few = omega (arith, top_digit.1)

  digits : (j : ℕ) → doublings 31 (pos n) + j ≡ 30 → 2 ^ 30 ≡ 2 ^ j * 2 ^ doublings 31 (pos n)
  digits j e =
      let k : 30 ≡ j + doublings 31 (pos n) = omega arith in
      ap (λ (i : ℕ). 2 ^ i) k ∙ pow-add 2 j (doublings 31 (pos n))

  pub norm_low : 2 ^ 30 ≤ n * 2 ^ doublings 31 (pos n)
  norm_low = le_trans (le_of_eq (digits top_digit.0 top_digit.1)) (mul-le-mul_right _ top_digit.2)

  pub norm_high : n * 2 ^ doublings 31 (pos n) < 2 ^ 31
  norm_high =
      let d = doublings 31 (pos n) in
      let k : suc top_digit.0 + d ≡ 31 = omega (arith, top_digit.1) in
      lt_of_lt_of_le (mul-lt-mul_of_pos_right top_digit.3 (pow_pos d)) (le_of_eq (sym (pow-add 2 (suc top_digit.0) d) ∙ ap (λ (i : ℕ). 2 ^ i) k))

-- Laws of the form without saturation: a sample is the whole sum rounded where the coefficients are small and the sum ends in range. Assumes nothing.
use Prim.Native.Nat.{ℕ, zero, suc, ◌+◌, ◌-◌, ◌*◌, ◌^◌, ◌≤◌, ◌<◌}
use Rattle.std.proofs.Math.Path.{◌≡◌}
use Rattle.std.specs.Prelude.{refl, Bool, ◌&&◌, List, ltb, ℤ, negsuc, ◌+ℤ◌, ◌*ℤ◌}
use Rattle.std.proofs.Common.{sym, ap, subst, ⊎_elim, eq-or-lt_of_le, le_refl, mul-le-mul, arith, SFits}
use Rattle.std.proofs.Math.Bool.{true, false, cond, and-eq-true_iff}
use Rattle.std.proofs.Math.Dec.{T}
use Rattle.std.proofs.Math.IntN.{pos, nat_abs, sub_ℕ}
use Rattle.std.specs.Int.Signed.{mag, lt_z, shr_z, nat_abs-le}
use borrow.Author.Tests.{ltb-true, ltb-false, lt-ltb, le-ltb}
use Rattle.std.specs.Int.{w16, w64}
use Rattle.laws.specs.Lists.{at}
use Rattle.laws.specs.Loops.{steps, run_none}
use Rattle.laws.specs.Range.{abs_mul, mag_double, mag_shr_less}
use Rattle.laws.specs.Sums.{without, sizes, without_between}
use Rattle.laws.specs.Ints.{neg_is, double_sub}
use Rattle.basic_op.specs.Ops.{l_add, l_sub, l_mult, l_msu, l_shl, by_sign, extract_h, round, overflow, l_mult_overflow, l_msu_overflow, l_shl3_overflow, round_overflow}
use Rattle.basic_op.specs.Laws.{sat_id}
use Rattle.synth_filter.specs.Filter.{synth_sum, synth_sum_overflow, synth_sample, synth_overflow, samples}
use Rattle.synth_filter.specs.Laws.{any_none}
use Rattle.synth_filter.specs.Fast.{term, whole_sum, size, size_sum, Past, Range, Reached}

-- ---- the size of the coefficients

pub size_at_least : (c : ℤ) → nat_abs c ≤ size c
unfolding size
size_at_least c = omega arith

-- a product with a word
pub product_size : (c v : ℤ) → nat_abs v ≤ 32768 → nat_abs (c *ℤ v) ≤ size c * 32768
product_size c v h = rw abs_mul (mul-le-mul (size_at_least c) h)

pub excitation_size : (x c : ℤ) → nat_abs x ≤ 32768 → nat_abs (x *ℤ c) ≤ 32768 * size c
excitation_size x c h = rw abs_mul (mul-le-mul h (size_at_least c))

pub size_small : (c : ℤ) → size c ≤ 61439 → nat_abs c ≤ 32767
unfolding size
size_small c h = go (ltb (nat_abs c) 32768) refl h
  where
    go : (t : Bool) → ltb (nat_abs c) 32768 ≡ t → nat_abs c + cond t 0 28672 ≤ 61439 → nat_abs c ≤ 32767
    go true e q = omega (arith, ltb-true (nat_abs c) 32768 e)
    go false e q = omega (arith, ltb-false (nat_abs c) 32768 e)

-- by the code's test on y, which is the word c read back
module _ {y c : ℤ} (e : y ≡ c) (f : SFits w16 c) where
  pub size_large : lt_z y (negsuc 32766) ≡ true → 61440 ≡ size c
  unfolding size
  size_large p = go c f.sfits (rw e at p)
    where
      go : (c : ℤ) → mag c < 32768 → lt_z c (negsuc 32766) ≡ true → 61440 ≡ nat_abs c + cond (ltb (nat_abs c) 32768) 0 28672
      go (pos n) h p = let q : ◌≡◌ {A = Bool} false true = p in absurd (subst T (sym q) tt)
      go (negsuc n) h p = let q = ltb-true 32766 n p in rw (le-ltb (suc n) 32768 (omega arith)) (omega arith)

  pub size_plain : lt_z y (negsuc 32766) ≡ false → nat_abs c ≡ size c
  unfolding size
  size_plain p = go c f.sfits (rw e at p)
    where
      go : (c : ℤ) → mag c < 32768 → lt_z c (negsuc 32766) ≡ false → nat_abs c ≡ nat_abs c + cond (ltb (nat_abs c) 32768) 0 28672
      go (pos n) h p = rw (lt-ltb n 32768 (omega arith)) (omega arith)
      go (negsuc n) h p = let q = ltb-false 32766 n p in rw (lt-ltb (suc n) 32768 (omega arith)) (omega arith)

pub size_sum_one : (a : List ℤ) (k i : ℕ) → i < k → size (at a (i + 1)) ≤ size_sum a k
unfolding size_sum steps
size_sum_one a zero i h = absurd (omega arith)
size_sum_one a (suc k) i h = ⊎_elim (λ e. rw e (omega arith)) (λ q. omega (arith, size_sum_one a k i q)) (eq-or-lt_of_le {n = i} {m = k} (omega arith))

-- ---- the code's loop takes the oldest sample off first, and learns of each that it is a word

pub past_none : (y : List ℤ) (n : ℕ) → Past y n 10
past_none y n i p q = absurd (omega arith)

pub past_turn : (y : List ℤ) (n k m : ℕ) → m ≡ k + 1 → Past y n m → mag (at y (n - m)) < 32768 → Past y n k
past_turn y n k m d p h i q b = ⊎_elim (λ e. rw (← e, ← d) (nat_abs-le (at y (n - m)) h)) (λ j. p i (omega arith) b) (eq-or-lt_of_le q)

-- ---- nothing saturates

-- the sum when k of the ten are taken off
abbrev part : List ℤ → ℤ → List ℤ → ℕ → ℕ → ℤ
part a x y n k = without (term a y n) k (x *ℤ at a 0)

overflow_none : (n : ℕ) (z : ℤ) → mag z ≤ n → overflow n z ≡ false
unfolding overflow
overflow_none n (pos a) h = rw (le-ltb n a h)
overflow_none n (negsuc a) h = rw (le-ltb n a h)

module _ (a : List ℤ) (x : ℤ) (y : List ℤ) (n : ℕ) (bounded : size_sum a 10 ≤ 61439) (word : nat_abs x ≤ 32768) (past : Past y n 0) where
  term_size : (i : ℕ) → i < 10 → nat_abs (term a y n i) ≤ size (at a (i + 1)) * 32768
  term_size i h = product_size (at a (i + 1)) (at y (n - (i + 1))) (past i (omega arith) h)

  pub term_fits : (i : ℕ) → i < 10 → mag (pos 2 *ℤ term a y n i) ≤ 2147483647
  term_fits i h =
      let p : nat_abs (term a y n i) ≤ 32767 * 32768 = rw abs_mul (mul-le-mul (size_small (at a (i + 1)) (omega (arith, size_sum_one a 10 i h))) (past i (omega arith) h)) in
      mag_double (term a y n i) 2147483647 (omega arith)

  pub all_sizes : (k : ℕ) → k ≤ 10 → nat_abs (x *ℤ at a 0) + sizes (term a y n) k ≤ 32768 * size_sum a k
  unfolding size_sum steps
  all_sizes zero h = omega (arith, excitation_size x (at a 0) word)
  all_sizes (suc k) h = omega (arith, all_sizes k (omega arith), term_size k h)

  module _ (low : nat_abs (whole_sum a x y n) ≤ 134217728) where
    sum_fits : (k : ℕ) → k ≤ 10 → mag (pos 2 *ℤ part a x y n k) ≤ 2147483647
    unfolding whole_sum
    sum_fits k h = mag_double (part a x y n k) 2147483647 (without_between (term a y n) (x *ℤ at a 0) 10 k 2147483647 h (omega (arith, all_sizes 10 (le_refl 10))))

    -- the sum of `Filter` is twice the whole sum, at each step
    sum_whole : (k : ℕ) → k ≤ 10 → synth_sum a x y n k ≡ pos 2 *ℤ part a x y n k
    unfolding synth_sum steps l_mult l_msu l_sub
    sum_whole zero h = sat_id 2147483647 (pos 2 *ℤ part a x y n 0) (sum_fits 0 h)
    sum_whole (suc k) h =
        rw (sum_whole k (omega arith), sat_id 2147483647 (pos 2 *ℤ term a y n k) (term_fits k h), ← double_sub (part a x y n k) (term a y n k))
        (sat_id 2147483647 (pos 2 *ℤ part a x y n (suc k)) (sum_fits (suc k) h))

    sum_quiet : (k : ℕ) → k ≤ 10 → synth_sum_overflow a x y n k ≡ false
    unfolding synth_sum_overflow steps l_mult_overflow l_msu_overflow l_mult
    sum_quiet zero h = overflow_none 2147483647 (pos 2 *ℤ part a x y n 0) (sum_fits 0 h)
    sum_quiet (suc k) h =
        rw (sum_quiet k (omega arith), overflow_none 2147483647 (pos 2 *ℤ term a y n k) (term_fits k h), sum_whole k (omega arith), sat_id 2147483647 (pos 2 *ℤ term a y n k) (term_fits k h), ← double_sub (part a x y n k) (term a y n k))
        (overflow_none 2147483647 (pos 2 *ℤ part a x y n (suc k)) (sum_fits (suc k) h))

-- ---- the end of a sample

-- by the code's test on y, which is l read back
pub range_of : {y l : ℤ} → y ≡ l → (lt_z y (pos 134215680) && lt_z (negsuc 134217728) y) ≡ true → Range l
range_of {y} {l} e p = go l (rw e at p)
  where
    go : (l : ℤ) → (lt_z l (pos 134215680) && lt_z (negsuc 134217728) l) ≡ true → Range l
    go (pos m) q = ltb-true m 134215680 ((and-eq-true_iff (ltb m 134215680) true).0 q).0
    go (negsuc m) q = ltb-true m 134217728 q

-- a difference of two numbers is no larger than both
sub_mag : (t : Bool) (a b m : ℕ) → a ≤ m → b ≤ m → mag (cond t (negsuc (suc b - suc a)) (pos (a - suc b))) ≤ m
sub_mag true a b m p q = omega arith
sub_mag false a b m p q = omega arith

-- the sum that is rounded
range_round : (l : ℤ) → Range l → mag (l +ℤ pos 2048) < 2 ^ 27
range_round (pos m) h = omega arith
range_round (negsuc m) h = let q : mag (negsuc m +ℤ pos 2048) ≤ 134217727 = sub_mag (ltb 2048 (suc m)) 2048 m 134217727 (omega arith) (omega arith) in omega arith

pub round_fits : (l : ℤ) → Range l → SFits w64 (l +ℤ pos 2048)
round_fits l h = record { sfits = omega (arith, range_round l h) }

pub word_fits : (l : ℤ) → Range l → SFits w16 (shr_z (l +ℤ pos 2048) (2 ^ 12))
word_fits l h = record { sfits = mag_shr_less 15 12 (l +ℤ pos 2048) (range_round l h) }

range_size : (l : ℤ) → Range l → nat_abs l ≤ 134217728
range_size (pos m) h = omega arith
range_size (negsuc m) h = omega arith

-- sixteen times l
times_16 : ℤ → ℤ
times_16 (pos m) = pos (16 * m)
times_16 (negsuc m) = negsuc (16 * m + 15)

is_16 : (l : ℤ) → pos 2 *ℤ l *ℤ pos (2 ^ 3) ≡ times_16 l
unfolding times_16
is_16 (pos m) = ap pos (omega arith)
is_16 (negsuc m) = rw (neg_is (2 * suc m) (2 * m + 1) (omega arith)) (neg_is (suc (2 * m + 1) * 8) (16 * m + 15) (omega arith))

fits_16 : (l : ℤ) → Range l → mag (times_16 l) ≤ 2147483647
unfolding times_16
fits_16 (pos m) h = omega arith
fits_16 (negsuc m) h = omega arith

sum_fits_16 : (l : ℤ) → Range l → mag (times_16 l +ℤ pos 32768) ≤ 2147483647
unfolding times_16
sum_fits_16 (pos m) h = omega arith
sum_fits_16 (negsuc m) h = sub_mag (ltb 32768 (suc (16 * m + 15))) 32768 (16 * m + 15) 2147483647 (omega arith) (omega arith)

shr_16 : (l : ℤ) → shr_z (times_16 l +ℤ pos 32768) (2 ^ 16) ≡ shr_z (l +ℤ pos 2048) (2 ^ 12)
unfolding times_16
shr_16 (pos m) = ap pos (omega arith)
shr_16 (negsuc m) = go (ltb 2048 (suc m)) refl
  where
    go : (t : Bool) → ltb 2048 (suc m) ≡ t → shr_z (sub_ℕ 32768 (suc (16 * m + 15))) (2 ^ 16) ≡ shr_z (sub_ℕ 2048 (suc m)) (2 ^ 12)
    go true e = let h = ltb-true 2048 (suc m) e in rw (lt-ltb 32768 (suc (16 * m + 15)) (omega arith), e) (ap negsuc (omega arith))
    go false e = let h = ltb-false 2048 (suc m) e in rw (le-ltb 32768 (suc (16 * m + 15)) (omega arith), e) (ap pos (omega arith))

module _ (l : ℤ) (h : Range l) where
  shl_whole : l_shl (pos 2 *ℤ l) (pos 3) ≡ times_16 l
  unfolding l_shl by_sign
  shl_whole = rw is_16 (sat_id 2147483647 (times_16 l) (fits_16 l h))

  round_whole : round (l_shl (pos 2 *ℤ l) (pos 3)) ≡ shr_z (l +ℤ pos 2048) (2 ^ 12)
  unfolding round extract_h l_add
  round_whole = rw (shl_whole, sat_id 2147483647 (times_16 l +ℤ pos 32768) (sum_fits_16 l h)) (shr_16 l)

  shl_quiet : l_shl3_overflow (pos 2 *ℤ l) ≡ false
  unfolding l_shl3_overflow
  shl_quiet = rw is_16 (overflow_none 2147483647 (times_16 l) (fits_16 l h))

  round_quiet : round_overflow (l_shl (pos 2 *ℤ l) (pos 3)) ≡ false
  unfolding round_overflow
  round_quiet = rw shl_whole (overflow_none 2147483647 (times_16 l +ℤ pos 32768) (sum_fits_16 l h))

-- the sample is the whole sum rounded, and no operation of it saturates
module _ (a : List ℤ) (x : ℤ) (y : List ℤ) (n : ℕ) (bounded : size_sum a 10 ≤ 61439) (word : nat_abs x ≤ 32768) (past : Past y n 0) (h : Range (whole_sum a x y n)) where
  whole_is : synth_sum a x y n 10 ≡ pos 2 *ℤ whole_sum a x y n
  unfolding whole_sum
  whole_is = sum_whole a x y n bounded word past (range_size (whole_sum a x y n) h) 10 (le_refl 10)

  pub sample_whole : synth_sample a x y n ≡ shr_z (whole_sum a x y n +ℤ pos 2048) (2 ^ 12)
  unfolding synth_sample
  sample_whole = rw whole_is (round_whole (whole_sum a x y n) h)

  pub sample_quiet : synth_overflow a x y n ≡ false
  unfolding synth_overflow
  sample_quiet =
      rw (sum_quiet a x y n bounded word past (range_size (whole_sum a x y n) h) 10 (le_refl 10), whole_is, shl_quiet (whole_sum a x y n) h, round_quiet (whole_sum a x y n) h)

-- ---- the samples of a subframe

pub reached_none : (second : Bool) (a exc speech : List ℤ) → Reached second a exc speech speech false 0
unfolding samples
reached_none second a exc speech = (run_none _ _ _, any_none _)

-- What the private functions of the code say of each other: equation (77) as a sum of whole numbers that does not saturate, the size of its coefficients, and how far the
-- samples of a subframe are. No public contract cites these.
use Rattle.std.specs.Prelude.{ℕ, ◌+◌, ◌-◌, ◌*◌, ◌^◌, ◌≤◌, ◌<◌, ◌≡◌, Bool, false, cond, List, ltb, ℤ, pos, negsuc, nat_abs, ◌+ℤ◌, ◌*ℤ◌}
use Rattle.std.specs.Int.Signed.{shr_z}
use Rattle.laws.specs.Lists.{at, tab}
use Rattle.laws.specs.Loops.{steps}
use Rattle.laws.specs.Sums.{without}
use Rattle.synth_filter.specs.Filter.{synth_sample, synth_overflow, samples, overflow_at, any}

-- what past sample i + 1 takes off
abbrev pub term : List ℤ → List ℤ → ℕ → ℕ → ℤ
term a y n i = at a (i + 1) *ℤ at y (n - (i + 1))

-- x a0 - a1 y(n - 1) - .. - a10 y(n - 10)
unfoldable pub whole_sum : List ℤ → ℤ → List ℤ → ℕ → ℤ
whole_sum a x y n = without (term a y n) 10 (x *ℤ at a 0)

-- the size of c; for one of 32768 or more, with which a product may saturate, 61440 or more, which is above the limit
unfoldable pub size : ℤ → ℕ
size c = nat_abs c + cond (ltb (nat_abs c) 32768) 0 28672

-- the sizes of a0 to ak together. The products of one sample are together at most 2 ^ 15 times that of all, and a sum that ends in range ends at
-- 2 ^ 15 times 4096 at most: so with a size sum up to 61439, which is 65535 less 4096, twice the sum stays below 2 ^ 31 at every step (`without_between` of Sums)
unfoldable pub size_sum : List ℤ → ℕ → ℕ
size_sum a k = steps (λ i w. w + size (at a (i + 1))) k (size (at a 0))

-- the past samples from the (k + 1)-th on are words
abbrev pub Past : List ℤ → ℕ → ℕ → Type 0
Past y n k = (i : ℕ) → k ≤ i → i < 10 → nat_abs (at y (n - (i + 1))) ≤ 32768

-- ---- two samples at once

-- p in the low half of a number, q in its high half
unfoldable pub both : ℤ → ℤ → ℤ
both p q = p +ℤ q *ℤ pos 4294967296

-- the coefficients of sample n - k: that for sample n, and that for sample n + 1
unfoldable pub pairs : List ℤ → List ℤ
pairs a = tab 10 (λ k. both (at a k) (at a (k + 1)))

-- what sample n - (i + 1) takes off the sum of sample n + 1
abbrev pub next_term : List ℤ → List ℤ → ℕ → ℕ → ℤ
next_term a y n i = at a (i + 1 + 1) *ℤ at y (n - (i + 1))

-- the sum of sample n + 1, of excitation x, without the product with sample n
unfoldable pub next_sum : List ℤ → ℤ → List ℤ → ℕ → ℤ
next_sum a x y n = without (next_term a y n) 9 (x *ℤ at a 0)

-- l holds the sums of samples n and n + 1, of excitations x and u, without the products with the m newest past samples. With a size sum up to 61439 each is
-- below 2 ^ 31 in size, so the halves can be parted and l fits 64 bits
pub record Halves (a : List ℤ) (x u : ℤ) (y : List ℤ) (n m : ℕ) (l : ℤ) : Type 0 where
  pub low : ℤ
  pub high : ℤ
  pub sum : l ≡ both low high
  pub low_rest : without (term a y n) m low ≡ whole_sum a x y n
  pub high_rest : without (next_term a y n) m high ≡ next_sum a u y n
  pub low_size : nat_abs low + 32768 * size_sum a m ≤ 32768 * (size_sum a 10 + size (at a 0))
  pub high_size : nat_abs high + 32768 * size_sum a (m + 1) ≤ 32768 * (size_sum a 10 + size (at a 0))

-- the whole sums that are rounded, from -2 ^ 27 to 2 ^ 27 - 2049: neither the shift by 3 of twice l nor the rounding sum saturates
abbrev pub Range : ℤ → Type 0
Range (pos m) = m < 134215680
Range (negsuc m) = m < 134217728

-- l is in range, and w is l rounded from Q12 to Q0
abbrev pub Rounded : ℤ → ℤ → Type 0
Rounded l w = Range l × (w ≡ shr_z (l +ℤ pos 2048) (2 ^ 12))

-- w is sample n, and no operation on the way to it saturates
abbrev pub Sampled : List ℤ → ℤ → List ℤ → ℕ → ℤ → Type 0
Sampled a x y n w = (w ≡ synth_sample a x y n) × (false ≡ synth_overflow a x y n)

-- ---- the samples of a subframe

-- y is what n samples of the subframe make of the speech before it, and the flag says whether one of them saturates
abbrev pub Reached : Bool → List ℤ → List ℤ → List ℤ → List ℤ → Bool → ℕ → Type 0
Reached second a exc before y flag n = (y ≡ samples second a exc before n) × (flag ≡ any (overflow_at second a exc before) n)

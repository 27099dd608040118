-- Laws of two samples at once: the halves of a number, the sums of both samples in them, and the samples that these give. Assumes nothing.
use Rattle.std.specs.Prelude.{ℕ, zero, suc, ◌+◌, ◌-◌, ◌*◌, ◌^◌, ◌≤◌, ◌<◌, ◌≡◌, refl, Bool, false, List, ℤ, negsuc, neg_ℤ, nat_abs, ◌+ℤ◌, ◌-ℤ◌, ◌*ℤ◌, set}
use Rattle.std.proofs.Common.{sym, ◌∙◌, add-one, get_or-set_other, le-ltb, SFits}
use Rattle.std.proofs.Math.Path.{ap}
use Rattle.std.proofs.Math.Nat.{div-eq_of_lt}
use native.Mathlib.Omega.{arith}
use Rattle.std.proofs.Math.IntN.{pos, +ℤ_idl, +ℤ-neg_ℤ_cancel}
use Rattle.std.specs.Int.Signed.{mag, shr_z, nat_abs-le}
use Rattle.std.specs.Int.{w16, w64}
use Rattle.laws.specs.Lists.{at, at_tab}
use Rattle.laws.specs.Loops.{steps, steps_same}
use Rattle.laws.specs.Range.{abs_mul, mag_abs, mag_sub, mag_word}
use Rattle.laws.specs.Sums.{abs_add, abs_sub, without, without_first, without_front}
use Rattle.laws.specs.Ints.{add_swap, sub_sums, mul_add, sub_mul, mul_swap, shr_add}
use Rattle.synth_filter.specs.Fast.{term, whole_sum, size, size_sum, Past, both, pairs, next_term, next_sum, Halves, Rounded, Sampled, Reached}
use Rattle.block.specs.Places.{exc_start, speech_start}
use Rattle.synth_filter.specs.Laws.{samples_turn, saturates_turn}
use Rattle.synth_filter.specs.FastLaws.{size_at_least, product_size, excitation_size, size_sum_one, sample_whole, sample_quiet}

-- ---- two numbers in one

pub both_times : (p q v : ℤ) → both p q *ℤ v ≡ both (p *ℤ v) (q *ℤ v)
unfolding both
both_times p q v = mul_add p (q *ℤ pos 4294967296) v ∙ ap (λ (z : ℤ). p *ℤ v +ℤ z) (mul_swap q (pos 4294967296) v)

both_sub : (l h p q : ℤ) → both l h -ℤ both p q ≡ both (l -ℤ p) (h -ℤ q)
unfolding both
both_sub l h p q =
    sub_sums l (h *ℤ pos 4294967296) p (q *ℤ pos 4294967296) ∙ ap (λ (z : ℤ). l -ℤ p +ℤ z) (sym (sub_mul h q (pos 4294967296)))

both_sub_low : (l h p : ℤ) → both l h -ℤ p ≡ both (l -ℤ p) h
unfolding both
both_sub_low l h p = add_swap l (h *ℤ pos 4294967296) (neg_ℤ p)

pub both_size : (l h : ℤ) (m : ℕ) → nat_abs l ≤ m → nat_abs h ≤ m → nat_abs (both l h) ≤ m * 4294967297
unfolding both
both_size l h m p q = omega (arith, abs_add l (h *ℤ pos 4294967296), abs_mul h (pos 4294967296))

-- of two words
module _ (p q : ℤ) (f : SFits w16 p) (g : SFits w16 q) where
  pub both_words : nat_abs (both p q) ≤ 263878495760383
  both_words = omega (arith, both_size p q 32768 (nat_abs-le p f.sfits) (nat_abs-le q g.sfits))

  pub both_fits : SFits w64 (p +ℤ q *ℤ pos 4294967296)
  unfolding both
  both_fits = record { sfits = omega (arith, mag_abs (p +ℤ q *ℤ pos 4294967296), both_words) }

pub times_fits : (b c : ℤ) → nat_abs b ≤ 263878495760383 → SFits w16 c → SFits w64 (b *ℤ c)
times_fits b c h f = record { sfits = omega (arith, mag_word b c 263878495760383 h f.sfits) }

-- a number below 2 ^ 31 in size, raised by 2 ^ 31
raised : (l : ℤ) → nat_abs l < 2147483648 → shr_z (l +ℤ pos 2147483648) (2 ^ 32) ≡ pos 0
raised (pos a) h = ap pos (div-eq_of_lt (omega arith))
raised (negsuc a) h = rw (le-ltb 2147483648 (suc a) (omega arith)) (ap pos (div-eq_of_lt (omega arith)))

-- the high half
pub high_half : (l h : ℤ) → nat_abs l < 2147483648 → shr_z (both l h +ℤ pos 2147483648) (2 ^ 32) ≡ h
unfolding both
high_half l h p =
    ap (λ (z : ℤ). shr_z z (2 ^ 32)) (add_swap l (h *ℤ pos 4294967296) (pos 2147483648)) ∙ shr_add (l +ℤ pos 2147483648) h (2 ^ 32) (omega arith)
    ∙ ap (λ (z : ℤ). z +ℤ h) (raised l p) ∙ +ℤ_idl h

-- the low half
pub low_half : (l h : ℤ) → both l h -ℤ h *ℤ pos 4294967296 ≡ l
unfolding both
low_half l h = +ℤ-neg_ℤ_cancel l (h *ℤ pos 4294967296)

-- ---- the size of the coefficients

size_sum_more : (a : List ℤ) (k : ℕ) → size_sum a (k + 1) ≡ size_sum a k + size (at a (k + 1))
unfolding size_sum steps
size_sum_more a k = ap (size_sum a) (add-one k)

size_sum_first : (a : List ℤ) (k : ℕ) → size (at a 0) ≤ size_sum a k
unfolding size_sum steps
size_sum_first a zero = omega arith
size_sum_first a (suc k) = omega (arith, size_sum_first a k)

coefficient_size : (a : List ℤ) (k : ℕ) → size_sum a 10 ≤ 61439 → k < 10 → nat_abs (at a (k + 1)) ≤ 61439
coefficient_size a k h q = omega (arith, size_at_least (at a (k + 1)), size_sum_one a 10 k q)

-- the coefficients of the sample at n - k together
pub pairs_at : (a : List ℤ) (k : ℕ) → k < 10 → at (pairs a) k ≡ both (at a k) (at a (k + 1))
unfolding pairs
pairs_at a k h = at_tab (λ k. both (at a k) (at a (k + 1))) 10 k h

pub pairs_size : (a : List ℤ) (k : ℕ) → size_sum a 10 ≤ 61439 → k < 9 → nat_abs (at (pairs a) (k + 1)) ≤ 263878495760383
pairs_size a k h q =
    rw (pairs_at a (k + 1) (omega arith))
    (omega (arith, both_size (at a (k + 1)) (at a (k + 1 + 1)) 61439 (coefficient_size a k h (omega arith)) (coefficient_size a (k + 1) h (omega arith))))

-- ---- the sums of two samples, past sample by past sample

rest_turn : (t : ℕ → ℤ) (k m : ℕ) → m ≡ k + 1 → (l v s : ℤ) → v ≡ t k → without t m l ≡ s → without t k (l -ℤ v) ≡ s
unfolding steps
rest_turn t k m d l v s e f = without_first t k l v ∙ rw e (rw (d, add-one) at f)

size_turn : (l t : ℤ) (w m k b : ℕ) → nat_abs t ≤ w * 32768 → m ≡ k + w → nat_abs l + 32768 * m ≤ b → nat_abs (l -ℤ t) + 32768 * k ≤ b
size_turn l t w m k b h e q = omega (arith, abs_sub l t)

module _ (a : List ℤ) (x u : ℤ) (y : List ℤ) (n : ℕ) where
  -- the products with the excitation, and the oldest sample, which is none of the other sum's
  pub halves_start : nat_abs x ≤ 32768 → nat_abs u ≤ 32768 → nat_abs (at y (n - 10)) ≤ 32768 → (l p : ℤ) → l ≡ both x u *ℤ at a 0 → p ≡ at a 10 *ℤ at y (n - 10) → Halves a x u y n 9 (l -ℤ p)
  unfolding whole_sum next_sum steps
  halves_start hx hu hv l p e f =
      record {
        low = x *ℤ at a 0 -ℤ at a 10 *ℤ at y (n - 10);
        high = u *ℤ at a 0;
        sum = rw (e, f, both_times) (both_sub_low (x *ℤ at a 0) (u *ℤ at a 0) (at a 10 *ℤ at y (n - 10)));
        low_rest = without_first (term a y n) 9 (x *ℤ at a 0) (at a 10 *ℤ at y (n - 10));
        high_rest = refl;
        low_size = omega (arith, abs_sub (x *ℤ at a 0) (at a 10 *ℤ at y (n - 10)), excitation_size x (at a 0) hx, product_size (at a 10) (at y (n - 10)) hv, size_sum_more a 9);
        high_size = omega (arith, excitation_size u (at a 0) hu);
      }

  -- one sample more, the m-th before n
  pub halves_turn : (k m : ℕ) → m ≡ k + 1 → (l c v r : ℤ) → Halves a x u y n m l → c ≡ both (at a m) (at a (m + 1)) → v ≡ at y (n - m) → nat_abs (at y (n - m)) ≤ 32768 → r ≡ c *ℤ v → Halves a x u y n k (l -ℤ r)
  halves_turn k m d l c v r h e f hv g =
      let t = at a m *ℤ at y (n - m) in
      let s = at a (m + 1) *ℤ at y (n - m) in
      record {
        low = h.low -ℤ t;
        high = h.high -ℤ s;
        sum = rw (h.sum, g, e, f, both_times (at a m) (at a (m + 1)) (at y (n - m))) (both_sub h.low h.high t s);
        low_rest = rest_turn (term a y n) k m d h.low t _ (rw d) h.low_rest;
        high_rest = rest_turn (next_term a y n) k m d h.high s _ (rw d) h.high_rest;
        low_size = size_turn h.low t (size (at a m)) (size_sum a m) (size_sum a k) _ (product_size (at a m) (at y (n - m)) hv) (rw d (size_sum_more a k)) h.low_size;
        high_size = size_turn h.high s (size (at a (m + 1))) (size_sum a (m + 1)) (size_sum a (k + 1)) _ (product_size (at a (m + 1)) (at y (n - m)) hv) (rw d (size_sum_more a (k + 1))) h.high_size;
      }

  module _ (bounded : size_sum a 10 ≤ 61439) (m : ℕ) (l : ℤ) (h : Halves a x u y n m l) where
    pub low_small : nat_abs h.low ≤ 2013233152
    low_small = omega (arith, h.low_size, size_sum_first a m)

    pub high_small : nat_abs h.high ≤ 2013233152
    high_small = omega (arith, h.high_size, size_sum_first a (m + 1))

    pub halves_size : nat_abs l ≤ 8646770549076230144
    halves_size = rw h.sum (omega (arith, both_size h.low h.high 2013233152 low_small high_small))

    pub halves_fits : SFits w64 l
    halves_fits = record { sfits = omega (arith, mag_abs l, halves_size) }

    -- the code parts the halves
    pub halves_raised : SFits w64 (l +ℤ pos 2147483648)
    halves_raised = record { sfits = omega (arith, mag_abs (l +ℤ pos 2147483648), abs_add l (pos 2147483648), halves_size) }

    pub halves_high : shr_z (l +ℤ pos 2147483648) (2 ^ 32) ≡ h.high
    halves_high = ap (λ (z : ℤ). shr_z (z +ℤ pos 2147483648) (2 ^ 32)) h.sum ∙ high_half h.low h.high (omega (arith, low_small))

    pub halves_up : SFits w64 (h.high *ℤ pos 4294967296)
    halves_up = record { sfits = omega (arith, mag_abs (h.high *ℤ pos 4294967296), abs_mul h.high (pos 4294967296), high_small) }

    pub halves_low : l -ℤ h.high *ℤ pos 4294967296 ≡ h.low
    halves_low = ap (λ (z : ℤ). z -ℤ h.high *ℤ pos 4294967296) h.sum ∙ low_half h.low h.high

-- a half, or a half less a product, less a product
pub half_less : (l p : ℤ) → nat_abs l ≤ 2013233152 → mag p < 2147483648 → mag (l -ℤ p) < 8589934592
half_less l p h q = omega (arith, mag_sub l p 2013233153 2147483648 (omega (arith, mag_abs l)) q)

pub small_fits : (l : ℤ) → mag l < 8589934592 → SFits w64 l
small_fits l h = record { sfits = omega arith }

pub next_fits : (l p : ℤ) → mag l < 8589934592 → mag p < 2147483648 → SFits w64 (l -ℤ p)
next_fits l p h q = record { sfits = omega (arith, mag_sub l p 8589934592 2147483648 h q) }

-- ---- the newest sample

module _ (a : List ℤ) (x u : ℤ) (y : List ℤ) (n : ℕ) (l : ℤ) (h : Halves a x u y n 1 l) where
  pub low_end : h.low -ℤ at a 1 *ℤ at y (n - 1) ≡ whole_sum a x y n
  unfolding steps
  low_end = h.low_rest

  pub high_end : h.high -ℤ at a 2 *ℤ at y (n - 1) ≡ next_sum a u y n
  unfolding steps
  high_end = h.high_rest

-- ---- the samples

-- when sample n is written, its product ends the sum of sample n + 1
module _ (a : List ℤ) (u : ℤ) (y : List ℤ) (n : ℕ) (w : ℤ) (from : 10 ≤ n) where
  older : (i : ℕ) → i < 9 → at (set y n w) (n + 1 - (suc i + 1)) ≡ at y (n - (i + 1))
  older i h =
      let e : n + 1 - (suc i + 1) ≡ n - (i + 1) = omega arith in
      rw e (get_or-set_other y n (n - (i + 1)) w (pos 0) (λ q. omega arith))

  pub sum_next : whole_sum a u (set y n w) (n + 1) ≡ next_sum a u y n -ℤ at a 1 *ℤ at (set y n w) n
  unfolding whole_sum next_sum steps
  sum_next =
      let e : n + 1 - (0 + 1) ≡ n = omega arith in
      without_front (term a (set y n w) (n + 1)) 9 (u *ℤ at a 0)
      ∙ ap (λ (k : ℕ). without (λ i. term a (set y n w) (n + 1) (suc i)) 9 (u *ℤ at a 0) -ℤ at a 1 *ℤ at (set y n w) k) e
      ∙ ap (λ (z : ℤ). z -ℤ at a 1 *ℤ at (set y n w) n)
      (steps_same _ _ 9 (u *ℤ at a 0) (λ i b r. ap (λ (z : ℤ). r -ℤ at a (i + 1 + 1) *ℤ z) (older i b)))

  pub past_next : Past y n 0 → nat_abs (at (set y n w) n) ≤ 32768 → Past (set y n w) (n + 1) 0
  past_next p h zero q b =
      let e : n + 1 - (0 + 1) ≡ n = omega arith in
      rw e h
  past_next p h (suc i) q b = rw (older i (omega arith)) (p i (omega arith) (omega arith))

module _ (a : List ℤ) (x : ℤ) (y : List ℤ) (n : ℕ) (bounded : size_sum a 10 ≤ 61439) (word : nat_abs x ≤ 32768) (past : Past y n 0) where
  pub sampled : (l w : ℤ) → l ≡ whole_sum a x y n → Rounded l w → Sampled a x y n w
  sampled l w e r =
      let h : Rounded (whole_sum a x y n) w = rw e at r in
      (h.1 ∙ sym (sample_whole a x y n bounded word past h.0), sym (sample_quiet a x y n bounded word past h.0))

-- the second of two, when the first is written; b and v are what the code holds
module _ (a : List ℤ) (u : ℤ) (y : List ℤ) (n : ℕ) (w : ℤ) (from : 10 ≤ n) (bounded : size_sum a 10 ≤ 61439) (word : nat_abs u ≤ 32768) (past : Past y n 0) (first : nat_abs (at (set y n w) n) ≤ 32768) where
  pub sampled_next : (b c v r : ℤ) → b ≡ c → c ≡ next_sum a u y n → v ≡ at (set y n w) n → Rounded (b -ℤ at a 1 *ℤ v) r → Sampled a u (set y n w) (n + 1) r
  sampled_next b c v r g e f q =
      sampled a u (set y n w) (n + 1) bounded word (past_next a u y n w from past first) (b -ℤ at a 1 *ℤ v) r (rw (g, e, f) (sym (sum_next a u y n w from))) q

-- ---- one sample more of the subframe, written at p; t is its word read back

pub reached_turn : (second : Bool) (a exc speech : List ℤ) (n : ℕ) {from start p q : ℕ} {x : ℤ} {y : List ℤ} → from ≡ exc_start second → start ≡ speech_start second → q ≡ from + n → p ≡ start + n → x ≡ at exc q
    → Reached second a exc speech y false n → {w t : ℤ} → t ≡ w → Sampled a x y p w → Reached second a exc speech (set y p t) false (n + 1)
reached_turn second a exc speech n d e g h f r b s =
    let k = f ∙ ap (at exc) g in
    rw h (samples_turn second a exc speech n d e k r.0 b (rw h at s.0), saturates_turn second a exc speech n d e k r.0 r.1 (rw h at s.1))

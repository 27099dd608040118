-- Laws of equation (40) without saturation: words within a limit, taps among zeros, sums of products by the sizes of the taps, and that the
-- shifted sum is what `interpolate` gives. Assumes nothing.
use Prim.Native.Nat.{ℕ, zero, suc, ◌+◌, ◌-◌, ◌*◌, ◌^◌, ◌≤◌, ◌<◌, zero-le}
use Rattle.std.specs.Prelude.{◌≡◌, Bool, List, eqb, ◌*ℤ◌, set, replicate}
use Rattle.std.proofs.Math.Path.{refl, ap}
use Rattle.std.proofs.Common.{sym, ◌∙◌, mul-le-mul, add-one, SFits}
use Rattle.std.proofs.Math.Bool.{true, false}
use native.Mathlib.Omega.{arith}
use Rattle.std.proofs.Math.Nat.{add_comm, add_assoc}
use Rattle.std.proofs.Math.Dec.{ltb}
use Rattle.std.proofs.Math.IntN.{ℤ, pos, nat_abs, ◌+ℤ◌, +ℤ_assoc, +ℤ_comm, +ℤ_idr, *ℤ-zero}
use Rattle.std.specs.Int.Signed.{mag, shr_z, nat_abs-le}
use Rattle.std.specs.Int.{w32}
use borrow.Author.Tests.{lt-ltb, le-ltb, ltb-true, ltb-false, eqb-true, eqb-false}
use Rattle.laws.specs.Lists.{at, at_set, at_zeros}
use Rattle.laws.specs.Loops.{steps, steps_same, steps_still, steps_parts, run, run_in, run_out}
use Rattle.laws.specs.Sums.{outward, abs_add, abs_sum, sum_grows, sum_part}
use Rattle.laws.specs.Range.{abs_mul, mag_abs}
use Rattle.basic_op.specs.Ops.{l_mac, round}
use Rattle.basic_op.specs.Laws.{mac_twice, round_twice}
use Rattle.adaptive.specs.Adaptive.{interpolate}
use Rattle.adaptive.specs.Fast.{tap, taps, filtered, dot, size_sum, Small, Sums, Padded}

-- ---- words within a limit

pub small_next : (l : List ℤ) (p n m o : ℕ) → Small l p n (m + 1) → m ≤ o → mag (at l (p + n)) ≤ o → Small l p (n + 1) (o + 1)
small_next l p n m o s h k j t = by (eqb j n) refl
  where
    by : (b : Bool) → eqb j n ≡ b → mag (at l (p + j)) < o + 1
    by true e = rw (eqb-true j n e) (omega arith)
    by false e = omega (arith, s j (omega (arith, eqb-false j n e)))

-- a part of them
pub small_part : (l : List ℤ) (p n m q r : ℕ) → Small l p n m → p ≤ q → q + r ≤ p + n → Small l q r m
small_part l p n m q r s h k j t =
    let e : p + (q - p + j) ≡ q + j = omega arith in
    rw e at (s (q - p + j) (omega arith))

-- one more is stored
pub small_set : (l : List ℤ) (p n m i : ℕ) (v : ℤ) → Small l p n m → mag v < m → Small (set l i v) p n m
small_set l p n m i v s h j t = at_set (λ z. mag z < m) l i (p + j) v h (s j t)

-- ---- the sum of products

-- a product with a word of 15 bits
pub abs_term : (x y : ℤ) → mag x < 16384 → nat_abs (x *ℤ y) ≤ 16384 * (mag y + 1)
abs_term x y h = rw abs_mul (mul-le-mul (nat_abs-le x h) (nat_abs-le y (omega arith)))

-- a product with 0
abs_none : (x y : ℤ) → y ≡ pos 0 → nat_abs (x *ℤ y) ≤ 16384 * (mag y + 1)
abs_none x y e = rw (e, *ℤ-zero) zero-le

-- one product more
module _ (c u : List ℤ) (p n : ℕ) (s v : ℤ) (e : s ≡ dot c u p n) (g : v ≡ at u (p + n) *ℤ at c n) where
  pub dot_next : s +ℤ v ≡ dot c u p (n + 1)
  unfolding dot steps
  dot_next = rw (add-one, e, g)

  pub fits_next : Sums c u p → n + 1 ≤ 32 → SFits w32 (s +ℤ v)
  fits_next h k = record { sfits = rw dot_next (h (n + 1) k) }

-- twenty taps from o on among zeros; the first of them weighs the word at p
module _ (c u : List ℤ) (p o : ℕ) (few : o ≤ 12) (room : o ≤ p) (bounded : size_sum c 32 ≤ 65534) (padded : Padded c o) (small : Small u p 20 16384) where
  product : ℕ → ℤ
  product j = at u (p - o + j) *ℤ at c j

  size : ℕ → ℕ
  size j = mag (at c j) + 1

  -- of the twenty
  term : ℕ → ℤ
  term j = at u (p + j) *ℤ at c (o + j)

  bound : (j : ℕ) → nat_abs (product j) ≤ 16384 * size j
  unfolding product size
  bound j = by (ltb j o) refl (ltb j (o + 20)) refl
    where
      by : (a : Bool) → ltb j o ≡ a → (b : Bool) → ltb j (o + 20) ≡ b → nat_abs (at u (p - o + j) *ℤ at c j) ≤ 16384 * (mag (at c j) + 1)
      by true e b g = abs_none (at u (p - o + j)) (at c j) (padded.0 j (ltb-true j o e))
      by false e true g =
          let h : o ≤ j = ltb-false j o e in
          let k : p + (j - o) ≡ p - o + j = omega arith in
          abs_term (at u (p - o + j)) (at c j) (rw k at (small (j - o) (omega (arith, ltb-true j (o + 20) g))))
      by false e false g = abs_none (at u (p - o + j)) (at c j) (padded.1 j (ltb-false j (o + 20) g))

  dot_bound : (n k : ℕ) → k + n ≡ 32 → nat_abs (dot c u (p - o) n) ≤ 1073709056
  unfolding dot size_sum product size
  dot_bound n k e = omega (arith, abs_sum product size 16384 n (λ j l. bound j), rw e at (sum_grows size n k))

  pub sums_fit : Sums c u (p - o)
  sums_fit n h = omega (arith, mag_abs (dot c u (p - o) n), dot_bound n (32 - n) (omega arith))

  pub fits_rounded : SFits w32 (dot c u (p - o) 32 +ℤ pos 16384)
  fits_rounded = record { sfits = omega (arith, mag_abs (dot c u (p - o) 32 +ℤ pos 16384), abs_add (dot c u (p - o) 32) (pos 16384), dot_bound 32 0 refl) }

  -- the zeros add nothing to the sum
  dot_padded : dot c u (p - o) 32 ≡ steps (λ j s. s +ℤ term j) 20 (pos 0)
  unfolding dot term
  dot_padded =
      let front : steps f o (pos 0) ≡ pos 0 = steps_still f o (pos 0) (λ k h. none k (padded.0 k h) (pos 0)) in
      let back : steps f (o + 20 + (12 - o)) (pos 0) ≡ steps f (o + 20) (pos 0) =
      steps_parts f (o + 20) (12 - o) (pos 0) ∙ steps_still _ (12 - o) _ (λ k h. none (o + 20 + k) (padded.1 (o + 20 + k) (omega arith)) _) in
      (λ i. steps f (parts i) (pos 0)) ∙ back ∙ steps_parts f o 20 (pos 0) ∙ ap (steps (λ j. f (o + j)) 20) front ∙ steps_same _ _ 20 (pos 0) (λ j h t. rw (place j))
    where
      f : ℕ → ℤ → ℤ
      f j s = s +ℤ at u (p - o + j) *ℤ at c j

      parts : 32 ≡ o + 20 + (12 - o)
      parts = omega arith

      none : (j : ℕ) → at c j ≡ pos 0 → (s : ℤ) → s +ℤ at u (p - o + j) *ℤ at c j ≡ s
      none j e s = rw (e, *ℤ-zero, +ℤ_idr)

      place : (j : ℕ) → p - o + (o + j) ≡ p + j
      place j = omega arith

  -- and 1 each to the sum of the sizes, which is at least that of the twenty
  size_sum_padded : steps (λ j s. s + size (o + j)) 20 0 ≤ size_sum c 32
  unfolding size_sum size
  size_sum_padded =
      let e : 12 - o + (o + 20) ≡ 32 = omega arith in
      omega (arith, sum_part size o 20, rw e at (sum_grows size (o + 20) (12 - o)))

  term_bound : (j : ℕ) → j < 20 → nat_abs (term j) ≤ 16384 * size (o + j)
  unfolding term size
  term_bound j h = abs_term (at u (p + j)) (at c (o + j)) (small j h)

  pairs : ℕ → ℤ
  pairs n = steps (λ i s. s +ℤ term (9 - i) +ℤ term (10 + i)) n (pos 0)

  sizes : ℕ → ℕ
  sizes n = steps (λ i s. s + size (o + (9 - i)) + size (o + (10 + i))) n 0

  macs : ℕ → ℤ
  macs n = steps (λ i s. l_mac (l_mac s (at u (p + (9 - i))) (at c (o + (9 - i)))) (at u (p + (10 + i))) (at c (o + (10 + i)))) n (pos 0)

  pairs_bound : (n : ℕ) → n ≤ 10 → nat_abs (pairs n) ≤ 16384 * sizes n
  unfolding pairs sizes steps
  pairs_bound zero h = zero-le
  pairs_bound (suc n) h =
      omega (arith, abs_add (pairs n +ℤ term (9 - n)) (term (10 + n)), abs_add (pairs n) (term (9 - n)), pairs_bound n (omega arith), term_bound (9 - n) (omega arith), term_bound (10 + n) (omega arith))

  macs_twice : (n : ℕ) → n ≤ 10 → sizes n ≤ 65534 → macs n ≡ pairs n +ℤ pairs n
  unfolding pairs sizes macs steps term
  macs_twice zero h l = refl
  macs_twice (suc n) h l =
      let b : nat_abs (pairs n) ≤ 16384 * sizes n = pairs_bound n (omega arith) in
      let y : nat_abs (term (9 - n)) ≤ 16384 * size (o + (9 - n)) = term_bound (9 - n) (omega arith) in
      let z : nat_abs (term (10 + n)) ≤ 16384 * size (o + (10 + n)) = term_bound (10 + n) (omega arith) in
      rw (
        macs_twice n (omega arith) (omega arith),
        mac_twice (pairs n) (at u (p + (9 - n))) (at c (o + (9 - n))) (16384 * sizes n) (16384 * size (o + (9 - n))) b y (omega arith),
      )
      (mac_twice (pairs n +ℤ term (9 - n)) (at u (p + (10 + n))) (at c (o + (10 + n))) (16384 * (sizes n + size (o + (9 - n)))) (16384 * size (o + (10 + n))) (omega (arith, abs_add (pairs n) (term (9 - n)))) z (omega arith))

  in_order : macs 10 ≡ dot c u (p - o) 32 +ℤ dot c u (p - o) 32
  unfolding pairs sizes
  in_order =
      let e : dot c u (p - o) 32 ≡ pairs 10 = dot_padded ∙ outward ◌+ℤ◌ (pos 0) +ℤ_assoc +ℤ_comm term 9 in
      let f : steps (λ j s. s + size (o + j)) 20 0 ≡ sizes 10 = outward ◌+◌ 0 add_assoc add_comm (λ j. size (o + j)) 9 in
      rw e (macs_twice 10 (omega arith) (omega (arith, size_sum_padded)))

  places : filtered c o (p + 9) u ≡ round (macs 10)
  unfolding filtered macs
  places = ap round (steps_same _ _ 10 (pos 0) (λ i h t. rw (before i h, after i)))
    where
      before : (i : ℕ) → i < 10 → p + 9 - i ≡ p + (9 - i)
      before i h = omega arith

      after : (i : ℕ) → p + 9 + 1 + i ≡ p + (10 + i)
      after i = omega arith

  pub filtered_is : shr_z (dot c u (p - o) 32 +ℤ pos 16384) (2 ^ 15) ≡ filtered c o (p + 9) u
  filtered_is = sym (places ∙ ap round in_order ∙ round_twice (dot c u (p - o) 32) (omega (arith, dot_bound 32 0 refl)))

-- ---- the taps are those of `interpolate`

tap_before : (phase i : ℕ) → i < 10 → tap phase (9 - i) ≡ phase + 3 * i
unfolding tap
tap_before phase i h = rw (lt-ltb (9 - i) 10 (omega arith)) (omega arith)

tap_after : (phase i : ℕ) → tap phase (10 + i) ≡ 3 - phase + 3 * i
unfolding tap
tap_after phase i = rw (le-ltb (10 + i) 10 (omega arith)) (omega arith)

at_taps : (b30 : List ℤ) (phase o j : ℕ) → o ≤ 12 → j < 20 → at (taps b30 phase o) (o + j) ≡ at b30 (tap phase j)
unfolding taps
at_taps b30 phase o j h k = run_in (λ j. at b30 (tap phase j)) o 20 (replicate 32 (pos 0)) j (omega arith) k

pub taps_padded : (b30 c : List ℤ) (phase o : ℕ) → c ≡ taps b30 phase o → Padded c o
unfolding taps
taps_padded b30 c phase o e =
    rw e (
      (λ j h. run_out _ o 20 _ j (λ i k q. omega arith) ∙ at_zeros 32 j),
      λ j h. run_out _ o 20 _ j (λ i k q. omega arith) ∙ at_zeros 32 j,
    )

pub by_taps : (b30 : List ℤ) (phase o x : ℕ) (u : List ℤ) → o ≤ 12 → filtered (taps b30 phase o) o x u ≡ interpolate b30 phase x u
unfolding filtered interpolate
by_taps b30 phase o x u l = ap round (steps_same _ _ 10 (pos 0) (λ i h t. rw (near i h, far i h)))
  where
    near : (i : ℕ) → i < 10 → at (taps b30 phase o) (o + (9 - i)) ≡ at b30 (phase + 3 * i)
    near i h = at_taps b30 phase o (9 - i) l (omega arith) ∙ ap (at b30) (tap_before phase i h)

    far : (i : ℕ) → i < 10 → at (taps b30 phase o) (o + (10 + i)) ≡ at b30 (3 - phase + 3 * i)
    far i h = at_taps b30 phase o (10 + i) l (omega arith) ∙ ap (at b30) (tap_after phase i)

pub words_by_taps : (b30 c : List ℤ) (phase o k p n : ℕ) (l x : List ℤ) → o ≤ 12 → c ≡ taps b30 phase o → x ≡ run (λ j e. filtered c o (p + j - k) e) p n l → x ≡ run (λ j e. interpolate b30 phase (p + j - k) e) p n l
words_by_taps b30 c phase o k p n l x h e g =
    g ∙ ap (λ (d : List ℤ). run (λ j e. filtered d o (p + j - k) e) p n l) e ∙ (λ i. run (λ j e. by_taps b30 phase o (p + j - k) e h i) p n l)

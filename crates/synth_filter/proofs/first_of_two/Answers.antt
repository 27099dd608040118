-- `synth_filter::first_of_two` meets its contract: the two sums are parted, the newest sample is taken off both, and the first is rounded.
use Prim.Native.Nat.{◌-◌, ◌^◌, ◌≤◌, ◌<◌}
use mathlib.Core.Path.{◌≡◌, refl, ap, ◌∙◌}
use native.Mathlib.Omega.{arith}
use lib.IntN.{ℤ, pos, ◌+ℤ◌, ◌*ℤ◌, ◌-ℤ◌}
use lib.Signed.{shr_z, mag, nat_abs-le}
use mir.Syntax.{w16, w64}
use mir.Val.{to_z, of_z}
use mir.Facts.{to_z-of_z}
use Rattle.laws.specs.Lists.{at}
use Rattle.laws.specs.Back.{via}
use Rattle.synth_filter.specs.Fast.{whole_sum, next_sum, size_sum, Past, Halves}
use Rattle.laws.specs.Range.{mag_abs}
use Rattle.synth_filter.specs.FastLaws.{past_turn}
use Rattle.synth_filter.specs.Pairs.{low_small, high_small, halves_raised, halves_high, halves_up, halves_low, low_end, high_end, half_less, small_fits, sampled}
use Rattle.std.proofs.Common.{rules}
use Rattle.synth_filter.proofs.first_of_two.Goals as goal
use Rattle.synth_filter.proofs.first_of_two.Goals.{After-both_sums-sums, After-product, After-product-2, After-sar64-high, Start}

halves : (c : After-both_sums-sums) → Halves c.args.a.now c.args.x c.args.next c.args.y.now c.args.n 1 c.both_sums-sums.result
halves c = rw (to_z-of_z c.ranges.x, to_z-of_z c.ranges.next) at c.both_sums-sums.ensures.halves

bounded : (c : Start) → size_sum c.args.a.now 10 ≤ 61439
bounded c = c.requires.a_bound

pub overflow_add-sums : goal.overflow_add-sums
overflow_add-sums c = rw (via w64 c.both_sums-sums.result c.both_sums-sums.type_inv) (halves_raised _ _ _ _ _ (bounded c.before) 1 _ (halves c))

high : (c : After-sar64-high) → to_z w64 (of_z w64 c.sar64-high.result) ≡ (halves c.before).high
high c =
    via w64 c.sar64-high.result c.sar64-high.type_inv ∙ c.sar64-high.ensures ∙ ap (λ (z : ℤ). shr_z z (2 ^ 32)) (to_z-of_z (overflow_add-sums c.before) ∙ ap (λ (z : ℤ). z +ℤ pos 2147483648) (via w64 c.both_sums-sums.result c.both_sums-sums.type_inv))
    ∙ halves_high _ _ _ _ _ (bounded c.before.before) 1 _ (halves c.before)

pub overflow_mul-low : goal.overflow_mul-low
overflow_mul-low c = rw (high c) (halves_up _ _ _ _ _ (bounded c.before.before) 1 _ (halves c.before))

-- what the code takes the low half for
low_is : (c : After-sar64-high) → to_z w64 (of_z w64 c.both_sums-sums.result) -ℤ to_z w64 (of_z w64 (to_z w64 (of_z w64 c.sar64-high.result) *ℤ pos 4294967296)) ≡ (halves c.before).low
low_is c =
    ap (λ (z : ℤ). to_z w64 (of_z w64 c.both_sums-sums.result) -ℤ z) (to_z-of_z (overflow_mul-low c) ∙ ap (λ (z : ℤ). z *ℤ pos 4294967296) (high c))
    ∙ ap (λ (z : ℤ). z -ℤ (halves c.before).high *ℤ pos 4294967296) (via w64 c.both_sums-sums.result c.both_sums-sums.type_inv) ∙ halves_low _ _ _ _ _ (bounded c.before.before) 1 _ (halves c.before)

pub overflow_sub-low : goal.overflow_sub-low
overflow_sub-low c =
    let h = halves c.before in
    rw (low_is c) (small_fits h.low (omega (arith, mag_abs h.low, low_small _ _ _ _ _ (bounded c.before.before) 1 _ h)))

low : (c : After-sar64-high) → to_z w64 (of_z w64 (to_z w64 (of_z w64 c.both_sums-sums.result) -ℤ to_z w64 (of_z w64 (to_z w64 (of_z w64 c.sar64-high.result) *ℤ pos 4294967296)))) ≡ (halves c.before).low
low c = to_z-of_z (overflow_sub-low c) ∙ low_is c

newest : (c : Start) → to_z w16 (of_z w16 c.args.newest) ≡ at c.args.y.now (c.args.n - 1)
newest c = to_z-of_z c.ranges.newest ∙ c.requires.newest_value

-- the sum of sample n + 1
next_size : (c : After-product) → mag (to_z w64 (of_z w64 c.sar64-high.result) -ℤ to_z w64 (of_z w64 c.product.result)) < 8589934592
next_size c =
    rw (high c.before.before, via w64 c.product.result c.product.type_inv) (half_less (halves c.before.before.before).high c.product.result (high_small _ _ _ _ _ (bounded c.before.before.before.before) 1 _ (halves c.before.before.before)) c.product.ensures.result_bound)

pub overflow_sub-sum : goal.overflow_sub-sum
overflow_sub-sum c = small_fits (to_z w64 (of_z w64 c.sar64-high.result) -ℤ to_z w64 (of_z w64 c.product.result)) (next_size c)

the_next : (c : After-product)
    → to_z w64 (of_z w64 (to_z w64 (of_z w64 c.sar64-high.result) -ℤ to_z w64 (of_z w64 c.product.result))) ≡ next_sum c.args.a.now c.args.next c.args.y.now c.args.n
the_next c =
    let g = c.args in
    to_z-of_z (overflow_sub-sum c) ∙ rw (high c.before.before, via w64 c.product.result c.product.type_inv, c.product.ensures.value, via w16 (at g.a.now 2) c.product-arg-1.given, newest c.before.before.before.before) (high_end _ _ _ _ _ _ (halves c.before.before.before))

-- the sum of the sample
pub overflow_sub-low-2 : goal.overflow_sub-low-2
overflow_sub-low-2 c =
    rw (low c.before.before.before.before, via w64 c.product-2.result c.product-2.type_inv)
    (small_fits ((halves c.before.before.before.before.before).low -ℤ c.product-2.result) (half_less (halves c.before.before.before.before.before).low c.product-2.result (low_small _ _ _ _ _ (bounded c.before.before.before.before.before.before) 1 _ (halves c.before.before.before.before.before)) c.product-2.ensures.result_bound))

sum : (c : After-product-2)
    → to_z w64 (of_z w64 (to_z w64 (of_z w64 (to_z w64 (of_z w64 c.both_sums-sums.result) -ℤ to_z w64 (of_z w64 (to_z w64 (of_z w64 c.sar64-high.result) *ℤ pos 4294967296)))) -ℤ to_z w64 (of_z w64 c.product-2.result))) ≡ whole_sum c.args.a.now c.args.x c.args.y.now c.args.n
sum c =
    let g = c.args in
    to_z-of_z (overflow_sub-low-2 c) ∙ rw (low c.before.before.before.before, via w64 c.product-2.result c.product-2.type_inv, c.product-2.ensures.value, via w16 (at g.a.now 1) c.product-arg-2-1.given, newest c.before.before.before.before.before.before) (low_end _ _ _ _ _ _ (halves c.before.before.before.before.before))

pub returns : goal.returns
returns c =
    let s = c.before.before.before in
    let t = s.before.before in
    let e = c.in_ok-word.ensures in
    let f : mag c.in_ok-word.word < 32768 = search rules in
    let p = past_turn c.args.y.now c.args.n 0 1 refl c.both_sums-sums.ensures.past (rw c.requires.newest_value at c.ranges.newest.sfits) in
    record { sampled = sampled c.args.a.now c.args.x c.args.y.now c.args.n c.requires.a_bound (nat_abs-le c.args.x c.ranges.x.sfits) p _ _ (sum s) (e.0, via w16 _ f ∙ e.1); sum_value = the_next t; sum_bound = rw (to_z-of_z (overflow_sub-sum t)) (next_size t); past = p }

pub returns-in_err-word-clause-past : goal.returns-in_err-word-clause-past
returns-in_err-word-clause-past c =
    past_turn c.args.y.now c.args.n 0 1 refl c.both_sums-sums.ensures.past (rw c.requires.newest_value at c.ranges.newest.sfits)

pub bounds-a-2 : goal.bounds-a-2
bounds-a-2 c = omega arith

pub bounds-a-1 : goal.bounds-a-1
bounds-a-1 c = omega arith

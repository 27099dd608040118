-- The answers of `synth_filter::both_sums`.
use Prim.Native.Nat.{◌+◌, ◌-◌}
use mathlib.Core.Path.{◌≡◌, refl, ap, ◌∙◌}
use native.Mathlib.Omega.{arith}
use lib.IntN.{◌-ℤ◌}
use lib.Signed.{nat_abs-le}
use mir.Syntax.{w16, w64}
use mir.Val.{to_z, of_z}
use mir.Facts.{to_z-of_z}
use Rattle.laws.specs.Lists.{at}
use Rattle.laws.specs.Back.{via}
use Rattle.synth_filter.specs.Fast.{both, pairs, Halves}
use Rattle.synth_filter.specs.FastLaws.{past_none, past_turn}
use Rattle.synth_filter.specs.Pairs.{pairs_at, pairs_size, halves_start, halves_turn, halves_fits}
use Rattle.std.proofs.Common.{rules}
use Rattle.synth_filter.proofs.both_sums.Goals as goal
use Rattle.synth_filter.proofs.both_sums.Goals.{After-both_times-arg-in-loop-i-1, After-both_times-l, After-product}

pub both_times-requires : goal.both_times-requires
both_times-requires c = rw (via w64 c.both.result c.both.type_inv) c.both.ensures.result_bound

-- the sums when the oldest sample is taken off
first : (c : After-product)
    → Halves c.args.a.now (to_z w16 (of_z w16 c.args.x)) (to_z w16 (of_z w16 c.args.next)) c.args.y.now c.args.n 9 (to_z w64 (of_z w64 c.both_times.result) -ℤ to_z w64 (of_z w64 c.product.result))
first c =
    let g = c.args in
    let ex = to_z-of_z c.ranges.x in
    let en = to_z-of_z c.ranges.next in
    let v = c.product-arg-2-1.given in
    let e = via w64 c.both_times.result c.both_times.type_inv ∙ c.both_times.ensures in
    let f = via w64 c.product.result c.product.type_inv ∙ c.product.ensures.value in
    halves_start g.a.now (to_z w16 (of_z w16 g.x)) (to_z w16 (of_z w16 g.next)) g.y.now g.n (rw ex (nat_abs-le g.x c.ranges.x.sfits)) (rw en (nat_abs-le g.next c.ranges.next.sfits)) (nat_abs-le (at g.y.now (g.n - 10)) v) (to_z w64 (of_z w64 c.both_times.result)) (to_z w64 (of_z w64 c.product.result))
    (cc (e, via w64 c.both.result c.both.type_inv, c.both.ensures.value, via w16 (at g.a.now 0) c.both_times-arg-1.given))
    (cc (f, via w16 (at g.a.now 10) c.product-arg-1.given, via w16 (at g.y.now (g.n - 10)) v))

pub overflow_sub-l : goal.overflow_sub-l
overflow_sub-l c =
    halves_fits _ _ _ _ _ c.requires.a_bound 9 _ (first c)

pub loop-i-init : goal.loop-i-init
loop-i-init c =
    let g = c.args in
    (search rules, (rw (to_z-of_z (overflow_sub-l c)) (first c), past_turn g.y.now g.n 9 10 refl (past_none g.y.now g.n) c.product-arg-2-1.given))

-- the coefficients that the code reads
pair : (c : After-both_times-arg-in-loop-i-1)
    → at c.args.b.now (9 - c.loop-i.i) ≡ at (pairs c.args.a.now) (9 - c.loop-i.i)
pair c = ap (λ (l : _). at l (9 - c.loop-i.i)) c.requires.b_value

pub both_times-l-requires : goal.both_times-l-requires
both_times-l-requires c =
    let i = c.loop-i.i in
    let k : 9 - i ≡ 8 - i + 1 = omega arith in
    rw (via w64 _ c.both_times-arg-in-loop-i-1.given, pair c.before, k) (pairs_size c.args.a.now (8 - i) c.requires.a_bound (omega arith))

-- the sums after a turn
turn : (c : After-both_times-l)
    → Halves c.args.a.now (to_z w16 (of_z w16 c.args.x)) (to_z w16 (of_z w16 c.args.next)) c.args.y.now c.args.n (9 - (c.loop-i.i + 1)) (to_z w64 c.loop-i.l-bits -ℤ to_z w64 (of_z w64 c.both_times-l.result))
turn c =
    let g = c.args in
    let i = c.loop-i.i in
    let d : 9 - i ≡ 9 - (i + 1) + 1 = omega arith in
    let v = c.both_times-arg-in-loop-i-2-1.given in
    let e = via w64 _ c.both_times-arg-in-loop-i-1.given ∙ pair c.before.before ∙ pairs_at g.a.now (9 - i) (omega arith) in
    halves_turn g.a.now _ _ g.y.now g.n (9 - (i + 1)) (9 - i) d _ _ _ _ c.loop-i.invariant.1.0 e (via w16 (at g.y.now (g.n - (9 - i))) v) (nat_abs-le (at g.y.now (g.n - (9 - i))) v) (via w64 c.both_times-l.result c.both_times-l.type_inv ∙ c.both_times-l.ensures)

pub overflow_sub-l-in-loop-i : goal.overflow_sub-l-in-loop-i
overflow_sub-l-in-loop-i c =
    halves_fits _ _ _ _ _ c.requires.a_bound _ _ (turn c)

pub loop-i-preserved : goal.loop-i-preserved
loop-i-preserved c =
    let g = c.args in
    let i = c.loop-i.i in
    let d : 9 - i ≡ 9 - (i + 1) + 1 = omega arith in
    (search rules, (rw (to_z-of_z (overflow_sub-l-in-loop-i c)) (turn c), past_turn g.y.now g.n (9 - (i + 1)) (9 - i) d c.loop-i.invariant.1.1 c.both_times-arg-in-loop-i-2-1.given))

pub returns : goal.returns
returns c =
    let e : 9 - c.loop-i.i ≡ 1 = omega arith in
    record { halves = rw (to_z-of_z c.ranges.x, to_z-of_z c.ranges.next, e) at c.loop-i.invariant.1.0; past = rw e at c.loop-i.invariant.1.1 }

pub bounds-a-0 : goal.bounds-a-0
bounds-a-0 c = omega arith

pub bounds-a-10 : goal.bounds-a-10
bounds-a-10 c = omega arith

pub overflow_sub-n : goal.overflow_sub-n
overflow_sub-n c = omega arith

pub offset_bounds-y-n : goal.offset_bounds-y-n
offset_bounds-y-n c = omega arith

pub bounds-y-n : goal.bounds-y-n
bounds-y-n c = omega arith

pub overflow_sub-k : goal.overflow_sub-k
overflow_sub-k c = omega arith

pub offset_bounds-b-k : goal.offset_bounds-b-k
offset_bounds-b-k c = omega arith

pub bounds-b-k : goal.bounds-b-k
bounds-b-k c = omega arith

pub overflow_sub-n-in-loop-i : goal.overflow_sub-n-in-loop-i
overflow_sub-n-in-loop-i c = omega arith

pub offset_bounds-y-n-in-loop-i : goal.offset_bounds-y-n-in-loop-i
offset_bounds-y-n-in-loop-i c = omega arith

pub bounds-y-n-in-loop-i : goal.bounds-y-n-in-loop-i
bounds-y-n-in-loop-i c = omega arith

pub overflow_step-i : goal.overflow_step-i
overflow_step-i c = omega arith

pub loop-i-smaller : goal.loop-i-smaller
loop-i-smaller c = omega arith

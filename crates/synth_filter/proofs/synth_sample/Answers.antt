-- The answers of `synth_filter::synth_sample`.
use Prim.Native.Nat.{◌+◌, ◌-◌}
use mathlib.Core.Path.{◌≡◌, ◌∙◌}
use native.Mathlib.Omega.{arith}
use mir.Syntax.{w16, w32}
use mir.Facts.{to_z-of_z}
use Rattle.laws.specs.Lists.{at}
use Rattle.laws.specs.Loops.{steps}
use Rattle.laws.specs.Back.{via}
use Rattle.synth_filter.specs.Filter.{synth_sum, synth_sum_overflow}
use Rattle.synth_filter.specs.Laws.{sum_turn, overflow_turn, sample_end, overflow_end}
use Rattle.std.proofs.Common.{rules}
use Rattle.synth_filter.proofs.synth_sample.Goals as goal

pub loop-i-init : goal.loop-i-init
unfolding synth_sum synth_sum_overflow steps
loop-i-init c =
    let e = via w16 (at c.args.a.now 0) c.a0-1.given in
    (search rules, (cc (via w32 c.l_mult-l.result c.l_mult-l.type_inv, e), cc e))

pub loop-i-preserved : goal.loop-i-preserved
loop-i-preserved c =
    let i = c.loop-i.i in
    let e = via w16 (at c.args.a.now (i + 1)) c.c-1.given in
    let f = via w16 (at c.args.y.now (c.args.n - (i + 1))) c.past-1.given in (
      search rules,
      (
        sum_turn _ _ _ _ i c.loop-i.invariant.1.0 e f (via w32 c.l_msu-l.result c.l_msu-l.type_inv) c.l_msu-l.ensures,
        overflow_turn _ _ _ _ i c.loop-i.invariant.1.0 e f c.loop-i.invariant.1.1 c.l_msu_overflow-overflow.ensures,
      ),
    )

pub returns : goal.returns
returns c =
    let d : c.loop-i.i ≡ 10 = omega arith in
    let e = to_z-of_z c.ranges.x in
    let g = via w32 c.l_shl-s.result c.l_shl-s.type_inv ∙ c.l_shl-s.ensures in
    record { word_value = sample_end _ _ _ _ _ d e c.loop-i.invariant.1.0 g (via w16 c.round.result c.round.type_inv) c.round.ensures; overflow_value = overflow_end _ _ _ _ _ d e c.loop-i.invariant.1.0 g c.loop-i.invariant.1.1 c.l_shl3_overflow.ensures c.round_overflow.ensures }

pub bounds-a-0 : goal.bounds-a-0
bounds-a-0 c = omega arith

pub overflow_add-c : goal.overflow_add-c
overflow_add-c c = omega arith

pub offset_bounds-a-i : goal.offset_bounds-a-i
offset_bounds-a-i c = omega arith

pub bounds-a-i : goal.bounds-a-i
bounds-a-i c = omega arith

pub overflow_add-past : goal.overflow_add-past
overflow_add-past c = omega arith

pub overflow_sub-past : goal.overflow_sub-past
overflow_sub-past c = omega arith

pub offset_bounds-y-n : goal.offset_bounds-y-n
offset_bounds-y-n c = omega arith

pub bounds-y-n : goal.bounds-y-n
bounds-y-n c = omega arith

pub overflow_step-i : goal.overflow_step-i
overflow_step-i c = omega arith

pub loop-i-smaller : goal.loop-i-smaller
loop-i-smaller c = omega arith

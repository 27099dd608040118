-- The answers of `synth_filter::size_sum`.
use Prim.Native.Nat.{ℕ, ◌+◌, ◌-◌}
use mathlib.Core.Path.{◌≡◌, ap, ◌∙◌}
use native.Mathlib.Omega.{arith}
use mir.Syntax.{w16}
use Rattle.laws.specs.Lists.{at}
use Rattle.laws.specs.Loops.{steps, steps_turn}
use Rattle.laws.specs.Back.{via}
use Rattle.synth_filter.specs.Fast.{size, size_sum}
use Rattle.std.proofs.Common.{rules}
use Rattle.synth_filter.proofs.size_sum.Goals as goal

pub loop-i-init : goal.loop-i-init
unfolding size_sum steps
loop-i-init c =
    (search rules, (c.size-w.ensures.value ∙ ap size (via w16 (at c.args.a.now 0) c.size-arg-1.given), c.size-w.ensures.upper_bound))

pub loop-i-preserved : goal.loop-i-preserved
unfolding size_sum
loop-i-preserved c =
    let e = via w16 (at c.args.a.now (c.loop-i.i + 1)) c.size-arg-in-loop-i-1.given in
    (search rules, (steps_turn _ c.loop-i.i _ _ _ c.loop-i.invariant.1.0 (ap (λ (w : ℕ). c.loop-i.w + w) (c.size-w-in-loop-i.ensures.value ∙ ap size e)), omega (arith, c.size-w-in-loop-i.ensures.upper_bound)))

pub returns : goal.returns
returns c =
    let e : c.loop-i.i ≡ 10 = omega arith in
    cc e

pub bounds-a-0 : goal.bounds-a-0
bounds-a-0 c = omega arith

pub overflow_add-i : goal.overflow_add-i
overflow_add-i c = omega arith

pub offset_bounds-a-i : goal.offset_bounds-a-i
offset_bounds-a-i c = omega arith

pub bounds-a-i : goal.bounds-a-i
bounds-a-i c = omega arith

pub overflow_add-w : goal.overflow_add-w
overflow_add-w c = omega arith

pub overflow_step-i : goal.overflow_step-i
overflow_step-i c = omega arith

pub loop-i-smaller : goal.loop-i-smaller
loop-i-smaller c = omega arith

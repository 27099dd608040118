-- The answers of `synth::excitation`.
use Prim.Native.Nat.{◌-◌}
use mathlib.Core.Path.{◌∙◌}
use native.Mathlib.Omega.{arith}
use mir.Syntax.{w16}
use mir.Facts.{to_z-of_z}
use Rattle.laws.specs.Loops.{run, run_none, write, ended_from}
use Rattle.laws.specs.Back.{via2}
use Rattle.synth.specs.Synth.{excite, excitation}
use Rattle.std.proofs.Common.{rules}
use Rattle.synth.proofs.excitation.Goals as goal

pub loop-n-preserved : goal.loop-n-preserved
loop-n-preserved c = (
  search rules,
  write _ _ _ _ _ _ c.loop-n.invariant.1
      (via2 w16 w16 w16 (excite _ _) _ _ c.excite.result c.excite-arg-1.given c.excite-arg-in-loop-n-1.given c.excite.type_inv c.excite.ensures),
)

pub returns : goal.returns
unfolding excitation
returns c =
    ended_from (run _ _) 40 c.loop-n.invariant.1 (omega arith) ∙ rw (c.exc_start-start.ensures.value, to_z-of_z c.ranges.gp, to_z-of_z c.ranges.gc)

pub loop-n-init : goal.loop-n-init
loop-n-init c = (search rules, run_none _ _ _)

pub overflow_add-start : goal.overflow_add-start
overflow_add-start c = omega arith

pub offset_bounds-exc-start : goal.offset_bounds-exc-start
offset_bounds-exc-start c = omega arith

pub bounds-exc-start : goal.bounds-exc-start
bounds-exc-start c = omega arith

pub offset_bounds-code-n : goal.offset_bounds-code-n
offset_bounds-code-n c = omega arith

pub bounds-code-n : goal.bounds-code-n
bounds-code-n c = omega arith

pub overflow_add-start-in-loop-n : goal.overflow_add-start-in-loop-n
overflow_add-start-in-loop-n c = omega arith

pub offset_bounds-exc-start-in-loop-n : goal.offset_bounds-exc-start-in-loop-n
offset_bounds-exc-start-in-loop-n c = omega arith

pub bounds-exc-start-in-loop-n : goal.bounds-exc-start-in-loop-n
bounds-exc-start-in-loop-n c = omega arith

pub overflow_step-n : goal.overflow_step-n
overflow_step-n c = omega arith

pub loop-n-smaller : goal.loop-n-smaller
loop-n-smaller c = omega arith

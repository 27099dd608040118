-- The answers of `fixed::codevector`.
use Prim.Native.Nat.{◌-◌, ◌<◌}
use mathlib.Core.Path.{◌∙◌}
use native.Mathlib.Omega.{arith}
use mir.Syntax.{w16}
use mir.Facts.{to_z-of_z}
use Rattle.laws.specs.Loops.{steps, steps_none, steps_turn, ended_from}
use Rattle.laws.specs.Back.{via}
use Rattle.fixed.specs.Fixed.{position, pulse, codevector}
use Rattle.fixed.specs.Laws.{position_lt, codevector_is}
use Rattle.std.proofs.Common.{rules}
use Rattle.fixed.proofs.codevector.Goals as goal
use Rattle.fixed.proofs.codevector.Goals.{After-position}

place : (c : After-position) → c.position.result < 40
place c = rw c.position.ensures (position_lt _ _)

pub offset_bounds-code-position : goal.offset_bounds-code-position
offset_bounds-code-position c = record { fits = omega (arith, place c) }

pub bounds-code-position : goal.bounds-code-position
bounds-code-position c = place c

pub loop-k-preserved : goal.loop-k-preserved
loop-k-preserved c = (
  search rules,
  steps_turn _ _ _ _ _ c.loop-k.invariant.1
      (rw (via w16 c.pulse.result c.pulse.type_inv, c.pulse.ensures, c.position.ensures)),
)

pub returns : goal.returns
unfolding codevector
returns c = ended_from (steps _) 4 c.loop-k.invariant.1 (omega arith) ∙ codevector_is _ _ (to_z-of_z c.ranges.positive)

pub loop-k-init : goal.loop-k-init
loop-k-init c = (search rules, steps_none _ _)

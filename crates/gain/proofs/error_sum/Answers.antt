-- The answers of `gain::error_sum`.
use Prim.Native.Nat.{◌-◌}
use mathlib.Core.Path.{◌∙◌}
use native.Mathlib.Omega.{arith}
use mir.Syntax.{w16, w32}
use mir.Facts.{to_z-of_z}
use Rattle.laws.specs.Lists.{at}
use Rattle.laws.specs.Loops.{steps, steps_none, steps_turn, ended_from}
use Rattle.laws.specs.Back.{via}
use Rattle.gain.specs.Gain.{error_sum}
use Rattle.gain.specs.Laws.{fits_word}
use Rattle.std.proofs.Common.{rules}
use Rattle.gain.proofs.error_sum.Goals as goal

pub overflow_cast-u : goal.overflow_cast-u
overflow_cast-u c = fits_word (at c.args.mem c.loop-u.u-index) c.u-1.given

pub loop-u-preserved : goal.loop-u-preserved
loop-u-preserved c = (
  search rules,
  steps_turn _ _ _ _ _ c.loop-u.invariant.1
      (via w32 c.l_add-sum.result c.l_add-sum.type_inv ∙ c.l_add-sum.ensures ∙ rw (to_z-of_z (overflow_cast-u c.before), via w16 _ c.u-1.given)),
)

pub returns : goal.returns
unfolding error_sum
returns c = ended_from (steps _) 4 c.loop-u.invariant.1 (omega arith)

pub loop-u-init : goal.loop-u-init
loop-u-init c = (search rules, steps_none _ _)

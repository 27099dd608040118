-- The answers of `adaptive::rest`.
use mathlib.Core.Path.{◌∙◌}
use Prim.Native.Nat.{◌-◌}
use native.Mathlib.Omega.{arith}
use mir.Syntax.{w16}
use Rattle.laws.specs.Loops.{run, write, ended_from}
use Rattle.laws.specs.Back.{via}
use Rattle.adaptive.specs.Adaptive.{interpolate}
use Rattle.std.proofs.Common.{rules}
use Rattle.adaptive.proofs.rest.Goals as goal

pub loop-n-preserved : goal.loop-n-preserved
loop-n-preserved c =
    (search rules, λ l e. write _ _ _ _ _ _ (c.loop-n.invariant.1 l e) (via w16 _ c.interpolate.type_inv ∙ c.interpolate.ensures))

pub returns : goal.returns
returns c = λ l e. ended_from (run _ _) 40 (c.loop-n.invariant.1 l e) (omega arith)

pub loop-n-init : goal.loop-n-init
loop-n-init c = (search rules, λ l e. e)

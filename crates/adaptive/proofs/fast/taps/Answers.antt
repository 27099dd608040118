-- The answers of `adaptive::fast::taps`.
use mathlib.Core.Path.{ap, ◌∙◌}
use Prim.Native.Nat.{◌-◌}
use native.Mathlib.Omega.{arith}
use mir.Syntax.{w16}
use Rattle.laws.specs.Lists.{at}
use Rattle.laws.specs.Loops.{run, run_none, write, ended_from}
use Rattle.laws.specs.Back.{via}
use Rattle.adaptive.specs.Fast.{tap, taps}
use Rattle.std.proofs.Common.{rules}
use Rattle.adaptive.proofs.fast.taps.Goals as goal

pub loop-j-preserved : goal.loop-j-preserved
loop-j-preserved c =
    let b30 = c.args.b30.now in
    let p = c.tap in
    (search rules, write _ _ _ _ _ _ c.loop-j.invariant.1 (via w16 (at b30 p.result) c.c-1.given ∙ ap (at b30) p.ensures.0))

pub returns : goal.returns
unfolding taps
returns c = ended_from (run _ _) 20 c.loop-j.invariant.1 (omega arith)

pub loop-j-init : goal.loop-j-init
loop-j-init c = (search rules, run_none _ _ _)

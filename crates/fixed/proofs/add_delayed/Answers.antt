-- The answers of `fixed::add_delayed`.
use Prim.Native.Nat.{◌+◌, ◌-◌}
use mathlib.Core.Path.{◌∙◌}
use native.Mathlib.Omega.{arith}
use mir.Syntax.{w16}
use mir.Facts.{to_z-of_z}
use Rattle.laws.specs.Lists.{at}
use Rattle.laws.specs.Loops.{run_none, write}
use Rattle.laws.specs.Back.{via}
use Rattle.basic_op.specs.Ops.{add, mult}
use Rattle.fixed.specs.Laws.{add_delayed_end}
use Rattle.std.proofs.Common.{rules}
use Rattle.fixed.proofs.add_delayed.Goals as goal

pub loop-n-preserved : goal.loop-n-preserved
loop-n-preserved c =
    let out = c.loop-n.out in
    write _ _ _ _ _ _ c.loop-n.invariant
    (via w16 c.add.result c.add.type_inv ∙ c.add.ensures
    ∙ rw (via w16 (at out (c.args.t0 + c.loop-n.n)) c.add-arg-1.given, via w16 c.mult.result c.mult.type_inv ∙ c.mult.ensures, via w16 (at out c.loop-n.n) c.mult-arg-1.given))

pub returns : goal.returns
returns c = add_delayed_end _ c.loop-n.n _ _ (to_z-of_z c.ranges.b) (omega arith) c.loop-n.invariant

pub loop-n-init : goal.loop-n-init
loop-n-init c = run_none _ _ _

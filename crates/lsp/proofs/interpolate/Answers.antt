-- The answers of `lsp::interpolate`.
use mathlib.Core.Path.{refl}
use lib.Signed.{shr_z}
use mir.Syntax.{w16}
use Rattle.laws.specs.Lists.{at, filled_none, fill, filled_end}
use Rattle.laws.specs.Back.{via2}
use Rattle.basic_op.specs.Ops.{add}
use Rattle.lsp.specs.Lsp.{interpolate}
use native.Mathlib.Omega.{arith}
use Rattle.std.proofs.Common.{rules}
use Rattle.lsp.proofs.interpolate.Goals as goal

pub loop-i-preserved : goal.loop-i-preserved
loop-i-preserved c =
    let n = c.loop-i.i in (
      search rules,
      fill _ _ _ _ _ (search rules) c.loop-i.invariant.1
          (via2 w16 w16 w16 (λ x y. add (shr_z x 2) (shr_z y 2)) (at c.args.prev n) (at c.args.cur n) c.halfway.result c.halfway-arg-1.given c.halfway-arg-in-loop-i-1.given c.halfway.type_inv c.halfway.ensures),
    )

pub returns : goal.returns
unfolding interpolate
returns c = filled_end _ _ 10 _ _ c.loop-i.invariant.1 (omega arith) refl

pub loop-i-init : goal.loop-i-init
loop-i-init c = (search rules, filled_none _ _)

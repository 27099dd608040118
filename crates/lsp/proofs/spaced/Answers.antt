-- The answers of `lsp::spaced`.
use mathlib.Core.Path.{◌∙◌}
use mir.Syntax.{w16}
use mir.Val.{to_z, of_z}
use mir.Facts.{to_z-of_z}
use Rattle.laws.specs.Loops.{nowhere, nowhere_none, nowhere_hit, nowhere_miss, ended}
use Rattle.laws.specs.Back.{via2}
use Rattle.basic_op.specs.Ops.{add, sub}
use Rattle.lsp.specs.Laws.{close}
use native.Mathlib.Omega.{arith}
use Rattle.std.proofs.Common.{rules}
use Rattle.lsp.proofs.spaced.Goals as goal
use Rattle.lsp.proofs.spaced.Goals.{else-shortfall-gt0, then-shortfall-gt0}

pub loop-k-preserved : goal.loop-k-preserved
unfolding close
loop-k-preserved c = (
  search rules,
  let e = via2 w16 w16 w16 (λ x y. add (sub x y) (to_z w16 (of_z w16 c.args.spacing))) _ _ c.shortfall.result c.shortfall-arg-1.given c.shortfall-arg-in-loop-k-1.given c.shortfall.type_inv c.shortfall.ensures in
      elim c.if-shortfall-gt0.branch [ then-shortfall-gt0 w ↦ w.ok-is ∙ nowhere_hit _ _ (rw e at w.if-shortfall-gt0.true) | else-shortfall-gt0 w ↦ w.ok-is ∙ nowhere_miss _ _ _ c.loop-k.invariant.1 (rw e at w.if-shortfall-gt0.false) ],
)

pub returns : goal.returns
returns c = ended (nowhere _) 9 c.loop-k.invariant.1 (omega arith) ∙ rw (to_z-of_z c.ranges.spacing)

pub loop-k-init : goal.loop-k-init
loop-k-init c = (search rules, nowhere_none _)

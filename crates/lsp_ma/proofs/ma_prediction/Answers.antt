-- The answers of `lsp_ma::ma_prediction`.
use mathlib.Core.Path.{refl}
use mir.Syntax.{w16}
use Rattle.laws.specs.Lists.{filled_none, fill, filled_end}
use Rattle.laws.specs.Back.{via2}
use Rattle.basic_op.specs.Ops.{l_mult, extract_h}
use Rattle.lsp_ma.specs.Ma.{add_past, ma_prediction}
use native.Mathlib.Omega.{arith}
use Rattle.std.proofs.Common.{rules}
use Rattle.lsp_ma.proofs.ma_prediction.Goals as goal

pub loop-i-preserved : goal.loop-i-preserved
loop-i-preserved c = (
  search rules,
  fill _ _ _ _ _ (search rules) c.loop-i.invariant.1
      (via2 w16 w16 w16 (λ x y. extract_h (add_past c.args.past c.args.weights c.loop-i.i (l_mult x y))) _ _ c.predicted.result c.predicted-arg-1.given c.predicted-arg-in-loop-i-1.given c.predicted.type_inv c.predicted.ensures),
)

pub returns : goal.returns
unfolding ma_prediction
returns c = filled_end _ _ 10 _ _ c.loop-i.invariant.1 (omega arith) refl

pub loop-i-init : goal.loop-i-init
loop-i-init c = (search rules, filled_none _ _)

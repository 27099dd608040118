-- The answers of `lsp_ma::invert_ma_prediction`.
use mathlib.Core.Path.{refl}
use lib.IntN.{pos}
use mir.Syntax.{w16}
use Rattle.laws.specs.Lists.{filled_none, fill, filled_end}
use Rattle.laws.specs.Back.{via2}
use Rattle.basic_op.specs.Ops.{l_mult, l_shl, extract_h, l_deposit_h}
use Rattle.lsp_ma.specs.Ma.{subtract_past, invert_ma_prediction}
use native.Mathlib.Omega.{arith}
use Rattle.std.proofs.Common.{rules}
use Rattle.lsp_ma.proofs.invert_ma_prediction.Goals as goal

pub loop-i-preserved : goal.loop-i-preserved
loop-i-preserved c = (
  search rules,
  fill _ _ _ _ _ (search rules) c.loop-i.invariant.1
      (via2 w16 w16 w16 (λ x y. extract_h (l_shl (l_mult (extract_h (subtract_past c.args.past c.args.weights c.loop-i.i (l_deposit_h x))) y) (pos 3))) _ _ c.inverted.result c.inverted-arg-1.given c.inverted-arg-in-loop-i-1.given c.inverted.type_inv c.inverted.ensures),
)

pub returns : goal.returns
unfolding invert_ma_prediction
returns c = filled_end _ _ 10 _ _ c.loop-i.invariant.1 (omega arith) refl

pub loop-i-init : goal.loop-i-init
loop-i-init c = (search rules, filled_none _ _)

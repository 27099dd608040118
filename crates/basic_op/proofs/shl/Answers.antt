-- `basic_op::shl` meets its contract. Assumes nothing.
use Rattle.std.proofs.Common.{◌∙◌, to_z-of_z}
use Rattle.std.specs.Int.{w16}
use Rattle.laws.specs.Back.{via}
use Rattle.basic_op.specs.Ops.{shl}
use Rattle.basic_op.specs.Laws.{by_pos, by_neg}
use Rattle.basic_op.proofs.shl.Goals as goal

pub returns-then-n-lt0 : goal.returns-then-n-lt0
unfolding shl
returns-then-n-lt0 c =
    (cc (via w16 c.sar16.result c.sar16.type_inv, to_z-of_z c.ranges.a, to_z-of_z c.ranges.n)) ∙ by_neg (to_z-of_z c.ranges.n) _ _ c.if-n-lt0.true

pub returns-else-n-lt0 : goal.returns-else-n-lt0
unfolding shl
returns-else-n-lt0 c =
    (cc (via w16 c.shl_by.result c.shl_by.type_inv, to_z-of_z c.ranges.a, to_z-of_z c.ranges.n)) ∙ by_pos (to_z-of_z c.ranges.n) _ _ c.if-n-lt0.false

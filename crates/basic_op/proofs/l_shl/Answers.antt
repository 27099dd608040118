-- `basic_op::l_shl` meets its contract. Assumes nothing.
use Rattle.std.proofs.Common.{◌∙◌, to_z-of_z}
use Rattle.std.specs.Int.{w32}
use Rattle.laws.specs.Back.{via}
use Rattle.basic_op.specs.Ops.{l_shl}
use Rattle.basic_op.specs.Laws.{by_pos, by_neg}
use Rattle.basic_op.proofs.l_shl.Goals as goal

pub returns-then-n-lt0 : goal.returns-then-n-lt0
unfolding l_shl
returns-then-n-lt0 c =
    (cc (via w32 c.sar32.result c.sar32.type_inv, to_z-of_z c.ranges.x, to_z-of_z c.ranges.n)) ∙ by_neg (to_z-of_z c.ranges.n) _ _ c.if-n-lt0.true

pub returns-else-n-lt0 : goal.returns-else-n-lt0
unfolding l_shl
returns-else-n-lt0 c =
    (cc (via w32 c.l_shl_by.result c.l_shl_by.type_inv, to_z-of_z c.ranges.x, to_z-of_z c.ranges.n)) ∙ by_pos (to_z-of_z c.ranges.n) _ _ c.if-n-lt0.false

-- `basic_op::sar16` meets its contract. Assumes nothing.
use Rattle.std.proofs.Common.{◌∙◌, to_z-of_z}
use Rattle.std.specs.Int.{w16}
use Rattle.laws.specs.Back.{via}
use Rattle.basic_op.specs.Laws.{shr_min}
use Rattle.basic_op.proofs.sar16.Goals as goal

pub returns : goal.returns
returns c =
    via w16 c.unbounded_shr.result c.unbounded_shr.type_inv ∙ c.unbounded_shr.ensures
    ∙ rw (to_z-of_z c.ranges.a) (shr_min c.args.a c.args.n 15 c.ranges.a.sfits)

-- `basic_op::sar32` meets its contract. Assumes nothing.
use Rattle.std.proofs.Common.{◌∙◌, to_z-of_z}
use Rattle.std.specs.Int.{w32}
use Rattle.laws.specs.Back.{via}
use Rattle.basic_op.specs.Laws.{shr_min}
use Rattle.basic_op.proofs.sar32.Goals as goal

pub returns : goal.returns
returns c =
    via w32 c.unbounded_shr.result c.unbounded_shr.type_inv ∙ c.unbounded_shr.ensures
    ∙ rw (to_z-of_z c.ranges.x) (shr_min c.args.x c.args.n 31 c.ranges.x.sfits)

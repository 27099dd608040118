-- `basic_op::sar64` meets its contract. Assumes nothing.
use Rattle.std.proofs.Common.{◌∙◌, to_z-of_z}
use Rattle.std.specs.Int.{w64}
use Rattle.laws.specs.Back.{via}
use Rattle.basic_op.specs.Laws.{shr_min}
use Rattle.basic_op.proofs.sar64.Goals as goal

pub returns : goal.returns
returns c =
    via w64 c.unbounded_shr.result c.unbounded_shr.type_inv ∙ c.unbounded_shr.ensures
    ∙ rw (to_z-of_z c.ranges.x) (shr_min c.args.x c.args.n 63 c.ranges.x.sfits)

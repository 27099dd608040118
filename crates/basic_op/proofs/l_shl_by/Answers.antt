-- `basic_op::l_shl_by` meets its contract. Assumes nothing.
use Rattle.std.proofs.Common.{arith, lit<, to_z-of_z}
use Rattle.std.specs.Int.{w32, w64}
use Rattle.laws.specs.Range.{fits_shl, one_shl}
use Rattle.laws.specs.Back.{via, wide, still}
use Rattle.basic_op.specs.Laws.{sat_min}
use Rattle.basic_op.proofs.l_shl_by.Goals as goal

pub overflow_mul-x : goal.overflow_mul-x
overflow_mul-x c = rw (one_shl w64 c.min.result (omega arith)) (fits_shl w32 w64 _ c.min.result (still w64 tt c.ranges.x) (omega arith))

pub returns : goal.returns
returns c =
    cc (via w32 c.sat32.result c.sat32.type_inv, wide w64 tt c.ranges.x, to_z-of_z (overflow_mul-x c.before), one_shl w64 c.min.result (omega arith), sat_min 2147483647 c.args.x c.args.n 32 (lit< tt))

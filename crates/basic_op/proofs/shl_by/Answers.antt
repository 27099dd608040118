-- `basic_op::shl_by` meets its contract. Assumes nothing.
use Rattle.std.proofs.Common.{arith, lit<, to_z-of_z}
use Rattle.std.specs.Int.{w16, w32}
use Rattle.laws.specs.Range.{fits_shl, one_shl}
use Rattle.laws.specs.Back.{via, wide, still}
use Rattle.basic_op.specs.Laws.{sat_min}
use Rattle.basic_op.proofs.shl_by.Goals as goal

pub overflow_mul-a : goal.overflow_mul-a
overflow_mul-a c = rw (one_shl w32 c.min.result (omega arith)) (fits_shl w16 w32 _ c.min.result (still w32 tt c.ranges.a) (omega arith))

pub returns : goal.returns
returns c =
    cc (via w16 c.sat16.result c.sat16.type_inv, wide w32 tt c.ranges.a, to_z-of_z (overflow_mul-a c.before), one_shl w32 c.min.result (omega arith), sat_min 32767 c.args.a c.args.n 16 (lit< tt))

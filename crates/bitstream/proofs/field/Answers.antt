-- `bitstream::field` meets its contract: a shift is a division by a power of 2, and the mask is one.
use native.Mathlib.Omega.{arith}
use native.Mathlib.Nat.{lt_trans}
use lib.Pow.{pow_pos, pow-lt}
use Rattle.bitstream.specs.Fields.{bits}
use Rattle.bitstream.specs.Laws.{one_shl, bits_lt}
use Rattle.bitstream.proofs.field.Goals as goal

pub nonzero_rem-result : goal.nonzero_rem-result
nonzero_rem-result c = rw (one_shl c.args.width (omega arith)) (pow_pos c.args.width)

pub overflow_cast-result-3 : goal.overflow_cast-result-3
unfolding bits
overflow_cast-result-3 c =
    record {
      fits =
          rw (one_shl c.args.width (omega arith))
          (lt_trans (bits_lt c.args.x c.args.low c.args.width) (pow-lt {j = 16} (omega arith)));
    }

pub returns : goal.returns
unfolding bits
returns c = rw (one_shl c.args.width (omega arith))

-- `pack::second_half` meets its contract: each field times the powers of 2 of those behind it.
use native.Mathlib.Omega.{arith}
use Rattle.bitstream.specs.Fields.{widths, sum}
use Rattle.pack.specs.Pack.{joined}
use Rattle.pack.proofs.second_half.Goals as goal

pub returns : goal.returns
unfolding joined widths sum
returns c = omega arith

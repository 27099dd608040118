-- `bitstream::half` meets its contract: five bytes, each below 256, are a number of 40 bits.
use Rattle.bitstream.specs.Laws.{five}
use Rattle.std.proofs.Common.{rules}
use Rattle.bitstream.proofs.half.Goals as goal

pub returns : goal.returns
returns c =
    let s = c.args in (
      five s.frame.now s.k _ _ _ _ _ c.byte-b0.ensures.0
          c.byte-b1.ensures.0 c.byte-b2.ensures.0
          c.byte-b3.ensures.0 c.byte-b4.ensures.0,
      search rules,
    )

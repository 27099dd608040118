-- The answers of `crc32::byte`.
use native.Mathlib.Omega.{arith}
use Rattle.crc32.specs.Laws.{bits_none, bits_more, bits_end}
use Rattle.crc32.proofs.byte.Goals as goal

pub loop-init : goal.loop-init
loop-init c = bits_none _

pub loop-preserved : goal.loop-preserved
loop-preserved c = bits_more _ _ _ _ c.loop.invariant c.bit-x.ensures

pub returns : goal.returns
returns c = bits_end c.loop.counter _ _ _ c.loop.invariant (omega arith)

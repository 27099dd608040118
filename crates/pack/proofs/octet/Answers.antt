-- `pack::octet` meets its contract: a shift is a division by a power of 2.
use mathlib.Core.Path.{refl}
use Rattle.bitstream.specs.Fields.{bits}
use Rattle.pack.proofs.octet.Goals as goal

pub returns : goal.returns
unfolding bits
returns c = refl

-- `crc32::more` meets its contract: the bytes passed are in the sum.
use mathlib.Core.Path.{◌≡◌}
use lib.ListN.{take}
use Rattle.crc32.specs.Crc32.{run}
use Rattle.crc32.proofs.more.Given as goal

abbrev pub invariant-loop-b : goal.invariant-loop-b
invariant-loop-b l = l.c ≡ run l.initial.c (take l.b-index l.bytes)

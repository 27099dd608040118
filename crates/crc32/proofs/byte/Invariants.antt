-- `crc32::byte` meets its contract: before a turn, as many bits are out as turns are passed.
use mathlib.Core.Path.{◌≡◌}
use Rattle.crc32.specs.Crc32.{bits}
use Rattle.crc32.proofs.byte.Given as goal

abbrev pub invariant-loop : goal.invariant-loop
invariant-loop l = l.x ≡ bits l.counter l.initial.x

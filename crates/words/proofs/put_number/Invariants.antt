-- `words::put_number` meets its contract: before a turn the bytes passed are done, and `rest` has the others.
use Prim.Native.Nat.{◌-◌}
use mathlib.Core.Path.{◌≡◌}
use mathlib.Core.List.{◌++◌}
use lib.ListN.{length, take}
use Rattle.words.specs.Words.{number_bytes}
use Rattle.words.proofs.put_number.Given as goal

abbrev pub invariant-loop-b : goal.invariant-loop-b
invariant-loop-b l =
    (length l.initial.out ≡ length l.out) × (number_bytes (length l.initial.out) l.initial.rest ≡ take l.b-index l.out ++ number_bytes (length l.initial.out - l.b-index) l.rest)

-- `words::numbers` meets its contract: before turn i, i numbers are read, and the bytes from `at` on have the others.
use Prim.Native.Nat.{◌≤◌}
use mathlib.Core.Path.{◌≡◌}
use mathlib.Core.List.{◌++◌}
use lib.ListN.{length, take, drop}
use Rattle.words.specs.Words.{read_numbers}
use Rattle.words.proofs.numbers.Given as goal

abbrev pub invariant-loop-i : goal.invariant-loop-i
invariant-loop-i l =
    (l.at ≤ length l.bytes) × (length l.out ≡ length l.initial.out)
    × (read_numbers l.widths l.bytes l.initial.out ≡ take l.i l.out ++ read_numbers (drop l.i l.widths) (drop l.at l.bytes) (drop l.i l.out))

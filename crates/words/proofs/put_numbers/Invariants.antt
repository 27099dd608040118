-- `words::put_numbers` meets its contract: before turn i, i numbers are written, up to place `at`.
use Prim.Native.Nat.{◌≤◌}
use mathlib.Core.Path.{◌≡◌}
use mathlib.Core.List.{◌++◌}
use lib.ListN.{length, take, drop}
use Rattle.words.specs.Words.{put_numbers}
use Rattle.words.proofs.put_numbers.Given as goal

abbrev pub invariant-loop-i : goal.invariant-loop-i
invariant-loop-i l =
    (l.at ≤ length l.out) × (length l.out ≡ length l.initial.out)
    × (put_numbers l.widths l.values l.initial.out ≡ take l.at l.out ++ put_numbers (drop l.i l.widths) (drop l.i l.values) (drop l.at l.out))

-- `arrival_line::number` meets its contract: the bytes passed are digits, and n is their value, of 32 bits.
use mathlib.Core.Path.{◌≡◌}
use Prim.Native.Nat.{◌≤◌}
use lib.ListN.{drop}
use Rattle.print.specs.Laws.{read as value}
use Rattle.arrival_line.specs.ArrivalLine.{all_digits}
use Rattle.arrival_line.proofs.number.Given as goal

abbrev pub invariant-loop-b : goal.invariant-loop-b
invariant-loop-b l = (l.n ≤ 4294967295) × (all_digits l.text ≡ all_digits (drop l.b-index l.text)) × (value 0 l.text ≡ value l.n (drop l.b-index l.text))

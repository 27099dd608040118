-- `mix::each` meets its contract: before turn k what the first k legs heard is written.
use Prim.Native.Nat.{◌-◌, ◌/◌, ◌≤◌}
use mathlib.Core.Path.{◌≡◌}
use lib.ListN.{length}
use Rattle.mix.specs.Laws.{Heard}
use Rattle.mix.proofs.each.Given as goal

abbrev pub invariant-loop-k : goal.invariant-loop-k
invariant-loop-k l = (l.k ≤ l.k-end) × (l.k-end ≡ length l.legs / 80) × (length l.heard ≡ length l.initial.heard) × Heard l.legs l.initial.heard l.k l.heard

abbrev pub decreases-loop-k : goal.decreases-loop-k
decreases-loop-k l = l.k-end - l.k

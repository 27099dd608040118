-- `replay::tally::Tally::tail` meets its contract: before each turn the words up to the place are compared.
use Prim.Native.Nat.{◌-◌, ◌≤◌}
use mathlib.Core.Path.{◌≡◌}
use lib.ListN.{length}
use Rattle.replay.specs.Laws.{first}
use Rattle.replay.proofs.tally.Tally.tail.Given as goal

abbrev pub invariant-loop-n : goal.invariant-loop-n
invariant-loop-n l =
    (l.n - l.skip ≤ length l.found - l.skip) × (l.self.counts ≡ first l.row l.words l.from l.found l.skip l.initial.self.counts (l.n - l.skip))

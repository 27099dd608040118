-- `depth_table::earliest` meets its contract: before turn i what is done is the least of the first i arrivals.
use Rattle.std.specs.Prelude.{◌≡◌, take}
use Rattle.depth_table.specs.Table.{lowest}
use Rattle.depth_table.proofs.earliest.Given as goal

abbrev pub invariant-loop-i : goal.invariant-loop-i
invariant-loop-i l = l.at ≡ lowest (take l.i l.numbers) (take l.i l.times)

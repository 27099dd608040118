-- `depth_table::frames` meets its contract: what is done is the count of the arrivals before the index.
use Rattle.std.specs.Prelude.{◌≡◌, take}
use Rattle.depth_table.specs.Table.{frames}
use Rattle.depth_table.proofs.frames.Given as goal

abbrev pub invariant-loop-n : goal.invariant-loop-n
invariant-loop-n l = l.most ≡ frames (take l.n-index l.numbers)

-- `playout::kinds` meets its contract: before turn j the first j arrivals are taken.
use Rattle.std.specs.Prelude.{◌≡◌, min, length}
use Rattle.playout.specs.Laws.{Taken}
use Rattle.playout.proofs.kinds.Given as goal

abbrev pub invariant-loop-j : goal.invariant-loop-j
invariant-loop-j l = (l.j-end ≡ min (length l.numbers) (length l.times)) × Taken l.start l.depth l.numbers l.times l.initial.out l.j l.out

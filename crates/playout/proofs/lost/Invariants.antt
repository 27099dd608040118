-- `playout::lost` meets its contract: the lost of the kinds before the index are counted.
use Rattle.std.specs.Prelude.{◌≡◌, take}
use Rattle.playout.specs.Playout.{lost}
use Rattle.playout.proofs.lost.Given as goal

abbrev pub invariant-loop-kind : goal.invariant-loop-kind
invariant-loop-kind l = l.n ≡ lost (take l.kind-index l.kinds)

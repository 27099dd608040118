-- `playout::below` meets its contract: none of the numbers before the index is the frame count or above it, or the answer is no.
use Rattle.std.specs.Prelude.{◌≡◌, leb, get_or}
use Rattle.laws.specs.Loops.{nowhere}
use Rattle.playout.proofs.below.Given as goal

abbrev pub invariant-loop-n : goal.invariant-loop-n
invariant-loop-n l = l.all ≡ nowhere (λ k. leb l.frames (get_or l.numbers k 0)) l.n-index

-- `pitch::parity_ok` meets its contract: a sum is odd as the sum of its remainders by 2 is. Assumes nothing.
use mathlib.Core.Path.{refl, ap}
use Prim.Native.Nat.{ℕ, ◌%◌}
use lib.Dec.{eqb}
use Rattle.laws.specs.Loops.{steps}
use Rattle.pitch.specs.Pitch.{parity_ok}
use Rattle.pitch.specs.Laws.{odd_sum}
use Rattle.pitch.proofs.parity_ok.Goals as goal

pub returns : goal.returns
unfolding parity_ok steps
returns c =
    ap (λ (n : ℕ). eqb n (c.args.p0 % 2))
    (odd_sum _ _ _ (odd_sum _ _ _ (odd_sum _ _ _ (odd_sum _ _ _ (odd_sum _ _ _ (odd_sum 1 1 _ refl))))))

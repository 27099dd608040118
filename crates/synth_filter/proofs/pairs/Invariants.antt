-- `synth_filter::pairs` meets its contract: the first k pairs are set.
use Prim.Native.Nat.{◌+◌, ◌-◌, ◌≤◌}
use mathlib.Core.Path.{◌≡◌}
use lib.IntN.{pos}
use lib.ListN.{replicate}
use Rattle.laws.specs.Lists.{at, filled}
use Rattle.synth_filter.specs.Fast.{both}
use Rattle.synth_filter.proofs.pairs.Given as goal

abbrev pub invariant-loop-k : goal.invariant-loop-k
invariant-loop-k l = (l.k ≤ 10) × (l.b ≡ filled (λ k. both (at l.a k) (at l.a (k + 1))) l.k (replicate 10 (pos 0)))

abbrev pub decreases-loop-k : goal.decreases-loop-k
decreases-loop-k l = 10 - l.k

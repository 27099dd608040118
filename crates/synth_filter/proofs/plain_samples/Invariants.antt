-- `synth_filter::plain_samples` meets its contract: before turn n the first n samples are written, if the first `done` were, and the flag says whether one of them saturated.
use Prim.Native.Nat.{◌-◌, ◌≤◌}
use mathlib.Core.Bool.{false}
use mathlib.Core.List.{List}
use lib.IntN.{ℤ}
use Rattle.synth_filter.specs.Fast.{Reached}
use Rattle.synth_filter.proofs.plain_samples.Given as goal

abbrev pub invariant-loop-n : goal.invariant-loop-n
invariant-loop-n l =
    (l.n ≤ 40) × ((y : List ℤ) → Reached l.second l.a l.exc y l.initial.speech false l.done → Reached l.second l.a l.exc y l.speech l.saturated l.n)

abbrev pub decreases-loop-n : goal.decreases-loop-n
decreases-loop-n l = 40 - l.n

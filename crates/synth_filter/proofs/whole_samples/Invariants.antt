-- `synth_filter::whole_samples` meets its contract: before turn i the first 2 i samples are written, none of them saturates, and `newest` is the last of them.
use Prim.Native.Nat.{◌+◌, ◌-◌, ◌≤◌}
use mathlib.Core.Path.{◌≡◌}
use mathlib.Core.Bool.{false}
use Rattle.laws.specs.Lists.{at}
use Rattle.synth_filter.specs.Fast.{Reached}
use Rattle.synth_filter.proofs.whole_samples.Given as goal

abbrev pub invariant-loop-i : goal.invariant-loop-i
invariant-loop-i l =
    (l.i ≤ 20) × (Reached l.second l.a l.exc l.initial.speech l.speech false (l.i + l.i) × (l.newest ≡ at l.speech (l.start + (l.i + l.i) - 1)))

abbrev pub decreases-loop-i : goal.decreases-loop-i
decreases-loop-i l = 20 - l.i

-- `synth_filter::size_sum` meets its contract: before turn i the sum has the sizes of a0 to ai.
use Prim.Native.Nat.{◌+◌, ◌-◌, ◌*◌, ◌≤◌}
use mathlib.Core.Path.{◌≡◌}
use Rattle.synth_filter.specs.Fast.{size_sum}
use Rattle.synth_filter.proofs.size_sum.Given as goal

abbrev pub invariant-loop-i : goal.invariant-loop-i
invariant-loop-i l = (l.i ≤ 10) × ((l.w ≡ size_sum l.a l.i) × (l.w ≤ 61440 * (l.i + 1)))

abbrev pub decreases-loop-i : goal.decreases-loop-i
decreases-loop-i l = 10 - l.i

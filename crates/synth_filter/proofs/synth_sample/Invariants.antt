-- `synth_filter::synth_sample` meets its contract: before turn i the sum has i of the past samples taken off, and the flag says whether an operation of it saturated.
use Prim.Native.Nat.{◌-◌, ◌≤◌}
use mathlib.Core.Path.{◌≡◌}
use Rattle.laws.specs.Lists.{at}
use Rattle.synth_filter.specs.Filter.{synth_sum, synth_sum_overflow}
use Rattle.synth_filter.proofs.synth_sample.Given as goal

abbrev pub invariant-loop-i : goal.invariant-loop-i
invariant-loop-i at =
    (at.i ≤ 10) × ((at.l ≡ synth_sum at.a at.x at.y at.n at.i) × (at.overflow ≡ synth_sum_overflow at.a at.x at.y at.n at.i))

abbrev pub decreases-loop-i : goal.decreases-loop-i
decreases-loop-i l = 10 - l.i

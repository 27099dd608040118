-- `synth_filter::both_sums` meets its contract: before turn i all but the 9 - i newest samples are taken off both sums.
use Prim.Native.Nat.{◌-◌, ◌≤◌}
use Rattle.laws.specs.Lists.{at}
use Rattle.synth_filter.specs.Fast.{Past, Halves}
use Rattle.synth_filter.proofs.both_sums.Given as goal

abbrev pub invariant-loop-i : goal.invariant-loop-i
invariant-loop-i at = (at.i ≤ 8) × (Halves at.a at.x at.next at.y at.n (9 - at.i) at.l × Past at.y at.n (9 - at.i))

abbrev pub decreases-loop-i : goal.decreases-loop-i
decreases-loop-i l = 8 - l.i

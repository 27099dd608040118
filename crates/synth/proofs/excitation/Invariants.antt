-- `synth::excitation` meets its contract: before turn n the first n words of the subframe are excitation.
use Prim.Native.Nat.{◌+◌, ◌-◌, ◌≤◌}
use mathlib.Core.Path.{◌≡◌}
use Rattle.laws.specs.Lists.{at}
use Rattle.laws.specs.Loops.{run}
use Rattle.synth.specs.Synth.{excite}
use Rattle.synth.proofs.excitation.Given as goal

abbrev pub invariant-loop-n : goal.invariant-loop-n
invariant-loop-n l = (l.n ≤ 40) × (l.exc ≡ run (λ k e. excite l.gp l.gc (at e (l.start + k)) (at l.code k)) l.start l.n l.initial.exc)

abbrev pub decreases-loop-n : goal.decreases-loop-n
decreases-loop-n l = 40 - l.n

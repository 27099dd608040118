-- `synth::divide_by_4` meets its contract: before turn n the first n words are divided.
use Rattle.std.proofs.Common.{◌≡◌, ◌^◌}
use Rattle.std.specs.Int.Signed.{shr_z}
use Rattle.laws.specs.Lists.{at, filled}
use Rattle.synth.proofs.divide_by_4.Given as goal

abbrev pub invariant-loop-x : goal.invariant-loop-x
invariant-loop-x l = l.exc ≡ filled (λ k. shr_z (at l.initial.exc k) (2 ^ 2)) l.x-index l.initial.exc

-- `g711::Form::faults` meets its contract: the samples before the index are looked at.
use Rattle.std.specs.Prelude.{◌≡◌}
use Rattle.g711.specs.Fast.{faults}
use Rattle.g711.proofs.Form.faults.Given as goal

abbrev pub invariant-loop-z : goal.invariant-loop-z
invariant-loop-z l = l.found ≡ faults l.self l.samples l.z-index

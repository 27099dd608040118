-- What is held fits the input.
use Rattle.std.proofs.Common.{◌≤◌}
use Rattle.read_step.specs.Reading.{input_room}
use Rattle.decode.proofs.decode.Given as goal

abbrev pub invariant-loop : goal.invariant-loop
invariant-loop l = l.call.held ≤ input_room

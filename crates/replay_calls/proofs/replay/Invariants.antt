-- `replay_calls::replay` is safe: the call holds no more than the input has room for, and its place is in the text.
use Rattle.std.proofs.Common.{◌≤◌, length}
use Rattle.read_step.specs.Reading.{input_room}
use Rattle.replay_calls.proofs.replay.Given as goal

abbrev pub invariant-loop : goal.invariant-loop
invariant-loop g l = (l.p.call.held ≤ input_room) × (l.p.at ≤ length l.text)

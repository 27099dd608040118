-- `leg_frame::leading` meets its contract: before turn i the first i bytes are digits.
use Rattle.std.specs.Prelude.{◌≡◌, ◌+◌, drop}
use Rattle.leg_frame.specs.LegFrame.{leading}
use Rattle.leg_frame.proofs.leading.Given as goal

abbrev pub invariant-loop-i : goal.invariant-loop-i
invariant-loop-i l = leading l.text ≡ l.i + leading (drop l.i l.text)

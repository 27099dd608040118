-- `payload_line::put_frames` meets its contract: the lines of the frames passed.
use Prim.Native.Nat.{◌*◌, ◌≤◌}
use Rattle.text.specs.Text.{Put}
use Rattle.payload_line.specs.PayloadLine.{frame_lines, payload}
use Rattle.payload_line.proofs.put_frames.Given as goal

abbrev pub invariant-loop-k : goal.invariant-loop-k
invariant-loop-k l = (l.at ≤ 37 * l.k) × Put (frame_lines (payload l.text) l.k) 0 l.initial.out l.at l.out

-- `g711::Form::compress` meets its contract: before turn i the first i bytes are written.
use Rattle.std.specs.Prelude.{◌≡◌, map, length}
use Rattle.std.proofs.Math.Seq.{paste}
use Rattle.g711.specs.Fast.{found_byte}
use Rattle.g711.proofs.Form.compress.Given as goal

abbrev pub invariant-loop-i : goal.invariant-loop-i
invariant-loop-i l = (length l.bytes ≡ length l.initial.bytes) × (l.bytes ≡ paste l.initial.bytes 0 (map (found_byte l.self) l.samples) l.i)

-- One read of a call (01, "The call text and the program"): whole lines are taken out of the bytes held and read, and what is left is held for the next read.
use Rattle.std.specs.Prelude.{List, [], ℕ, ◌+◌, ◌*◌, ℤ, length, take}
use Rattle.line.specs.Line.{shortest}
use Rattle.line_step.specs.Step.{Job}
use Rattle.print.specs.Print.{over, frame_room}
use Rattle.call.specs.Chunk.{Part, part, tested}

-- how many of the shortest lines, each with its line feed, an input buffer has room for; and one more may be refused
abbrev pub full : ℕ
full = 512

-- the bytes of the input buffer, and of the output buffer
abbrev pub input_room : ℕ
input_room = full * (shortest + 1)

abbrev pub output_room : ℕ
output_room = (full + 1) * frame_room

-- what is kept between lines; how many bytes are held and how many were written; and both buffers, with these bytes at their fronts
pub data Answer : Type 0 where
  answer : Job → ℕ → ℕ → List ℕ → List ℕ → Answer

-- the first n bytes of the input are there
unfoldable pub read_step : List ℤ → Job → ℕ → List ℕ → List ℕ → Answer
read_step t job n input out =
    let p : Part = tested (part t job (full + 1) (length out) [] (take n input)) in
    answer p.job (length p.unused) (length p.text) (over p.unused input) (over p.text out)

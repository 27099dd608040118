-- A call that is read through `read_step` (01, "The call text and the program"): what its reads write, and the last form, are `output` of the table file and the text. Proved in proofs/ReadsProof.antt. Assumes nothing.
use Rattle.std.specs.Prelude.{◌≡◌, ℕ, ◌+◌, ◌≤◌, ◌<◌, ℤ, length, take, drop, replicate}
use Rattle.std.proofs.Common.{arith}
use mathlib.Core.List.{List, [], ◌++◌}
use Rattle.line.specs.Line.{shortest, longest}
use Rattle.line.specs.Laws as Line
use Rattle.line_step.specs.Step.{Job, Step, stop, line_step}
use Rattle.line_step.specs.Laws.{by_line}
use Rattle.call.specs.Call.{output}
use Rattle.call.specs.Chunk.{to_feed}
use Rattle.read_step.specs.Reading.{input_room, output_room, answer, read_step}
use Rattle.whole_call.specs.Whole.{last_of}

-- ---- reads, one behind another

-- how a program that begins with `first` stands behind some reads, where its buffers have the lengths of `read_step`'s: what it read and wrote, what is kept between lines, how many bytes are held,
-- and the input, at whose front they are
pub data Reads (t : List ℤ) (first : Job) : List ℕ → List ℕ → Job → ℕ → List ℕ → Type 0 where
  no_read : (input : List ℕ) → Reads t first [] [] first 0 input
  -- a read puts bytes behind those held, as many as there is room for, or fewer; then `read_step` answers
  one_more : {text written : List ℕ} {job : Job} {held : ℕ} {input : List ℕ} → Reads t first text written job held input
      → (got : ℕ) (input₁ out : List ℕ) → held + got ≤ length input₁ → length input₁ ≡ input_room → length out ≡ output_room → take held input₁ ≡ take held input
      → {job' : Job} {held' n : ℕ} {input' out' : List ℕ} → answer job' held' n input' out' ≡ read_step t job (held + got) input₁ out
      → Reads t first (text ++ take got (drop held input₁)) (written ++ take n out') job' held' input'

-- ---- every whole line has room

-- a line that is taken has the bytes of one
pub line_bytes : (t : List ℤ) (job : Job) (l : List ℕ) → (line_step t job l).job.progress.code ≡ 0 → (shortest ≤ length l) × (length l ≤ longest)
unfolding stop
line_bytes t job l =
    by_line (λ (s : Step). s.job.progress.code ≡ 0 → (shortest ≤ length l) × (length l ≤ longest)) t job l
    (λ n bytes e z. absurd (omega (arith, Line.refused_some l (replicate 10 0) bytes n e)))
    (λ kind bytes e z. Line.frame_length l (replicate 10 0) bytes kind e)

-- ---- what is held behind a read

-- a part of one line
abbrev pub PartOfLine : List ℕ → Type 0
PartOfLine l = (to_feed l ≡ length l) × (length l ≤ longest)

-- what holds behind any reads, where the tables were accepted
pub record Behind (file text written : List ℕ) (job : Job) (held : ℕ) (input : List ℕ) : Type 0 where
  -- while no line is refused, what is held is a part of one line, so there is room for a further read
  pub one_line : job.progress.code ≡ 0 → (to_feed (take held input) ≡ held) × ((held ≤ longest) × (longest < input_room))
  -- where the text ends here
  pub at_end : written ++ last_of job (take held input) ≡ output file text
  -- where a line was refused, whatever follows
  pub at_refusal : (job.progress.code ≡ 0 → ⊥) → (rest : List ℕ) → written ++ last_of job (take held input) ≡ output file (text ++ rest)

-- What is claimed of the lines that are printed: how Line, and so a decoder, reads them; proved in Read.antt.
use Rattle.std.specs.Prelude.{◌≡◌, List, ◌++◌, ℕ, length, drop, Ok, Err}
use Rattle.line.specs.Line as Line
use Rattle.line.specs.Line.{line}
use Rattle.print.specs.Print.{refused}
use Rattle.rtp.specs.Rtp.{find, part}
use Rattle.payload_line.specs.PayloadLine.{ended, frame_line, payload}

pub record Lines : Type 0 where
  -- the line of each frame is read as the frame's kind and bytes
  pub frame_read : (t s ten : List ℕ) (k : ℕ) → (find (length (payload t)) k).code ≡ 0 → ended s ≡ frame_line (payload t) k → length ten ≡ 10
      → line s ten ≡ Line.answer (Ok (find (length (payload t)) k).kind) (part (payload t) k ++ drop (length (part (payload t) k)) ten)
  -- the form that stands for a refused line is refused itself
  pub refusal_refused : (s ten : List ℕ) (code number : ℕ) → ended s ≡ refused code number → length ten ≡ 10 → line s ten ≡ Line.answer (Err 9) ten

-- A line written: the text of a frame's kind and payload (01, "The call text and the program"), into lent bytes, with Frame's refusals.
use Rattle.std.specs.Prelude.{cond, List, ℕ, eqb, length, Result, Ok, Err}
use Rattle.text.specs.Text.{written}
use Rattle.kind.specs.Kind.{known, payload_length}
use Rattle.line.specs.Line.{longest, text}

-- its answer, and the lent bytes as it leaves them
pub data Answer : Type 0 where
  answer : Result ℕ ℕ → List ℕ → Answer

-- 5: kind above 3. 6: the payload has not the length of its kind. 7: the lent bytes are not those of the longest line. A refusal leaves them as they were.
unfoldable pub write : ℕ → List ℕ → List ℕ → Answer
write kind l lent =
    cond (known kind)
    (cond (eqb (length l) (payload_length kind))
    (cond (eqb (length lent) longest) (answer (Ok (length (text kind l))) (written (text kind l) 0 lent)) (answer (Err 7) lent))
    (answer (Err 6) lent))
    (answer (Err 5) lent)

-- A part of a call's text (01, "The call text and the program"): whole lines are taken out of it, at most so many, while what they print fits into the room lent for it. `whole` of
-- crate whole_call says that parts make up `printed` of the whole text.
use Rattle.std.specs.Prelude.{Bool, cond, ◌&&◌, List, [], ◌∷◌, ◌++◌, ℕ, suc, ◌-◌, eqb, leb, ltb, ℤ, length}
use Rattle.line.specs.Line.{longest}
use Rattle.print.specs.Print.{over, frame_room}
use Rattle.state.specs.State as State
use Rattle.words.specs.Words.{words}
use Rattle.line_step.specs.declared.Progress.{Progress}
use Rattle.line_step.specs.Step.{Job, Step, kept, with_code, line_step}

-- what the lines that were taken print, what is kept after them, and the bytes behind them
pub record Part : Type 0 where
  pub text : List ℕ
  pub job : Job
  pub unused : List ℕ

-- no line is taken
unfoldable pub none : Job → List ℕ → Part
none job l = record { text = []; job = job; unused = l }

-- a part behind a line that printed s
unfoldable pub behind : List ℕ → Part → Part
behind s p = record { text = s ++ p.text; job = p.job; unused = p.unused }

-- a further line is taken while the call goes on, one is still to be taken, and the longest that is printed for one has room
unfoldable pub goes_on : Progress → ℕ → ℕ → Bool
goes_on p most room = eqb p.code 0 && (ltb 0 most && leb frame_room room)

-- the whole lines at the front of a text, of which `held` are the bytes of the line so far
unfoldable pub part : List ℤ → Job → ℕ → ℕ → List ℕ → List ℕ → Part
part t job most room held [] = none job held
part t job most room held (b ∷ text) =
    let s : Step = line_step t job held in
    cond (goes_on job.progress most room)
    (cond (eqb b 10) (behind s.text (part t s.job (most - 1) (room - length s.text) [] text)) (part t job most room (held ++ (b ∷ [])) text))
    (none job (held ++ (b ∷ text)))

-- what `lines` answers and leaves: the state block and the progress, the number of bytes used and written, and the lent output
pub data Answer : Type 0 where
  answer : Job → ℕ → ℕ → List ℕ → Answer

unfoldable pub given : List ℕ → List ℕ → Part → Answer
given input out p = answer p.job (length input - length p.unused) (length p.text) (over p.text out)

unfoldable pub lines : List ℤ → Job → ℕ → List ℕ → List ℕ → Answer
lines t job most input out = given input out (part t job most (length out) [] input)

-- how many bytes stand before the first line feed, or the end
unfoldable pub to_feed : List ℕ → ℕ
to_feed [] = 0
to_feed (b ∷ l) = cond (eqb b 10) 0 (suc (to_feed l))

-- more bytes without a line feed than the longest line has are no line, whatever follows: code 9
unfoldable pub overlong : List ℕ → Progress → Progress
overlong l p = cond (eqb p.code 0 && ltb longest (to_feed l)) (with_code p 9) p

-- ---- a turn of a program

-- what is left behind a part's lines is refused where it is overlong
unfoldable pub tested : Part → Part
tested p = record { text = p.text; job = kept p.job.block (overlong p.unused p.job.progress); unused = p.unused }

unfoldable pub turn : List ℤ → Job → ℕ → List ℕ → List ℕ → Answer
turn t job most held out = given held out (tested (part t job most (length out) [] held))

-- ---- the tables

-- what `begin` answers and leaves: a number, the table block and the state block
pub data Begun : Type 0 where
  begun : ℕ → List ℤ → List ℤ → Begun

-- t' are the words of the file: the table block is t' where Fresh state answers 0, else t as it was
unfoldable pub with_state : List ℤ → List ℤ → State.Answer → Begun
with_state t t' (State.answer code b) = begun code (cond (eqb code 0) t' t) b

-- 1: not 3,760 bytes, or not 1,880 words lent for them. 2: the table check. 3: not 234 words lent for the state. A refusal leaves both blocks as they were.
unfoldable pub begin : List ℕ → List ℤ → List ℤ → Begun
begin file t b = cond (eqb (length file) 3760 && eqb (length t) 1880) (with_state t (words file) (State.fresh_state (words file) b)) (begun 1 t b)

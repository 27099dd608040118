-- A call as text (01, "The call text and the program"): what is printed for it, from the table block and its bytes.
use Rattle.std.specs.Prelude.{cond, List, [], ◌∷◌, ◌++◌, ℕ, eqb, ℤ, length}
use Rattle.count.specs.Count.{no_counts}
use Rattle.line_step.specs.declared.Progress.{Progress}
use Rattle.line_step.specs.Step.{Job, Step, kept, one_more, line_step}
use Rattle.print.specs.Print.{total, refused}
use Rattle.state.specs.State.{write, fresh}
use Rattle.tables.specs.Layout.{table_check}
use Rattle.words.specs.Words.{words}

-- the number of the line that comes next, or was refused, from 1
abbrev pub line_number : Progress → ℕ
line_number p = one_more p.lines

-- the last form, where the text ends with these bytes behind its last line feed, or was refused: a missing line feed is code 9
unfoldable pub last_form : Progress → List ℕ → List ℕ
last_form p held =
    cond (eqb p.code 0)
    (cond (eqb (length held) 0) (total p.counts) (refused 9 (line_number p)))
    (refused p.code (line_number p))

-- all that is printed from here on, where `held` are the bytes of the line so far; behind a refusal nothing is read
unfoldable pub printed : List ℤ → Job → List ℕ → List ℕ → List ℕ
printed t job held [] = last_form job.progress held
printed t job held (b ∷ text) =
    let s : Step = line_step t job held in
    cond (eqb job.progress.code 0)
    (cond (eqb b 10) (s.text ++ printed t s.job [] text) (printed t job (held ++ (b ∷ [])) text))
    (last_form job.progress held)

-- ---- the program

-- a call begins in the fresh state, no line taken and nothing counted
unfoldable pub start : Progress
start = record { code = 0; lines = 0; counts = no_counts }

unfoldable pub fresh_job : List ℤ → Job
fresh_job t = kept (write (fresh t)) start

-- 1: not 3,760 bytes (no file has none). 2: the table check
unfoldable pub file_check : List ℕ → ℕ
file_check file = cond (eqb (length file) 3760) (table_check (words file)) 1

-- all that the program prints, from the bytes of the table file and the call's text; the tables are checked before any line is read
unfoldable pub output : List ℕ → List ℕ → List ℕ
output file text =
    cond (eqb (file_check file) 0) (printed (words file) (fresh_job (words file)) [] text) (refused (file_check file) 0)

-- What a resumed job decides before it writes and between its parts: whether OUT and STATE.new are such as these programs leave, whether the files are different ones, and when
-- a state is saved.
use Rattle.std.specs.Prelude.{Bool, true, false, cond, not, ◌&&◌, ◌||◌, List, [], ◌∷◌, ◌++◌, ℕ, ◌+◌, ◌-◌, ◌*◌, eqb, leb, ℤ, drop, replicate}
use Rattle.block.specs.Places.{tail_length, tail_place}
use Rattle.job.specs.declared.Saved.{Saved}
use Rattle.job.specs.Job.{file_length}
use Rattle.laws.specs.Bytes.{same}
use Rattle.laws.specs.Digits.{is_digit}
use Rattle.print.specs.Print.{words}
use Rattle.text.specs.Text.{ascii}
use Rattle.job_step.specs.declared.File.{File}

-- ---- when a state is saved

-- lines between two saved states
abbrev pub each : ℕ
each = 60000

-- `each` or more lines were taken since the state of so many lines was saved
unfoldable pub due : Saved → ℕ → Bool
due p saved = leb (saved + each) p.lines

-- ---- what these programs leave

-- `h` of a form: any hexadecimal digit
abbrev pub h : ℕ
h = 104

-- a byte is that of a form
unfoldable pub fits : ℕ → ℕ → Bool
fits a b = cond (eqb b h) (is_digit a) (eqb a b)

-- a text begins like a form, as far as both go
unfoldable pub like : List ℕ → List ℕ → Bool
like [] form = true
like (a ∷ l) [] = true
like (a ∷ l) (b ∷ form) = fits a b && like l form

-- `(pcm H)` and its line feed
unfoldable pub frame_form : List ℕ
frame_form = ascii "(pcm " ++ replicate 320 h ++ ascii ")\n"

-- the first bytes of an output: a frame's form, or a last one
unfoldable pub own_output : List ℕ → Bool
own_output front = like front frame_form || (like front (ascii "(total ") || like front (ascii "(refused "))

-- the first bytes of a file of so many: the beginning of a job file
unfoldable pub own_state : List ℕ → ℕ → Bool
own_state front n = leb n file_length && like front (ascii "HDMK")

-- ---- whose output it is

-- how many bytes the last ten samples are in a frame's form, with its end
abbrev pub tail_room : ℕ
tail_room = 4 * tail_length + 2

-- the end of the last form that was printed, by the state block: its last ten samples
unfoldable pub last_printed : List ℤ → List ℕ
last_printed b = words tail_length (drop tail_place b) ++ ascii ")\n"

-- where it stands in the output
unfoldable pub tail_at : Saved → ℕ
tail_at p = p.written - tail_room

-- 27: OUT has n bytes, and is another's: nothing was written yet by this job, and these first bytes are of no output; or it is shorter than what was written, or the bytes before
-- that place aren't the state's last samples
unfoldable pub out_check : Saved → List ℤ → ℕ → List ℕ → List ℕ → ℕ
out_check p b n front tail = cond (cond (eqb p.written 0) (own_output front) (leb p.written n && same tail (last_printed b))) 0 27

-- ---- the files of a job

-- both are there, and are one
unfoldable pub one : File → File → Bool
one x y = x.there && (y.there && (eqb x.device y.device && eqb x.inode y.inode))

unfoldable pub among : File → List File → Bool
among x [] = false
among x (y ∷ l) = one x y || among x l

-- those that are there are different files
unfoldable pub different : List File → Bool
different [] = true
different (x ∷ l) = not (among x l) && different l

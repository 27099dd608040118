-- What the words of `depths` ask for beside those that `options` takes. The last of two equal options counts; the word behind an option is its value, whatever it is; the first value that can't be
-- taken decides.
use Rattle.std.specs.Prelude.{Bool, true, false, cond, ◌&&◌, ◌||◌, List, ℕ, ◌-◌, ◌*◌, ◌/◌, eqb, leb, length, take, get_or, Option, None, Some}
use Rattle.std.specs.Option.{is_some}
use Rattle.laws.specs.Bytes.{same}
use Rattle.text.specs.Text.{ascii}
use Rattle.arrival_line.specs.ArrivalLine.{number}
use Rattle.depth_options.specs.declared.Setting.{Setting}
use Rattle.depth_options.specs.declared.Setting.TheVariants.{Frames, Start, To, Step, Lost}
use Rattle.depth_options.specs.declared.Lost.{Lost as Most}
use Rattle.depth_options.specs.declared.Lost.TheVariants.{Count, Percent}
use Rattle.depth_options.specs.declared.Wanted.{Wanted}

-- ---- the numbers of the options; 0 is none

abbrev pub frames : ℕ
frames = 1

abbrev pub start : ℕ
start = 2

abbrev pub to : ℕ
to = 3

abbrev pub step : ℕ
step = 4

abbrev pub lost : ℕ
lost = 5

abbrev pub code : Setting → ℕ
code Frames = frames
code Start = start
code To = to
code Step = step
code Lost = lost

unfoldable pub name : List ℕ → Option Setting
name l =
    cond (same l (ascii "--frames")) (Some Frames)
    (cond (same l (ascii "--start")) (Some Start)
    (cond (same l (ascii "--to")) (Some To)
    (cond (same l (ascii "--step")) (Some Step)
    (cond (same l (ascii "--lost")) (Some Lost) None))))

-- ---- what is asked for

-- without a word: depths from 0 to 200 ms in steps of 10, and the least at which at most 1% are lost
abbrev pub none : Wanted
none = record { frames = None; start = None; to = 200; step = 10; lost = Percent 1; awaits = None; wrong = None }

-- the option whose value is awaited, and the one whose value can't be taken
abbrev pub marked : Wanted → Option Setting → Option Setting → Wanted
marked w awaits wrong =
    record { frames = w.frames; start = w.start; to = w.to; step = w.step; lost = w.lost; awaits = awaits; wrong = wrong }

-- the value v of an option
abbrev pub put : Wanted → Setting → Bool → ℕ → Wanted
put w Frames percent v = record { frames = Some v; start = w.start; to = w.to; step = w.step; lost = w.lost; awaits = None; wrong = None }
put w Start percent v = record { frames = w.frames; start = Some v; to = w.to; step = w.step; lost = w.lost; awaits = None; wrong = None }
put w To percent v = record { frames = w.frames; start = w.start; to = v; step = w.step; lost = w.lost; awaits = None; wrong = None }
put w Step percent v = record { frames = w.frames; start = w.start; to = w.to; step = v; lost = w.lost; awaits = None; wrong = None }
put w Lost percent v = record { frames = w.frames; start = w.start; to = w.to; step = w.step; lost = cond percent (Percent v) (Count v); awaits = None; wrong = None }

-- ---- values

-- a percentage ends in `%`
unfoldable pub is_percent : Setting → List ℕ → Bool
is_percent option l = eqb (code option) lost && eqb (get_or l (length l - 1) 0) 37

-- at most 100 percent, at most 360,000 frames, and a step that is not 0
abbrev pub fits : Setting → Bool → ℕ → Bool
fits option percent v = cond percent (leb v 100) (cond (eqb (code option) frames) (leb v 360000) (cond (eqb (code option) step) (leb 1 v) true))

abbrev pub valued : Wanted → Setting → Bool → Option ℕ → Wanted
valued w option percent None = marked w None (Some option)
valued w option percent (Some v) = cond (fits option percent v) (put w option percent v) (marked w None (Some option))

-- ---- word by word

-- an option, or the value that is awaited
abbrev pub takes : Wanted → List ℕ → Bool
takes w l = is_some w.awaits || is_some (name l)

-- the option that a word names, or the value of the one that is awaited
abbrev pub taken : Wanted → List ℕ → Option Setting → Wanted
taken w l None = marked w (name l) None
taken w l (Some option) = cond (is_percent option l) (valued w option true (number (take (length l - 1) l))) (valued w option false (number l))

unfoldable pub next : Wanted → List ℕ → Wanted
next w l = cond (is_some w.wrong) w (taken w l w.awaits)

-- ---- how many of n frames may be lost

abbrev pub most_of : Most → ℕ → ℕ
most_of (Count m) n = m
most_of (Percent m) n = n * m / 100

abbrev pub most : Wanted → ℕ → ℕ
most w n = most_of w.lost n

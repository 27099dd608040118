-- Whole lines of words that `depths` takes: what they ask for. Assumes nothing.
use Rattle.std.specs.Prelude.{◌≡◌, refl, true, false, List, [], ◌∷◌, ℕ, Option, None, Some}
use Rattle.laws.specs.Bytes.{same}
use Rattle.text.specs.Text.{ascii}
use Rattle.print.specs.Laws.{read as value}
use Rattle.arrival_line.specs.ArrivalLine.{is_digit, all_digits, number}
use Rattle.depth_options.specs.declared.Wanted.{Wanted}
use Rattle.depth_options.specs.declared.Setting.{Setting}
use Rattle.depth_options.specs.declared.Lost.TheVariants.{Count, Percent}
use Rattle.depth_options.specs.DepthOptions.{frames, start, to, step, lost, code, name, none, is_percent, takes, next, most}

unfoldable words : Wanted → List (List ℕ) → Wanted
words w [] = w
words w (l ∷ m) = words (next w l) m

unfoldable asked : List (List ℕ) → Wanted
unfolding same value is_digit all_digits number name is_percent next words
asked l = words none l

-- ---- lines that are taken

all : asked (ascii "--frames" ∷ ascii "6000" ∷ ascii "--start" ∷ ascii "40" ∷ ascii "--to" ∷ ascii "300" ∷ ascii "--step" ∷ ascii "5" ∷ ascii "--lost" ∷ ascii "30" ∷ [])
    ≡ record { frames = Some 6000; start = Some 40; to = 300; step = 5; lost = Count 30; awaits = None; wrong = None }
unfolding asked
all = refl

percent : asked (ascii "--lost" ∷ ascii "2%" ∷ [])
    ≡ record { frames = None; start = None; to = 200; step = 10; lost = Percent 2; awaits = None; wrong = None }
unfolding asked
percent = refl

-- the last of two counts
again : asked (ascii "--lost" ∷ ascii "50%" ∷ ascii "--lost" ∷ ascii "3" ∷ []) ≡ asked (ascii "--lost" ∷ ascii "3" ∷ [])
unfolding asked
again = refl

-- ---- the option whose value is awaited, and the one whose value can't be taken

abbrev mark : Option Setting → ℕ
mark None = 0
mark (Some option) = code option

abbrev marks : Wanted → List ℕ
marks w = mark w.awaits ∷ mark w.wrong ∷ []

no_value : marks (asked (ascii "--to" ∷ ascii "300" ∷ ascii "--step" ∷ [])) ≡ step ∷ 0 ∷ []
unfolding asked
no_value = refl

option_as_value : marks (asked (ascii "--to" ∷ ascii "--step" ∷ ascii "5" ∷ [])) ≡ 0 ∷ to ∷ []
unfolding asked
option_as_value = refl

most_frames : marks (asked (ascii "--frames" ∷ ascii "360000" ∷ [])) ≡ 0 ∷ 0 ∷ []
unfolding asked
most_frames = refl

too_many_frames : marks (asked (ascii "--frames" ∷ ascii "360001" ∷ [])) ≡ 0 ∷ frames ∷ []
unfolding asked
too_many_frames = refl

no_step : marks (asked (ascii "--step" ∷ ascii "0" ∷ [])) ≡ 0 ∷ step ∷ []
unfolding asked
no_step = refl

-- 32 bits hold 4294967295 at most
late_start : marks (asked (ascii "--start" ∷ ascii "4294967296" ∷ [])) ≡ 0 ∷ start ∷ []
unfolding asked
late_start = refl

all_lost : marks (asked (ascii "--lost" ∷ ascii "100%" ∷ [])) ≡ 0 ∷ 0 ∷ []
unfolding asked
all_lost = refl

more_than_all : marks (asked (ascii "--lost" ∷ ascii "101%" ∷ [])) ≡ 0 ∷ lost ∷ []
unfolding asked
more_than_all = refl

percent_alone : marks (asked (ascii "--lost" ∷ ascii "%" ∷ [])) ≡ 0 ∷ lost ∷ []
unfolding asked
percent_alone = refl

percent_elsewhere : marks (asked (ascii "--step" ∷ ascii "5%" ∷ [])) ≡ 0 ∷ step ∷ []
unfolding asked
percent_elsewhere = refl

empty : marks (asked (ascii "--start" ∷ ascii "" ∷ [])) ≡ 0 ∷ start ∷ []
unfolding asked
empty = refl

first_decides : marks (asked (ascii "--step" ∷ ascii "x" ∷ ascii "--to" ∷ ascii "y" ∷ [])) ≡ 0 ∷ step ∷ []
unfolding asked
first_decides = refl

-- ---- words that are left to `options`

operand : takes none (ascii "arrivals") ≡ false
unfolding name same
operand = refl

help : takes none (ascii "--help") ≡ false
unfolding name same
help = refl

help_as_value : takes (asked (ascii "--to" ∷ [])) (ascii "--help") ≡ true
unfolding asked
help_as_value = refl

-- ---- how many frames may be lost

-- one more would exceed the percentage
rounded_down : most none 199 ≡ 1
rounded_down = refl

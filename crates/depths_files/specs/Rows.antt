-- What a table of playout depths has of its arrivals: the frame count and the start where none is asked for, each row, and the last line.
use Rattle.std.specs.Prelude.{cond, Option, None, Some, List, ℕ, min}
use Rattle.playout.specs.Playout.{Arrival, Answer, answer, kinds, lost}
use Rattle.playout.specs.Playout.{least as found}
use Rattle.depth_options.specs.declared.Wanted.{Wanted}
use Rattle.depth_table.specs.Table.{earliest, row, least, never}
use Rattle.depth_table.specs.Table.{frames as counted}

-- what is given, else what is counted
abbrev pub given : Option ℕ → ℕ → ℕ
given (Some n) m = n
given None m = m

-- no more than an hour has
unfoldable pub frames : Wanted → List ℕ → ℕ
frames w numbers = min (given w.frames (counted numbers)) 360000

unfoldable pub start : Wanted → List ℕ → List ℕ → ℕ
start w numbers times = given w.start (earliest numbers times)

-- the row of a depth: the lost frames of n are the operation's
unfoldable pub row_at : (start depth : ℕ) → List Arrival → ℕ → List ℕ
row_at start depth l n = row depth (lost (kinds start depth l n)) n

-- the last line by what is the least depth, and the kinds that are left: where there is none they are those of the greatest depth, at which every frame that arrived is played
unfoldable pub told : ℕ → Answer (Option ℕ) → List ℕ
told most (answer None ks) = never (lost ks) most
told most (answer (Some d) ks) = least d most

unfoldable pub last : (start most : ℕ) → List Arrival → ℕ → List ℕ
last start most l n = told most (found start most l n)

-- The job file: what a call that was stopped between two lines goes on from. 536 bytes, every number low byte first: a head of seven numbers, the state block (01, "The table block
-- and the state block"), the counts, and the CRC-32 of all these.
use Rattle.std.specs.Prelude.{ℕ, ◌+◌, ◌-◌, ◌*◌, Bool, cond, ◌&&◌, List, [], ◌∷◌, ◌++◌, length, take, drop, ℤ, ◌==◌, nat_le, slice_index, slice_range, Result, Ok, Err}
use Rattle.count.specs.declared.Counts.{Counts}
use Rattle.count.specs.Count as Count
use Rattle.crc32.specs.Crc32.{crc32}
use Rattle.line.specs.Line.{shortest, longest}
use Rattle.print.specs.Print.{frame_least, frame_room}
use Rattle.state.specs.State.{state_check}
use Rattle.words.specs.Words.{bytes, words, number, number_bytes, numbers, numbers_bytes}
use Rattle.job.specs.declared.Saved.{Saved}

-- ---- written

-- where a new job begins, with tables of this CRC-32
unfoldable pub start : ℕ → Saved
start tables = record { counts = Count.no_counts; lines = 0; at = 0; written = 0; tables = tables; call = 0 }

-- `HDMK`
abbrev pub tag : ℕ
tag = 1263354952

-- raised whenever a field gets another meaning
abbrev pub version : ℕ
version = 2

-- where the state, the counts and the check sum begin, and how long the file is
abbrev pub state_at : ℕ
state_at = 36

abbrev pub counts_at : ℕ
counts_at = state_at + 468

abbrev pub sum_at : ℕ
sum_at = counts_at + 28

abbrev pub file_length : ℕ
file_length = sum_at + 4

-- the head, a row for each number: how many bytes it has, and what it is
unfoldable pub widths : List ℕ
widths = 4 ∷ 4 ∷ 8 ∷ 8 ∷ 4 ∷ 4 ∷ 4 ∷ []

unfoldable pub head : Saved → List ℕ
head p = tag ∷ version ∷ p.at ∷ p.written ∷ p.tables ∷ p.call ∷ p.lines ∷ []

-- the counts, four bytes for each number
unfoldable pub count_widths : List ℕ
count_widths = 4 ∷ 4 ∷ 4 ∷ 4 ∷ 4 ∷ 4 ∷ 4 ∷ []

-- state and counts
unfoldable pub state_and_counts : List ℤ → Counts → List ℕ
state_and_counts block c = bytes block ++ numbers_bytes count_widths (Count.numbers c)

-- 532 bytes
unfoldable pub body : List ℤ → Saved → List ℕ
body block p = numbers_bytes widths (head p) ++ state_and_counts block p.counts

unfoldable pub pack : List ℤ → Saved → List ℕ
pack block p = body block p ++ number_bytes 4 (crc32 (body block p))

-- ---- read

unfoldable pub fields : List ℕ → List ℕ
fields f = numbers widths f

unfoldable pub block : List ℕ → List ℤ
block f = words (slice_range f state_at counts_at)

unfoldable pub counts : List ℕ → Counts
counts f = Count.of_numbers (numbers count_widths (slice_range f counts_at sum_at))

unfoldable pub place : List ℕ → Saved
place f =
    record {
      counts = counts f;
      lines = slice_index (fields f) 6;
      at = slice_index (fields f) 2;
      written = slice_index (fields f) 3;
      tables = slice_index (fields f) 4;
      call = slice_index (fields f) 5;
    }

-- the check sum is that of the bytes before it
unfoldable pub sum_fits : List ℕ → Bool
sum_fits f = number (take 4 (drop sum_at f)) == crc32 (take sum_at f)

-- the file is of this form and version
unfoldable pub known : List ℕ → Bool
known f = slice_index (fields f) 0 == tag && slice_index (fields f) 1 == version

-- what a job can have: each line is a frame, and has its bytes of the text, with its line feed, and of the output
unfoldable pub fits : Saved → Bool
fits p =
    Count.fits p.counts && (Count.frames_are p.lines p.counts
    && (nat_le ((shortest + 1) * p.lines) p.at && (nat_le p.at ((longest + 1) * p.lines)
    && (nat_le (frame_least * p.lines) p.written && nat_le p.written (frame_room * p.lines)))))

-- Tables of this CRC-32 are at hand. 3: not 536 bytes. 22: damaged, the check sum doesn't fit. 25: another form or version. 22: its numbers don't fit. 23: the job was begun with other tables.
-- 4: as 01 says of a state block. The check sum comes first, since the damaged byte may be any; 23 comes before 4, since no word of the block is looked at before it is known to belong to
-- these tables.
unfoldable pub check : List ℕ → ℕ → ℕ
check f tables =
    cond (length f == file_length)
    (cond (sum_fits f)
    (cond (known f)
    (cond (fits (place f))
    (cond ((place f).tables == tables) (state_check (block f)) 23)
    22)
    25)
    22)
    3

-- what is found, and the lent state block as the call leaves it: as it was where the file is refused
pub data Answer : Type 0 where
  answer : Result Saved ℕ → List ℤ → Answer

unfoldable pub read : List ℕ → ℕ → List ℤ → Answer
read f tables lent = cond (check f tables == 0) (answer (Ok (place f)) (block f)) (answer (Err (check f tables)) lent)

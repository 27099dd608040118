-- The next frame of a leg from its bytes (change request 10): of G.711, of words of 16 bits, or a line of printed samples.
use Rattle.std.specs.Prelude.{Bool, true, false, cond, List, [], ◌∷◌, ◌++◌, map, ℕ, suc, ◌*◌, ◌/◌, ◌%◌, min, eqb, ltb, ℤ, pos, length, take, drop, replicate}
use Rattle.laws.specs.Bytes.{same}
use Rattle.text.specs.Text.{ascii, starts}
use Rattle.print.specs.Print.{figure}
use Rattle.words.specs.Words.{from_bytes}
use Rattle.g711.specs.G711.{value}
use Rattle.pcm_line.specs.PcmLine as PcmLine
use Rattle.leg_frame.specs.declared.Found.{Found}
use Rattle.leg_frame.specs.declared.Found.TheVariants.{Samples, Total, NoLine, OtherTotal, Refused}

-- the form of a leg by its first bytes: 5 a WAV file, 4 printed samples, 0 none that is known
unfoldable pub form : List ℕ → ℕ
form l =
    cond (starts (ascii "RIFF") l) 5
    (cond (starts (ascii "(pcm ") l) 4 (cond (starts (ascii "(total ") l) 4 (cond (starts (ascii "(refused ") l) 4 0)))

-- 80 samples of silence
abbrev pub silence : List ℤ
silence = replicate 80 (pos 0)

-- ---- bytes and words

-- the law of a form of bytes
unfoldable pub law : ℕ → ℕ
law f = cond (eqb f 1) 1 2

-- how many bytes a leg's next frame has: those of 80 samples, or of all whole ones where there are fewer
unfoldable pub taken : ℕ → List ℕ → ℕ
taken f l = cond (eqb f 3) (2 * min (length l / 2) 80) (min (length l) 80)

-- its samples, and silence behind them
unfoldable pub samples : ℕ → List ℕ → List ℤ
samples f l = cond (eqb f 3) (from_bytes l silence) (map (value (law f)) (take 80 l) ++ drop (min (length l) 80) silence)

-- ---- the total of a printed leg

unfoldable pub is_figure : ℕ → Bool
is_figure b = cond (ltb b 48) false (ltb b 58)

-- how many decimal digits a text begins with
unfoldable pub leading : List ℕ → ℕ
leading [] = 0
leading (b ∷ l) = cond (is_figure b) (suc (leading l)) 0

-- a number, and what closes a total
unfoldable pub closes : List ℕ → Bool
closes l = cond (eqb (leading l) 0) false (same (drop (leading l) l) (ascii "))"))

-- `(total (samples N))`
unfoldable pub of_samples : ℕ → List ℕ
of_samples n = figure (ascii "(total (samples ") n ++ ascii "))"

-- `(total (frames N) (lost M))` of whole frames, up to M
unfoldable pub opening : ℕ → List ℕ
opening n = figure (ascii "(total (frames ") (n / 80) ++ ascii ") (lost "

unfoldable pub of_frames : ℕ → List ℕ → Bool
of_frames n l = cond (eqb (n % 80) 0) (cond (starts (opening n) l) (closes (drop (length (opening n)) l)) false) false

unfoldable pub is_total : ℕ → List ℕ → Bool
is_total n l = cond (same l (of_samples n)) true (of_frames n l)

-- ---- a line of a printed leg

-- what it is, how many samples it has, and the frame
pub data Answer : Type 0 where
  answer : ℕ → ℕ → List ℤ → Answer

-- the number of what a line is, and how many samples it has
abbrev pub what_of : Found → ℕ
what_of (Samples n) = 0
what_of Total = 1
what_of NoLine = 2
what_of OtherTotal = 3
what_of Refused = 4

abbrev pub samples_of : Found → ℕ
samples_of (Samples n) = n
samples_of Total = 0
samples_of NoLine = 0
samples_of OtherTotal = 0
samples_of Refused = 0

-- 0 samples, 1 the total of so many samples, 2 neither, 3 the total of another number, 4 a refused call; where there are no samples the frame is silence
unfoldable pub line : ℕ → List ℕ → Answer
line n l =
    let many : ℕ = length (PcmLine.samples l) in
    cond (starts (ascii "(total ") l) (answer (cond (is_total n l) 1 3) 0 silence)
    (cond (starts (ascii "(refused ") l) (answer 4 0 silence)
    (answer (cond (eqb many 0) 2 0) many (PcmLine.samples l ++ drop many silence)))

-- A line of printed samples, `(pcm H)` (01, "The call text and the program"): four digits for each sample, two's complement, high digit first.
use Rattle.std.specs.Prelude.{Bool, false, cond, List, [], ◌++◌, ℕ, ◌+◌, ◌-◌, ◌*◌, ◌/◌, ltb, ℤ, pos, length, drop, get_or}
use Rattle.laws.specs.Bytes.{same}
use Rattle.laws.specs.Digits.{value}
use Rattle.laws.specs.Lists.{tab}
use Rattle.basic_op.specs.Ops.{extract_l}
use Rattle.text.specs.Text.{ascii}
use Rattle.print.specs.Print.{words}

-- ---- the text of samples, and its line

unfoldable pub pcm_text : List ℤ → List ℕ
pcm_text l = ascii "(pcm " ++ words (length l) l ++ ascii ")"

unfoldable pub pcm_line : List ℤ → List ℕ
pcm_line l = pcm_text l ++ ascii "\n"

-- ---- the text read

-- the sample of the four digits at a place, in two's complement; a byte that is no digit counts 0
unfoldable pub sample : List ℕ → ℕ → ℤ
sample l k = extract_l (pos (4096 * value (get_or l k 0) + 256 * value (get_or l (k + 1) 0) + 16 * value (get_or l (k + 2) 0) + value (get_or l (k + 3) 0)))

-- the n samples of the digits behind `(pcm `
unfoldable pub digits : ℕ → List ℕ → List ℤ
digits n l = tab n (λ k. sample l (5 + 4 * k))

-- how many samples a text has room for: four digits each, between `(pcm ` and `)`
unfoldable pub count : List ℕ → ℕ
count l = (length l - 6) / 4

-- a text is a line, without its line feed, where it is what is printed of the samples that its digits give, at most 80
unfoldable pub is_line : List ℕ → Bool
is_line l = cond (ltb 80 (count l)) false (same l (pcm_text (digits (count l) l)))

-- the samples of a line; none where a text is no line, or one of no samples
unfoldable pub samples : List ℕ → List ℤ
samples l = cond (is_line l) (digits (count l) l) []

-- how many they are, and the lent samples with them at the front
pub data Answer : Type 0 where
  answer : ℕ → List ℤ → Answer

unfoldable pub read : List ℕ → List ℤ → Answer
read l lent = answer (length (samples l)) (samples l ++ drop (length (samples l)) lent)

-- The printed forms of the decoding program (01, "The call text and the program"), each ended by a line feed.
use Rattle.std.specs.Prelude.{cond, List, [], ◌∷◌, ◌++◌, ℕ, zero, suc, ◌+◌, ◌/◌, ◌%◌, ltb, ℤ, length, drop}
use Rattle.basic_op.specs.Ops.{low16}
use Rattle.laws.specs.Digits.{digit}
use Rattle.laws.specs.Lists.{at}
use Rattle.text.specs.Text.{ascii}
use Rattle.count.specs.declared.Counts.{Counts}

-- the shortest and the longest that is printed for a frame, and the longest last form
abbrev pub frame_least : ℕ
frame_least = 327

abbrev pub frame_room : ℕ
frame_room = 327

abbrev pub form_room : ℕ
form_room = 46

-- four digits of a number of 16 bits, the highest first
unfoldable pub word : ℕ → List ℕ
word n = digit (n / 4096) ∷ digit (n / 256 % 16) ∷ digit (n / 16 % 16) ∷ digit (n % 16) ∷ []

-- four digits for each of the first n samples, in two's complement; a sample past the end is 0
unfoldable pub words : ℕ → List ℤ → List ℕ
words zero l = []
words (suc n) l = words n l ++ word (low16 (at l n))

-- `(pcm H)` of a frame's 80 samples
unfoldable pub pcm : List ℤ → List ℕ
pcm l = ascii "(pcm " ++ words 80 l ++ ascii ")\n"

-- the decimal digits of n, the highest first (48 is `0`): below ten n is one digit, else they are the digits of n / 10 and then n % 10;
-- where there are more than j, the last j
unfoldable pub digits : ℕ → ℕ → List ℕ
digits zero n = []
digits (suc j) n =
    let more : List ℕ = digits j (n / 10) ++ ((48 + n % 10) ∷ []) in
    cond (ltb n 10) ((48 + n) ∷ []) more

-- all the decimal digits of n, without leading zeros: there are no more than n + 1
unfoldable pub decimal : ℕ → List ℕ
decimal n = digits (suc n) n

-- a number behind its label
unfoldable pub figure : List ℕ → ℕ → List ℕ
figure label n = label ++ decimal n

-- a call's counts, behind an opening that ends in `(frames `
unfoldable pub figures : List ℕ → Counts → List ℕ
figures opening c = figure opening c.frames ++ figure (ascii ") (lost ") c.lost ++ ascii "))\n"

-- `(total (frames N) (lost M))`
unfoldable pub total : Counts → List ℕ
total c = figures (ascii "(total (frames ") c

-- `(saved (frames N) (lost M))`, the product's own, of a job that stopped before the end of its call
unfoldable pub saved : Counts → List ℕ
saved c = figures (ascii "(saved (frames ") c

-- `(refused (code C) (line L))`
unfoldable pub refused : ℕ → ℕ → List ℕ
refused code line = figure (ascii "(refused (code ") code ++ figure (ascii ") (line ") line ++ ascii "))\n"

-- a text written over the front of lent bytes
unfoldable pub over : List ℕ → List ℕ → List ℕ
over s lent = s ++ drop (length s) lent

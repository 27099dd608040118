-- Numbers in a file, low byte first (01, "The call text and the program"). A file is the list of its bytes.
use Rattle.std.specs.Prelude.{List, [], ◌∷◌, ◌++◌, ℕ, zero, suc, ◌+◌, ◌*◌, ◌/◌, ◌%◌, ◌<◌, min, ℤ, pos, length, take, drop, get_or}
use Rattle.basic_op.specs.Ops.{low16, extract_l}

-- the word of two bytes, in two's complement
unfoldable pub word : ℕ → ℕ → ℤ
word low high = extract_l (pos (low + 256 * high))

-- the words of a list of bytes; a single last byte is no word
unfoldable pub words : List ℕ → List ℤ
words [] = []
words (a ∷ []) = []
words (a ∷ b ∷ l) = word a b ∷ words l

-- two bytes for each word
unfoldable pub bytes : List ℤ → List ℕ
bytes [] = []
bytes (z ∷ l) = (low16 z % 256) ∷ (low16 z / 256) ∷ bytes l

-- lent words after the words of l were put at their front, as many as both have
unfoldable pub from_bytes : List ℕ → List ℤ → List ℤ
from_bytes l out = let n : ℕ = min (length l / 2) (length out) in take n (words l) ++ drop n out

-- lent bytes after the bytes of l were put at their front, as many whole words as both have
unfoldable pub to_bytes : List ℤ → List ℕ → List ℕ
to_bytes l out = let n : ℕ = min (length l) (length out / 2) in bytes (take n l) ++ drop (2 * n) out

-- the number of a list of bytes
unfoldable pub number : List ℕ → ℕ
number [] = 0
number (b ∷ l) = b + 256 * number l

-- the lowest k bytes of a number
unfoldable pub number_bytes : ℕ → ℕ → List ℕ
number_bytes zero n = []
number_bytes (suc k) n = (n % 256) ∷ number_bytes k (n / 256)

-- ---- several numbers, one behind another, each in as many bytes as the list of widths says

unfoldable pub numbers_bytes : List ℕ → List ℕ → List ℕ
numbers_bytes [] values = []
numbers_bytes (w ∷ widths) [] = []
numbers_bytes (w ∷ widths) (v ∷ values) = number_bytes w v ++ numbers_bytes widths values

-- of a wider one the first eight bytes count
unfoldable pub numbers : List ℕ → List ℕ → List ℕ
numbers [] l = []
numbers (w ∷ widths) l = number (take 8 (take w l)) ∷ numbers widths (drop w l)

-- lent numbers after those at the front of l were put at their front, as many as there are widths
unfoldable pub read_numbers : List ℕ → List ℕ → List ℕ → List ℕ
read_numbers [] l out = out
read_numbers (w ∷ widths) l [] = []
read_numbers (w ∷ widths) l (x ∷ out) = number (take 8 (take w l)) ∷ read_numbers widths (drop w l) out

-- lent bytes after these numbers were put at their front, while there is room
unfoldable pub put_numbers : List ℕ → List ℕ → List ℕ → List ℕ
put_numbers [] values out = out
put_numbers (w ∷ widths) [] out = out
put_numbers (w ∷ widths) (v ∷ values) out = let n : ℕ = min w (length out) in number_bytes n v ++ put_numbers widths values (drop n out)

-- all are bytes
abbrev pub Bytes : List ℕ → Type 0
Bytes l = (k : ℕ) → get_or l k 0 < 256

-- The operation Line (01, "The call text and the program"): a line of the call text, without its line feed, to a frame's kind and payload.
-- A text is the list of its bytes in ASCII.
use Rattle.std.specs.Prelude.{Bool, cond, List, [], ◌∷◌, ◌++◌, ℕ, zero, suc, ◌+◌, ◌*◌, ◌/◌, ◌%◌, eqb, length, get_or, drop, Result, Ok, Err}
use Rattle.laws.specs.Bytes.{same}
use Rattle.laws.specs.Digits.{digit, value}
use Rattle.text.specs.Text.{ascii}
use Rattle.kind.specs.Kind.{payload_length}

-- ---- the text of a frame

-- the bytes of the shortest and of the longest line
abbrev pub shortest : ℕ
shortest = 14

abbrev pub longest : ℕ
longest = 36

-- the two digits of a byte, the higher first
unfoldable pub pair : ℕ → List ℕ
pair b = digit (b / 16) ∷ digit (b % 16) ∷ []

-- two digits for each byte
unfoldable pub hex : List ℕ → List ℕ
hex [] = []
hex (b ∷ l) = pair b ++ hex l

-- what stands before the digits of each kind
unfoldable pub opening : ℕ → List ℕ
opening kind =
    cond (eqb kind 0) (ascii "(frame (voice ")
    (cond (eqb kind 1) (ascii "(frame (sid ")
    (cond (eqb kind 2) (ascii "(frame (quiet") (ascii "(frame (lost")))

-- and behind them
unfoldable pub closing : List ℕ
closing = ascii "))"

unfoldable pub form : List ℕ → List ℕ → List ℕ
form o l = o ++ (hex l ++ closing)

-- the text of a frame of a kind with these bytes of payload
unfoldable pub text : ℕ → List ℕ → List ℕ
text kind l = form (opening kind) l

-- ---- the text read

-- n bytes from two digits each
unfoldable pub bytes : ℕ → List ℕ → List ℕ
bytes zero l = []
bytes (suc n) l = (16 * value (get_or l 0 0) + value (get_or l 1 0)) ∷ bytes n (drop 2 l)

-- a text is in hexadecimal where it is the digits of the bytes that are read from it
unfoldable pub is_hex : List ℕ → Bool
is_hex l = same l (hex (bytes (length l / 2) l))

-- a line is of a form where it is the text of the bytes that are read from it
unfoldable pub is_form : List ℕ → ℕ → List ℕ → Bool
is_form o n l = same l (form o (bytes n (drop (length o) l)))

unfoldable pub is : ℕ → List ℕ → Bool
is kind l = is_form (opening kind) (payload_length kind) l

unfoldable pub payload : ℕ → List ℕ → List ℕ
payload kind l = bytes (payload_length kind) (drop (length (opening kind)) l)

-- ---- the operation

-- its answer, and the lent bytes as it leaves them
pub data Answer : Type 0 where
  answer : Result ℕ ℕ → List ℕ → Answer

-- success: the kind, and the payload at the front of the lent bytes
unfoldable pub took : ℕ → List ℕ → List ℕ → Answer
took kind l lent = answer (Ok kind) (payload kind l ++ drop (payload_length kind) lent)

-- 11: not ten bytes. 9: the line is of none of the four forms. A refusal leaves the bytes as they were.
unfoldable pub line : List ℕ → List ℕ → Answer
line l lent =
    cond (eqb (length lent) 10)
    (cond (is 0 l) (took 0 l lent) (cond (is 1 l) (took 1 l lent) (cond (is 2 l) (took 2 l lent) (cond (is 3 l) (took 3 l lent) (answer (Err 9) lent)))))
    (answer (Err 11) lent)

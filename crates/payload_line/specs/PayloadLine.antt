-- A line of a payload text, without its line feed, to lines of the call text (01, "The call text and the program"): an RTP payload in hexadecimal digits becomes a line for each of its
-- frames, and a line of a call stays as it is. A refused line becomes the form of its refusal, which is no line of a call: so no decoder passes over it unnoticed.
use Rattle.std.specs.Prelude.{Bool, cond, ◌||◌, List, [], ◌∷◌, ◌++◌, ℕ, zero, suc, ◌/◌, eqb, ltb, length}
use Rattle.line.specs.Line.{text, bytes, is_hex, is}
use Rattle.print.specs.Print.{over, refused}
use Rattle.rtp.specs.Rtp.{frames, find, part}

-- the digits of the longest payload, 65,535 bytes: a UDP datagram has fewer
abbrev pub longest : ℕ
longest = 131070

-- room for what is printed for a line: 6,554 lines of at most 37 bytes
abbrev pub room : ℕ
room = 242498

-- the number of a line's refusal, or 0; and what is printed for it
pub record Printed : Type 0 where
  pub code : ℕ
  pub text : List ℕ

-- 9: neither a payload nor a line of a call. 12: a payload of another length
unfoldable pub refusal : ℕ → ℕ → Printed
refusal code number = record { code = code; text = refused code number }

-- a line ends with a line feed
unfoldable pub ended : List ℕ → List ℕ
ended s = s ++ (10 ∷ [])

-- the line of frame k of a payload, and those of the first m frames
unfoldable pub frame_line : List ℕ → ℕ → List ℕ
frame_line l k = ended (text (find (length l) k).kind (part l k))

unfoldable pub frame_lines : List ℕ → ℕ → List ℕ
frame_lines l zero = []
frame_lines l (suc m) = frame_lines l m ++ frame_line l m

-- the bytes of a payload's digits
unfoldable pub payload : List ℕ → List ℕ
payload t = bytes (length t / 2) t

-- a payload in a line with this number
unfoldable pub of_payload : ℕ → List ℕ → Printed
of_payload number l = cond (eqb (frames (length l)).code 0) (record { code = 0; text = frame_lines l (frames (length l)).frames }) (refusal (frames (length l)).code number)

-- one of the four forms of a call
unfoldable pub is_line : List ℕ → Bool
is_line t = is 0 t || (is 1 t || (is 2 t || is 3 t))

-- the line with this number
unfoldable pub payload_line : ℕ → List ℕ → Printed
payload_line number t =
    cond (ltb longest (length t)) (refusal 9 number)
    (cond (is_hex t) (of_payload number (payload t))
    (cond (is_line t) (record { code = 0; text = ended t }) (refusal 9 number)))

-- what the function answers, and the lent bytes as it leaves them
pub data Answer : Type 0 where
  answer : ℕ → ℕ → List ℕ → Answer

unfoldable pub given : Printed → List ℕ → Answer
given p lent = answer p.code (length p.text) (over p.text lent)

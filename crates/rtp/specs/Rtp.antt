-- An RTP payload of G.729 (RFC 3551, section 4.5.6): voice frames of ten bytes each, then at most one frame of Annex B, a SID, of two. Which parts are frames follows from
-- the payload's length alone; its contents are never looked at.
use Rattle.std.specs.Prelude.{Bool, cond, ◌||◌, List, ℕ, ◌+◌, ◌*◌, ◌/◌, ◌%◌, eqb, ltb, length, take, drop}
use Rattle.kind.specs.Kind.{payload_length}
use Rattle.rtp.specs.declared.FrameCount.{FrameCount}
use Rattle.rtp.specs.declared.FramePart.{FramePart}

-- ---- a payload of n bytes

-- a length that is taken: nothing, or the two bytes of a SID, is left behind the voice frames
unfoldable pub whole : ℕ → Bool
whole n = eqb (n % 10) 0 || eqb (n % 10) 2

-- its frames: one for each ten bytes, and one for two that are left
unfoldable pub count : ℕ → ℕ
count n = n / 10 + cond (eqb (n % 10) 2) 1 0

-- the kind of frame k: 0 voice, 1 SID
unfoldable pub kind : ℕ → ℕ → ℕ
kind n k = cond (ltb k (n / 10)) 0 1

-- ---- the calls

-- 12: the length isn't taken. 13: there is no frame k
unfoldable pub refusal : ℕ → ℕ → ℕ
refusal n k = cond (whole n) (cond (ltb k (count n)) 0 13) 12

-- the number of frames; 0 beside a refusal
unfoldable pub frames : ℕ → FrameCount
frames n = cond (whole n) (record { code = 0; frames = count n }) (record { code = 12; frames = 0 })

-- frame k: its kind, and the part of the payload that it occupies; an empty part beside a refusal
unfoldable pub find : ℕ → ℕ → FramePart
find n k =
    cond (eqb (refusal n k) 0)
    (record { code = 0; kind = kind n k; start = 10 * k; length = payload_length (kind n k) })
    (record { code = refusal n k; kind = 0; start = 0; length = 0 })

-- the bytes of that part
unfoldable pub part : List ℕ → ℕ → List ℕ
part l k = take (find (length l) k).length (drop (find (length l) k).start l)

-- and where they lie, of a payload that lies at p: its memory, and the byte of it
unfoldable pub place : ℕ × ℕ → ℕ → ℕ → ℕ × ℕ
place p n k = (p.0, (find n k).start + p.1)

-- a frame: 0 or the number of the refusal, its kind, the bytes of its part, and where they lie
pub data Answer : Type 0 where
  answer : ℕ → ℕ → List ℕ → ℕ × ℕ → Answer

unfoldable pub frame : ℕ × ℕ → List ℕ → ℕ → Answer
frame p l k = answer (find (length l) k).code (find (length l) k).kind (part l k) (place p (length l) k)

-- The fields of a voice frame: ITU-T G.729, Table 8, which lists the transmitted indices in the order of their bits, the highest bit
-- of each first. The frame is its ten bytes as one number of 80 bits (RFC 3551, section 4.5.6: ten octets, highest bit first).
use Rattle.std.specs.Prelude.{cond, List, [], ◌∷◌, ℕ, zero, suc, ◌+◌, ◌*◌, ◌/◌, ◌%◌, ◌^◌, eqb, length, get_or}
use Rattle.bitstream.specs.declared.SpeechParams.{SpeechParams}

-- the first n bytes as one number, the first byte highest; a byte past the end is 0
unfoldable pub number : List ℕ → ℕ → ℕ
number l zero = 0
number l (suc n) = 256 * number l n + get_or l n 0

-- the `width` bits of n that lie above its `low` lowest
unfoldable pub bits : ℕ → ℕ → ℕ → ℕ
bits n low width = (n / 2 ^ low) % 2 ^ width

-- Table 8: the widths of L0 L1 L2 L3, P1 P0, C1 S1 GA1 GB1, P2, C2 S2 GA2 GB2
unfoldable pub widths : List ℕ
widths = 1 ∷ 7 ∷ 5 ∷ 5 ∷ 8 ∷ 1 ∷ 13 ∷ 4 ∷ 3 ∷ 4 ∷ 5 ∷ 13 ∷ 4 ∷ 3 ∷ 4 ∷ []

unfoldable pub sum : List ℕ → ℕ
sum [] = 0
sum (w ∷ ws) = w + sum ws

-- n cut into fields of these widths, the highest first: below each lie those that follow it
unfoldable pub cut : List ℕ → ℕ → List ℕ
cut [] n = []
cut (w ∷ ws) n = bits n (sum ws) w ∷ cut ws n

-- the fifteen numbers of a frame. Of a list that is not ten bytes long, what lies past the tenth is not read, and what is
-- missing is 0.
unfoldable pub fields : List ℕ → List ℕ
fields l = cut widths (number l 10)

-- the same as a struct
unfoldable pub unpack : List ℕ → SpeechParams
unpack l =
    let f = fields l in
    record {
      l0 = get_or f 0 0;
      l1 = get_or f 1 0;
      l2 = get_or f 2 0;
      l3 = get_or f 3 0;
      p1 = get_or f 4 0;
      p0 = get_or f 5 0;
      c1 = get_or f 6 0;
      s1 = get_or f 7 0;
      ga1 = get_or f 8 0;
      gb1 = get_or f 9 0;
      p2 = get_or f 10 0;
      c2 = get_or f 11 0;
      s2 = get_or f 12 0;
      ga2 = get_or f 13 0;
      gb2 = get_or f 14 0;
    }

-- ---- the operation Fields

-- its number, and the receiver as it leaves it
pub data Answer : Type 0 where
  answer : ℕ → List ℕ → Answer

-- 6: not ten bytes. 8: the receiver is not fifteen numbers. A refusal leaves the receiver as it was.
unfoldable pub fields_call : List ℕ → List ℕ → Answer
fields_call bytes receiver =
    cond (eqb (length bytes) 10)
    (cond (eqb (length receiver) 15) (answer 0 (fields bytes)) (answer 8 receiver))
    (answer 6 receiver)

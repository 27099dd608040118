-- A voice frame written from its fields, the opposite of the operation Fields (ITU-T G.729, Table 8: the indices in the order of their bits, the highest bit of
-- each first; RFC 3551, section 4.5.6: ten octets, highest bit first). Change request 7.
use Rattle.std.specs.Prelude.{Bool, true, false, cond, ◌&&◌, List, [], ◌∷◌, ◌++◌, ℕ, zero, suc, ◌+◌, ◌*◌, ◌^◌, eqb, ltb, length, get_or, take, drop}
use Rattle.bitstream.specs.Fields.{widths, sum, cut, Answer, answer}
use Rattle.pitch.specs.Pitch.{parity_ok}

-- the number that has these values, which fit, as its fields of these widths, the first highest: the opposite of `cut`. A value that is missing counts as 0,
-- further ones are not read.
unfoldable pub joined : List ℕ → List ℕ → ℕ
joined [] vs = 0
joined (w ∷ ws) [] = 0
joined (w ∷ ws) (v ∷ vs) = v * 2 ^ sum ws + joined ws vs

-- a value for each width, and none exceeds it
unfoldable pub fits : List ℕ → List ℕ → Bool
fits [] [] = true
fits [] (v ∷ vs) = false
fits (w ∷ ws) [] = false
fits (w ∷ ws) (v ∷ vs) = ltb v (2 ^ w) && fits ws vs

-- the widths of n bytes
unfoldable pub octets : ℕ → List ℕ
octets zero = []
octets (suc n) = 8 ∷ octets n

-- the ten bytes of fifteen fields that fit
unfoldable pub pack : List ℕ → List ℕ
pack fs = cut (octets 10) (joined widths fs)

-- Clause 3.7.2: the P0 with which P1 passes parity.
unfoldable pub parity_bit : ℕ → ℕ
parity_bit p1 = cond (parity_ok p1 0) 0 1

-- fifteen fields from those without P0, which stands behind P1, the fifth
unfoldable pub with_p0 : ℕ → List ℕ → List ℕ
with_p0 p0 fs = take 5 fs ++ (p0 ∷ drop 5 fs)

-- ---- the two calls: each its number, and the lent bytes as it leaves them. A refusal leaves them as they were.

-- 15: a field exceeds its width
unfoldable pub packed : List ℕ → List ℕ → Answer
packed fs bytes = cond (fits widths fs) (answer 0 (pack fs)) (answer 15 bytes)

-- where n fields are lent and `due` are due, of which the fifteen fs are made. 8: another number of fields. 6: not ten bytes.
unfoldable pub write_call : ℕ → ℕ → List ℕ → List ℕ → Answer
write_call n due fs bytes =
    cond (eqb n due)
    (cond (eqb (length bytes) 10) (packed fs bytes) (answer 6 bytes))
    (answer 8 bytes)

-- fifteen fields
unfoldable pub write_fields : List ℕ → List ℕ → Answer
write_fields fs bytes = write_call (length fs) 15 fs bytes

-- fourteen, P0 left out; it is supplied
unfoldable pub write_fields_parity : List ℕ → List ℕ → Answer
write_fields_parity fs bytes = write_call (length fs) 14 (with_p0 (parity_bit (get_or fs 4 0)) fs) bytes

-- G.711: A-law and mu-law bytes as samples of 16 bits, and back (change request 8; ITU-T G.711, Tables 1a to 2b, whose decoder output values are of 13 bits in A-law
-- and 14 in mu-law: here eight and four times these).
use Rattle.std.specs.Prelude.{Bool, true, cond, ◌&&◌, ◌||◌, List, [], ◌∷◌, map, ℕ, zero, suc, ◌+◌, ◌-◌, ◌*◌, ◌/◌, ◌%◌, ◌^◌, eqb, ltb, ℤ, pos, neg_ℤ, length}
use Rattle.std.specs.Int.Bits.{bit_xor}
use Rattle.laws.specs.Ints.{sameZ}

-- ---- a byte's sample

-- s, e and m: the top bit, the next three, the low four
abbrev pub sign : ℕ → ℕ
sign c = c / 128

abbrev pub segment : ℕ → ℕ
segment c = c / 16 % 8

abbrev pub step : ℕ → ℕ
step c = c % 16

-- mu-law: the byte complemented; the size is (8 m + 132) 2 ^ e - 132, negative if s is 1
unfoldable pub mu : ℕ → ℤ
mu b =
    let c = bit_xor b 0xff in
    let size = (8 * step c + 132) * 2 ^ segment c - 132 in
    cond (eqb (sign c) 1) (neg_ℤ (pos size)) (pos size)

-- A-law: the bits of 55 flipped; the size is 16 m + 8 for e = 0, else (16 m + 264) 2 ^ (e - 1), positive if s is 1
unfoldable pub a : ℕ → ℤ
a b =
    let c = bit_xor b 0x55 in
    let size = cond (eqb (segment c) 0) (16 * step c + 8) ((16 * step c + 264) * 2 ^ (segment c - 1)) in
    cond (eqb (sign c) 1) (pos size) (neg_ℤ (pos size))

-- the law is 1 for A or 2 for mu
unfoldable pub known : ℕ → Bool
known law = eqb law 1 || eqb law 2

-- the sample of a byte
unfoldable pub value : ℕ → ℕ → ℤ
value law b = cond (eqb law 1) (a b) (mu b)

-- ---- a sample's byte

-- the greatest number below n at which f is z; 256 where there is none
unfoldable pub last : (ℕ → ℤ) → ℤ → ℕ → ℕ
last f z zero = 256
last f z (suc n) = cond (sameZ (f n) z) n (last f z n)

-- the byte of a sample; 256 where no byte has it. Zero in mu-law alone has two, 7F and FF, of which FF is the greater
unfoldable pub byte_of : ℕ → ℤ → ℕ
byte_of law z = last (value law) z 256

-- the byte that a byte's sample turns back into: itself, but for 7F in mu-law
unfoldable pub back : ℕ → ℕ → ℕ
back law b = cond (eqb law 1) b (cond (eqb b 0x7f) 0xff b)

-- whether every sample is a table value
unfoldable pub all_values : ℕ → List ℤ → Bool
all_values law [] = true
all_values law (z ∷ l) = ltb (byte_of law z) 256 && all_values law l

-- ---- the two calls: each its number, and the lent memory as it leaves it. A refusal leaves it as it was.

pub data Read : Type 0 where
  read : ℕ → List ℤ → Read

pub data Written : Type 0 where
  written : ℕ → List ℕ → Written

-- 16: the law is neither 1 nor 2. 7: not as many samples as bytes
unfoldable pub refusal : ℕ → ℕ → ℕ → ℕ
refusal law bytes samples = cond (known law) (cond (eqb bytes samples) 0 7) 16

-- bytes to samples
unfoldable pub read_call : ℕ → List ℕ → List ℤ → Read
read_call law bytes before =
    let n : ℕ = refusal law (length bytes) (length before) in
    cond (eqb n 0) (read 0 (map (value law) bytes)) (read n before)

-- samples back to bytes. 17: a sample isn't a table value
unfoldable pub write_call : ℕ → List ℤ → List ℕ → Written
write_call law samples before =
    let n : ℕ = refusal law (length before) (length samples) in
    let code : ℕ = cond (eqb n 0) (cond (all_values law samples) 0 17) n in
    cond (eqb code 0) (written 0 (map (byte_of law) samples)) (written code before)

-- CRC-32 (IEEE 802.3, clause 3.2.9, the lowest bit first), on the list of bytes.
use Rattle.std.specs.Prelude.{cond, List, [], ◌∷◌, ℕ, zero, suc, ◌/◌, ◌%◌, eqb}
use Rattle.std.specs.Int.Bits.{bit_xor}

-- one bit shifted out; where it is 1, the polynomial is taken off (0xedb88320)
unfoldable pub bit : ℕ → ℕ
bit c = cond (eqb (c % 2) 1) (bit_xor (c / 2) 3988292384) (c / 2)

unfoldable pub bits : ℕ → ℕ → ℕ
bits zero c = c
bits (suc n) c = bit (bits n c)

-- one byte more
unfoldable pub byte : ℕ → ℕ → ℕ
byte c b = bits 8 (bit_xor c b)

unfoldable pub run : ℕ → List ℕ → ℕ
run c [] = c
run c (b ∷ l) = run (byte c b) l

-- the sum starts with 32 ones and is inverted at the end
unfoldable pub crc32 : List ℕ → ℕ
crc32 l = bit_xor (run 4294967295 l) 4294967295

-- the sum of l behind the bytes that gave this one
unfoldable pub more : ℕ → List ℕ → ℕ
more sum l = bit_xor (run (bit_xor sum 4294967295) l) 4294967295

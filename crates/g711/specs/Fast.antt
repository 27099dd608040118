-- How the code finds the byte of a sample: by the bits of its size, with no search. Only contracts of private functions cite these.
use Rattle.std.specs.Prelude.{Bool, cond, ◌&&◌, List, ℕ, ◌+◌, ◌-◌, ◌/◌, ◌%◌, ◌^◌, eqb, ltb, leb, ℤ, pos, negsuc, nat_abs}
use Rattle.std.specs.Int.Bits.{bit_and, bit_or, bit_xor}
use Rattle.std.specs.Float.{binary32}
use Rattle.std.specs.Float.Ieee.{of_int, to_bits}
use Rattle.laws.specs.Lists.{at}
use Rattle.laws.specs.Loops.{steps}
use Rattle.g711.specs.declared.Form.{Form}

-- the form of a law
unfoldable pub form : ℕ → Form
form law =
    cond (eqb law 1)
    (record { bias = 0; lift = 256; flips = 0xd5 })
    (record { bias = 132; lift = 0; flips = 0xff })

-- a size below a limit with 256 added
unfoldable pub lifted : ℕ → ℕ → ℕ
lifted x limit = cond (ltb x limit) (x + 256) x

unfoldable pub sized : Form → ℤ → ℕ
sized f z = lifted (nat_abs z + f.bias) f.lift

-- the lowest of a number's bits that is set; 0 of 0
unfoldable pub lowest : ℕ → ℕ
lowest x = x - bit_and x (x - 1)

-- the highest bit of x is the fifth above its lowest
unfoldable pub five_above : ℕ → Bool
five_above x = ltb (x / 64) (lowest x) && leb (lowest x) (x / 32)

-- 0 where a sample, a word of 16 bits, is a table value, else 1
unfoldable pub fault : Form → ℤ → ℕ
fault f z = cond (five_above (sized f z) && leb (nat_abs z) 32768) 0 1

-- 0 where each of the first n samples is one
unfoldable pub faults : Form → List ℤ → ℕ → ℕ
faults f l n = steps (λ k found. bit_or found (fault f (at l k))) n 0

-- the exponent of a number and the first four bits of its fraction, as a float has them
unfoldable pub leading : ℕ → ℕ
leading x = to_bits binary32 (of_int binary32 (pos x)) / 2 ^ 19

unfoldable pub sign_bit : ℤ → ℕ
sign_bit (pos n) = 0
sign_bit (negsuc n) = 128

unfoldable pub segment_less : ℕ → ℕ → ℕ
segment_less x limit = cond (ltb x limit) 240 0

-- the byte of a sample that has one
unfoldable pub found_byte : Form → ℤ → ℕ
found_byte f z = bit_xor (bit_xor ((leading (sized f z) + 160 + segment_less (nat_abs z + f.bias) f.lift) % 256) (sign_bit z)) f.flips

-- The basic operators of ITU-T G.191 (STL manual, "BASOP: ITU-T Basic Operators"; G.729 clause 5.2, Table 11) that the voice path
-- calls, as functions on whole numbers. Each has its Rust name with - for _.
-- Right shifts are floor divisions: `shr_z z m` is z / m rounded down (`floor_div` of laws.Range says so).
use Rattle.std.specs.Prelude.{ℕ, zero, suc, ◌-◌, ◌^◌, ◌%◌, Bool, cond, ◌||◌, ℤ, pos, negsuc, ◌+ℤ◌, ◌-ℤ◌, ◌*ℤ◌, eqb, ltb}
use Rattle.std.specs.Int.Signed.{lt_z, le_z, shr_z}
use Rattle.std.specs.Int.{w16}
use Rattle.std.proofs.Common.{to_z}

-- ---- saturation

-- z, or the nearer end of the range from -(n + 1) to n
unfoldable pub sat : ℕ → ℤ → ℤ
sat n z = cond (lt_z (pos n) z) (pos n) (cond (lt_z z (negsuc n)) (negsuc n) z)

abbrev pub sat16 : ℤ → ℤ
sat16 z = sat 32767 z

abbrev pub sat32 : ℤ → ℤ
sat32 z = sat 2147483647 z

-- ---- 16 and 32 bits

unfoldable pub add : ℤ → ℤ → ℤ
add a b = sat16 (a +ℤ b)

unfoldable pub sub : ℤ → ℤ → ℤ
sub a b = sat16 (a -ℤ b)

unfoldable pub mult : ℤ → ℤ → ℤ
mult a b = sat16 (shr_z (a *ℤ b) (2 ^ 15))

unfoldable pub l_mult : ℤ → ℤ → ℤ
l_mult a b = sat32 (pos 2 *ℤ (a *ℤ b))

unfoldable pub l_add : ℤ → ℤ → ℤ
l_add a b = sat32 (a +ℤ b)

unfoldable pub l_sub : ℤ → ℤ → ℤ
l_sub a b = sat32 (a -ℤ b)

unfoldable pub l_mac : ℤ → ℤ → ℤ → ℤ
l_mac acc a b = l_add acc (l_mult a b)

unfoldable pub l_msu : ℤ → ℤ → ℤ → ℤ
l_msu acc a b = l_sub acc (l_mult a b)

-- the upper 16 bits
unfoldable pub extract_h : ℤ → ℤ
extract_h x = shr_z x (2 ^ 16)

-- the lower 16 bits of z in two's complement, as a number below 2 ^ 16
unfoldable pub low16 : ℤ → ℕ
low16 (pos n) = n % 65536
low16 (negsuc n) = 65535 - n % 65536

-- the lower 16 bits, read as a signed number
unfoldable pub extract_l : ℤ → ℤ
extract_l x = to_z w16 (low16 x)

unfoldable pub l_deposit_h : ℤ → ℤ
l_deposit_h a = a *ℤ pos 65536

unfoldable pub round : ℤ → ℤ
round x = extract_h (l_add x (pos 32768))

-- ---- shifts by any count: a negative one goes the other way

-- f of n where n is not negative, and g of its magnitude where it is
unfoldable pub by_sign : ℤ → (ℕ → ℤ) → (ℕ → ℤ) → ℤ
by_sign (pos n) f g = f n
by_sign (negsuc n) f g = g (suc n)

unfoldable pub shl : ℤ → ℤ → ℤ
shl a n = by_sign n (λ k. sat16 (a *ℤ pos (2 ^ k))) (λ k. shr_z a (2 ^ k))

unfoldable pub l_shl : ℤ → ℤ → ℤ
l_shl x n = by_sign n (λ k. sat32 (x *ℤ pos (2 ^ k))) (λ k. shr_z x (2 ^ k))

unfoldable pub l_shr : ℤ → ℤ → ℤ
l_shr x n = by_sign n (λ k. shr_z x (2 ^ k)) (λ k. sat32 (x *ℤ pos (2 ^ k)))

-- x / 2 ^ k rounded to the nearest, halves upward; 0 where k is above 31
unfoldable pub rounded : ℤ → ℕ → ℤ
rounded x k = cond (eqb k 0) x (cond (ltb 31 k) (pos 0) (shr_z (x +ℤ pos (2 ^ (k - 1))) (2 ^ k)))

unfoldable pub l_shr_r : ℤ → ℤ → ℤ
l_shr_r x n = by_sign n (rounded x) (λ k. sat32 (x *ℤ pos (2 ^ k)))

-- ---- the lesser and the greater of two (the Rust's `min` and `max`)

unfoldable pub lesser : ℤ → ℤ → ℤ
lesser a b = cond (lt_z b a) b a

unfoldable pub greater : ℤ → ℤ → ℤ
greater a b = cond (lt_z b a) a b

-- ---- normalization

-- z, or its complement where it is negative, needs all 31 bits: 2 ^ 30 ≤ z, or z < -2 ^ 30 (so -2 ^ 30 is doubled once more)
unfoldable pub normal : ℤ → Bool
normal z = le_z (pos 1073741824) z || lt_z z (negsuc 1073741823)

-- how often z is doubled until it is normal, at most k times
unfoldable pub doublings : ℕ → ℤ → ℕ
doublings zero z = 0
doublings (suc k) z = cond (normal z) 0 (suc (doublings k (z +ℤ z)))

unfoldable pub norm_l : ℤ → ℤ
norm_l (pos zero) = pos 0
norm_l (pos (suc n)) = pos (doublings 31 (pos (suc n)))
norm_l (negsuc n) = pos (doublings 31 (negsuc n))

-- ---- whether an operator saturates, which only synthesis asks

-- z lies outside the range from -(n + 1) to n
unfoldable pub overflow : ℕ → ℤ → Bool
overflow n z = lt_z (pos n) z || lt_z z (negsuc n)

abbrev pub overflow32 : ℤ → Bool
overflow32 z = overflow 2147483647 z

unfoldable pub l_mult_overflow : ℤ → ℤ → Bool
l_mult_overflow a b = overflow32 (pos 2 *ℤ (a *ℤ b))

unfoldable pub l_msu_overflow : ℤ → ℤ → ℤ → Bool
l_msu_overflow acc a b = l_mult_overflow a b || overflow32 (acc -ℤ l_mult a b)

-- of `l_shl x 3`
unfoldable pub l_shl3_overflow : ℤ → Bool
l_shl3_overflow x = overflow32 (x *ℤ pos 8)

unfoldable pub round_overflow : ℤ → Bool
round_overflow x = overflow32 (x +ℤ pos 32768)

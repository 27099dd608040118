-- The extended operators that G.729 Table 15 names (oper_32b), on a 32-bit value split into its upper 16 bits and the 15 bits below them,
-- and the base-2 logarithm and power of clause 3.9.1 (L_Extract, L_Comp, Mpy_32_16, Log2 and Pow2 in the reference code). The
-- Recommendation's text leaves their rounding open: the steps are the Rust's, which found them by matching the reference's output.
use Rattle.std.specs.Prelude.{ℕ, zero, suc, ◌+◌, ◌-◌, ◌*◌, ◌/◌, ◌%◌, ◌^◌, List, ℤ, pos, negsuc, nat_abs, ◌-ℤ◌}
use Rattle.std.specs.Int.Signed.{shr_z}
use Rattle.laws.specs.Lists.{at}
use Rattle.tables.specs.Formula.{pow2}
use Rattle.basic_op.specs.declared.Split.{Split}
use Rattle.basic_op.specs.declared.Log2.{Log2}
use Rattle.basic_op.specs.Ops.{sub, mult, l_mult, l_mac, l_msu, l_deposit_h, l_shr_r, extract_h, extract_l, low16, norm_l}

-- the value is upper * 2^16 + lower * 2 and its last bit
unfoldable pub split_high_low : ℤ → Split
split_high_low x = record { upper = extract_h x; lower = extract_l (l_msu (shr_z x 2) (extract_h x) (pos 16384)) }

unfoldable pub join_high_low : ℤ → ℤ → ℤ
join_high_low upper lower = l_mac (l_deposit_h upper) lower (pos 1)

-- a split number times a factor in Q15
unfoldable pub multiply_split_by_16 : ℤ → ℤ → ℤ → ℤ
multiply_split_by_16 upper lower factor = l_mac (l_mult upper factor) (mult lower factor) (pos 1)

-- a number, split, times a factor in Q15: lpc's definitions say so, and its code takes one step (`product_is` of Product)
unfoldable pub multiply_32_by_16 : ℤ → ℤ → ℤ
multiply_32_by_16 x factor = multiply_split_by_16 (split_high_low x).upper (split_high_low x).lower factor

-- from one entry of a table toward the next by a weight in Q15, in the upper half of the result
unfoldable pub interpolate_q15 : ℤ → ℤ → ℤ → ℤ
interpolate_q15 entry next weight = l_msu (l_deposit_h entry) (sub entry next) weight

-- m is a value shifted into 2^30 .. 2^31 - 1: its bits from 25 on, less 32, are the place in the table, its bits 10 to 24 the weight
unfoldable pub log_fraction : ℕ → List ℤ → ℤ
log_fraction m table =
    extract_h (interpolate_q15 (at table (m / 2 ^ 25 - 32)) (at table (m / 2 ^ 25 - 31)) (pos (m / 2 ^ 10 % 2 ^ 15)))

-- the logarithm to the base 2 of a positive value, whole part and fraction in Q15, where `table` has log2(1 + i / 32) in Q15; 0 and 0 of any other
unfoldable pub base2_log : ℤ → List ℤ → Log2
base2_log (negsuc n) table = record { integer = pos 0; fraction = pos 0 }
base2_log (pos zero) table = record { integer = pos 0; fraction = pos 0 }
base2_log (pos (suc n)) table =
    record { integer = pos 30 -ℤ norm_l (pos (suc n)); fraction = log_fraction (suc n * 2 ^ nat_abs (norm_l (pos (suc n)))) table }

-- 2 to the power of integer + fraction, a whole number, rounded. The fraction is Q15: its bits 10 to 14 are the place in the table of
-- 2^(i / 32), its bits 0 to 9 the weight. 30 - integer is saturated: a shift by more than 31 gives 0 anyway
unfoldable pub base2_power : ℤ → ℤ → ℤ
base2_power integer fraction =
    l_shr_r
    (interpolate_q15 (at pow2 (low16 fraction / 1024 % 32)) (at pow2 (low16 fraction / 1024 % 32 + 1)) (pos (32 * (low16 fraction % 1024))))
    (sub (pos 30) integer)

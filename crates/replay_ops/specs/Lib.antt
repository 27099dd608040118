-- The range of a number of 64 bits that is put together from its halves. Assumes nothing.
use Rattle.std.specs.Prelude.{ℕ, zero, suc, ◌+◌, ◌-◌, ◌*◌, ◌^◌, ◌≤◌, ◌<◌, ◌≡◌, refl, Bool, true, false, cond, ltb, ℤ, pos, negsuc, neg_ℤ, ◌+ℤ◌, ◌*ℤ◌}
use Rattle.std.proofs.Common.{arith}
use Rattle.std.specs.Int.Signed.{mag}

below : (k low : ℕ) → k ≤ 2 ^ 63 → low < 2 ^ 32 → mag (neg_ℤ (pos k) +ℤ pos low) < 2 ^ 63
below zero low h l = omega arith
below (suc j) low h l = go (ltb low (suc j)) refl
  where
    go : (t : Bool) → ltb low (suc j) ≡ t → mag (cond t (negsuc (suc j - suc low)) (pos (low - suc j))) < 2 ^ 63
    go true e = omega arith
    go false e = omega arith

pub halves_fit : (z : ℤ) (low : ℕ) → mag z < 2 ^ 31 → low < 2 ^ 32 → mag (z *ℤ pos 4294967296 +ℤ pos low) < 2 ^ 63
halves_fit (pos a) low h l = omega arith
halves_fit (negsuc a) low h l = below (suc a * 4294967296) low (omega arith) l

-- Lemmas for `values` of agreement, which gathers the values that 01 wants proved.
use Rattle.std.specs.Prelude.{◌≡◌, refl, ℤ, pos, negsuc}
use Rattle.basic_op.specs.Ops.{low16, extract_l}
use Rattle.fixed.specs.Fixed.{random, position, pulse}

-- the fresh seed draws 3242, then 23867
pub draws : (random (pos 21845) ≡ pos 3242) × (random (pos 3242) ≡ pos 23867)
unfolding random extract_l low16
draws = (refl, refl)

-- index 3242 with signs 11: positions 10, 26, 12, 18
pub positions : (position 3242 0 ≡ 10) × (position 3242 1 ≡ 26) × (position 3242 2 ≡ 12) × (position 3242 3 ≡ 18)
unfolding position
positions = (refl, refl, refl, refl)

-- all positive but the third
pub signs : (p : ℤ) → (pulse p 11 0 ≡ p) × (pulse p 11 1 ≡ p) × (pulse p 11 2 ≡ negsuc 8191) × (pulse p 11 3 ≡ p)
unfolding pulse
signs p = (refl, refl, refl, refl)

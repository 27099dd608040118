-- Laws of the table of delays: thirds in 32 bits, and lines. Assumes nothing.
use Rattle.std.specs.Prelude.{◌≡◌, refl, ◌<◌, ℤ, pos, ◌+ℤ◌, ◌*ℤ◌}
use Rattle.std.proofs.Common.{arith, SFits}
use Rattle.std.specs.Int.Signed.{mag, nat_abs-le}
use Rattle.std.specs.Int.{w16, w32}
use Rattle.laws.specs.Range.{mag_add, mag_abs, abs_mul}
use Rattle.text.specs.Text.{ascii}
use Rattle.print.specs.Print.{figure, decimal, digits}
use Rattle.depth_table.specs.Table.{hundredths, two}
use Rattle.delay_line.specs.DelayLine.{row, five, part, refused}

-- ---- thirds in 32 bits

pub fits_three : (z : ℤ) → SFits w16 z → SFits w32 (pos 3 *ℤ z)
fits_three z f = record { sfits = omega (arith, mag_abs (pos 3 *ℤ z), abs_mul (pos 3) z, nat_abs-le z f.sfits) }

pub fits_sum : (z y : ℤ) → SFits w16 z → SFits w16 y → SFits w32 (pos 3 *ℤ z +ℤ y)
fits_sum z y f g =
    let h : mag (pos 3 *ℤ z) < 98305 = omega (arith, mag_abs (pos 3 *ℤ z), abs_mul (pos 3) z, nat_abs-le z f.sfits) in
    record { sfits = omega (arith, mag_add (pos 3 *ℤ z) y 98305 32768 h g.sfits) }

-- ---- lines

-- 57 and a third: P1 = 115 in thirds, and a second delay a third below it
one : row 17 172 1 171 3 ≡ ascii "17 172 1 171 3\n"
unfolding row figure decimal digits
one = refl

some_carried : part 20 600 ≡ ascii "# carried 20 of 600 delays, 3.33 %\n"
unfolding part figure decimal digits hundredths two
some_carried = refl

no_frames : part 0 0 ≡ ascii "# carried 0 of 0 delays, 0.00 %\n"
unfolding part figure decimal digits hundredths two
no_frames = refl

all_carried : part 720000 720000 ≡ ascii "# carried 720000 of 720000 delays, 100.00 %\n"
unfolding part figure decimal digits hundredths two
all_carried = refl

rules : five 1 2 3 4 5 ≡ ascii "# rules 1 to 5: 1 2 3 4 5\n"
unfolding five figure decimal digits
rules = refl

no_line : refused 9 17 ≡ ascii "# refused code 9 line 17\n"
unfolding refused figure decimal digits
no_line = refl

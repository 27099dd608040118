-- `synth_filter::size` meets its contract, by the three cases.
use mathlib.Core.Path.{◌≡◌, ap, ◌∙◌}
use native.Mathlib.Omega.{arith}
use lib.IntN.{ℤ, pos, nat_abs, ◌-ℤ◌}
use lib.Signed.{nat_abs-le}
use mir.Syntax.{w16, w32}
use mir.Val.{to_z, of_z}
use mir.Facts.{to_z-of_z, sfits_lit, Fits-nat_abs}
use Rattle.laws.specs.Range.{fits_sub, neg_part, abs_part}
use Rattle.laws.specs.Back.{keep, nonneg_of, widens, still}
use Rattle.synth_filter.specs.FastLaws.{size_large, size_plain}
use Rattle.std.proofs.Common.{rules}
use Rattle.synth_filter.proofs.size.Goals as goal
use Rattle.synth_filter.proofs.size.Goals.{Then-c-lt0}

pub overflow_sub-result : goal.overflow_sub-result
overflow_sub-result c = fits_sub w16 w16 w32 (pos 0) _ (sfits_lit tt) (still w32 tt c.ranges.c) tt

-- the difference is the size
size : (c : Then-c-lt0) → to_z w32 (of_z w32 (pos 0 -ℤ to_z w32 (of_z w32 (to_z w16 (of_z w16 c.args.c))))) ≡ pos (nat_abs c.args.c)
size c = to_z-of_z (overflow_sub-result c) ∙ ap (λ (z : ℤ). pos 0 -ℤ z) (to_z-of_z (widens w32 tt c.ranges.c)) ∙ neg_part (to_z-of_z c.ranges.c) c.if-c-lt0.true

pub overflow_cast-result-then-c-lt0 : goal.overflow_cast-result-then-c-lt0
overflow_cast-result-then-c-lt0 c = (nonneg_of (size c), Fits-nat_abs tt (keep w32 tt (overflow_sub-result c)))

pub overflow_cast-result-else-c-lt0 : goal.overflow_cast-result-else-c-lt0
overflow_cast-result-else-c-lt0 c =
    (nonneg_of (abs_part (to_z-of_z c.ranges.c) c.if-c-lt0.false), Fits-nat_abs tt (keep w16 tt c.ranges.c))

pub returns-then-c-ltminus32767 : goal.returns-then-c-ltminus32767
returns-then-c-ltminus32767 c = record { value = size_large (to_z-of_z c.ranges.c) c.ranges.c c.if-c-ltminus32767.true; upper_bound = search rules }

pub returns-then-c-lt0 : goal.returns-then-c-lt0
returns-then-c-lt0 c =
    let e = ap nat_abs (size c) in
    record { value = e ∙ size_plain (to_z-of_z c.ranges.c) c.ranges.c c.if-c-ltminus32767.false; upper_bound = rw e (omega (arith, nat_abs-le c.args.c c.ranges.c.sfits)) }

pub returns-else-c-lt0 : goal.returns-else-c-lt0
returns-else-c-lt0 c =
    let e = ap nat_abs (to_z-of_z c.ranges.c) in
    record { value = e ∙ size_plain (to_z-of_z c.ranges.c) c.ranges.c c.if-c-ltminus32767.false; upper_bound = rw e (omega (arith, nat_abs-le c.args.c c.ranges.c.sfits)) }

pub overflow_cast-result : goal.overflow_cast-result
overflow_cast-result c = widens w32 tt c.ranges.c

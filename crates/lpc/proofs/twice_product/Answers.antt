-- `lpc::twice_product` meets its contract: one product stands for the two of the split number. Assumes nothing.
use mathlib.Core.Path.{◌≡◌, ◌∙◌}
use native.Mathlib.Omega.{arith}
use lib.IntN.{pos, ◌*ℤ◌}
use mir.Syntax.{w16, w32, w64}
use mir.Val.{to_z, of_z}
use mir.Facts.{to_z-of_z}
use Rattle.laws.specs.Range.{fits_mul}
use Rattle.laws.specs.Back.{via, fits_by, widens, wide, still}
use Rattle.basic_op.specs.Oper32b.{multiply_32_by_16}
use Rattle.lpc.specs.Small.{four, twice_small}
use Rattle.lpc.proofs.twice_product.Goals as goal
use Rattle.lpc.proofs.twice_product.Goals.{After-sar64}

pub overflow_mul-sar32 : goal.overflow_mul-sar32
overflow_mul-sar32 c = fits_mul w32 w16 w64 _ _ (still w64 tt (fits_by w32 c.sar32.result c.sar32.type_inv)) (still w64 tt c.ranges.q) tt

value : (c : After-sar64) → to_z w64 (of_z w64 c.sar64.result) *ℤ pos 4 ≡ multiply_32_by_16 c.args.v c.args.q *ℤ pos 2
value c =
    rw (
      via w64 c.sar64.result c.sar64.type_inv,
      c.sar64.ensures,
      to_z-of_z (overflow_mul-sar32 c.before),
      wide w64 tt (fits_by w32 c.sar32.result c.sar32.type_inv),
      wide w64 tt c.ranges.q,
      c.sar32.ensures,
      to_z-of_z c.ranges.v,
    )
    (four c.args.v c.args.q c.requires c.ranges.q.sfits)

pub overflow_mul-result : goal.overflow_mul-result
overflow_mul-result c =
    rw (value c) (record { sfits = omega (arith, twice_small c.args.v c.args.q c.requires c.ranges.q.sfits) })

pub returns : goal.returns
returns c = to_z-of_z (overflow_mul-result c) ∙ value c

pub overflow_cast-sar32 : goal.overflow_cast-sar32
overflow_cast-sar32 c = widens w64 tt (fits_by w32 c.sar32.result c.sar32.type_inv)

pub overflow_cast-q : goal.overflow_cast-q
overflow_cast-q c = widens w64 tt c.ranges.q

-- `lpc::small_top` meets its contract: a difference that does not leave 32 bits. Assumes nothing.
use mathlib.Core.Path.{◌≡◌}
use native.Mathlib.Omega.{arith}
use lib.Dec.{lit<, lit≤}
use lib.IntN.{pos, ◌-ℤ◌, ◌*ℤ◌}
use mir.Syntax.{w32, w64}
use mir.Val.{to_z, of_z}
use mir.Facts.{to_z-of_z}
use Rattle.laws.specs.Range.{fits_scale}
use Rattle.laws.specs.Back.{via, widens, wide, still}
use Rattle.basic_op.specs.Oper32b.{multiply_32_by_16}
use Rattle.lpc.specs.Small.{top_small, top_plain}
use Rattle.lpc.proofs.small_top.Goals as goal
use Rattle.lpc.proofs.small_top.Goals.{After-twice_product}

pub overflow_mul-result : goal.overflow_mul-result
overflow_mul-result c = fits_scale w32 w64 _ 2 (still w64 tt c.ranges.older) (lit< tt) (lit≤ tt)

pub twice_product-requires : goal.twice_product-requires
twice_product-requires c = rw (to_z-of_z c.ranges.previous) (omega (arith, c.requires))

difference : (c : After-twice_product)
    → to_z w64 (of_z w64 (to_z w64 (of_z w64 (to_z w32 (of_z w32 c.args.older))) *ℤ pos 2)) -ℤ to_z w64 (of_z w64 c.twice_product.result)
    ≡ c.args.older *ℤ pos 2 -ℤ multiply_32_by_16 c.args.previous c.args.q *ℤ pos 2
difference c =
    rw (to_z-of_z (overflow_mul-result c.before), wide w64 tt c.ranges.older, via w64 c.twice_product.result c.twice_product.type_inv, c.twice_product.ensures, to_z-of_z c.ranges.previous, to_z-of_z c.ranges.q)

pub overflow_sub-result : goal.overflow_sub-result
overflow_sub-result c =
    let a = c.args in
    rw (difference c) (record { sfits = omega (arith, top_small a.previous a.q c.ranges.q.sfits a.older c.requires) })

pub overflow_cast-result-2 : goal.overflow_cast-result-2
overflow_cast-result-2 c =
    let a = c.args in
    rw (to_z-of_z (overflow_sub-result c), difference c) (record { sfits = omega (arith, top_small a.previous a.q c.ranges.q.sfits a.older c.requires) })

pub returns : goal.returns
returns c =
    let a = c.args in
    rw (to_z-of_z (overflow_cast-result-2 c), to_z-of_z (overflow_sub-result c), difference c)
    (top_plain a.previous a.q c.ranges.q.sfits a.older c.requires, top_small a.previous a.q c.ranges.q.sfits a.older c.requires)

pub overflow_cast-result : goal.overflow_cast-result
overflow_cast-result c = widens w64 tt c.ranges.older

-- `lpc::small_step` meets its contract: sums that do not leave 32 bits. Assumes nothing.
use mathlib.Core.Path.{◌≡◌}
use native.Mathlib.Omega.{arith}
use lib.IntN.{pos, ◌-ℤ◌, ◌*ℤ◌}
use mir.Syntax.{w32, w64}
use mir.Val.{to_z, of_z}
use mir.Facts.{to_z-of_z}
use Rattle.laws.specs.Back.{via, widens, wide}
use Rattle.basic_op.specs.Oper32b.{multiply_32_by_16}
use Rattle.lpc.specs.Small.{step_less, step_small, step_plain}
use Rattle.lpc.proofs.small_step.Goals as goal
use Rattle.lpc.proofs.small_step.Goals.{After-twice_product}

pub twice_product-requires : goal.twice_product-requires
twice_product-requires c = rw (to_z-of_z c.ranges.previous) (omega (arith, c.requires))

difference : (c : After-twice_product)
    → to_z w64 (of_z w64 (to_z w32 (of_z w32 c.args.same))) -ℤ to_z w64 (of_z w64 c.twice_product.result)
    ≡ c.args.same -ℤ multiply_32_by_16 c.args.previous c.args.q *ℤ pos 2
difference c =
    rw (wide w64 tt c.ranges.same, via w64 c.twice_product.result c.twice_product.type_inv, c.twice_product.ensures, to_z-of_z c.ranges.previous, to_z-of_z c.ranges.q)

pub overflow_sub-result : goal.overflow_sub-result
overflow_sub-result c =
    let a = c.args in
    rw (difference c) (record { sfits = omega (arith, step_less a.previous a.q c.ranges.q.sfits a.same a.older c.requires) })

pub overflow_add-result : goal.overflow_add-result
overflow_add-result c =
    let a = c.args in
    rw (to_z-of_z (overflow_sub-result c), difference c, wide w64 tt c.ranges.older)
    (record { sfits = omega (arith, step_small a.previous a.q c.ranges.q.sfits a.same a.older c.requires) })

pub overflow_cast-result-3 : goal.overflow_cast-result-3
overflow_cast-result-3 c =
    let a = c.args in
    rw (to_z-of_z (overflow_add-result c), to_z-of_z (overflow_sub-result c), difference c, wide w64 tt c.ranges.older)
    (record { sfits = omega (arith, step_small a.previous a.q c.ranges.q.sfits a.same a.older c.requires) })

pub returns : goal.returns
returns c =
    let a = c.args in
    rw (to_z-of_z (overflow_cast-result-3 c), to_z-of_z (overflow_add-result c), to_z-of_z (overflow_sub-result c), difference c, wide w64 tt c.ranges.older) (
      step_plain a.previous a.q c.ranges.q.sfits a.same a.older c.requires,
      step_small a.previous a.q c.ranges.q.sfits a.same a.older c.requires,
    )

pub overflow_cast-result : goal.overflow_cast-result
overflow_cast-result c = widens w64 tt c.ranges.same

pub overflow_cast-result-2 : goal.overflow_cast-result-2
overflow_cast-result-2 c = widens w64 tt c.ranges.older

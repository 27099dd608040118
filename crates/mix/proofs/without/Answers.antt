-- `mix::without` meets its contract: the difference has room in 32 bits, and is limited once.
use mathlib.Core.Path.{ap, ◌∙◌}
use mir.Syntax.{w16, w32}
use mir.Val.{to_z, of_z}
use mir.Facts.{to_z-of_z}
use lib.IntN.{ℤ}
use Rattle.laws.specs.Back.{via, widens, wide, still}
use Rattle.basic_op.specs.Ops.{sat16}
use Rattle.mix.specs.Laws.{less_fits}
use Rattle.mix.proofs.without.Goals as goal

pub overflow_sub-sum : goal.overflow_sub-sum
overflow_sub-sum c = less_fits (to_z w32 (of_z w32 c.args.sum)) _ (rw (to_z-of_z c.ranges.sum) c.requires) (still w32 tt c.ranges.own)

pub returns : goal.returns
returns c =
    via w16 c.sat16.result c.sat16.type_inv ∙ c.sat16.ensures ∙ ap (λ (z : ℤ). sat16 z) (to_z-of_z (overflow_sub-sum c.before) ∙ rw (to_z-of_z c.ranges.sum, wide w32 tt c.ranges.own))

pub overflow_cast-own : goal.overflow_cast-own
overflow_cast-own c = widens w32 tt c.ranges.own

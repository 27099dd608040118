-- The answers of `gain::energy`.
use Prim.Native.Nat.{◌-◌}
use mathlib.Core.Path.{◌∙◌}
use native.Mathlib.Omega.{arith}
use mir.Syntax.{w16, w32, w64}
use mir.Facts.{to_z-of_z}
use Rattle.laws.specs.Back.{via}
use Rattle.gain.specs.Laws.{squares_none, squares_turn, squares_fit, squares_end, twice_fits, energy_is}
use Rattle.std.proofs.Common.{rules}
use Rattle.gain.proofs.energy.Goals as goal

pub overflow_add-sum : goal.overflow_add-sum
overflow_add-sum c =
    let g = c.x-1.given in
    rw (via w64 c.square-sum.result c.square-sum.type_inv) (squares_fit _ _ c.loop-x.invariant.1 g (c.square-sum.ensures ∙ rw (via w16 _ g)) c.loop-x.invariant.0)

pub loop-x-preserved : goal.loop-x-preserved
loop-x-preserved c = (
  search rules,
  let g = c.x-1.given in
      rw (to_z-of_z (overflow_add-sum c), via w64 c.square-sum.result c.square-sum.type_inv) (squares_turn _ _ c.loop-x.invariant.1 g (c.square-sum.ensures ∙ rw (via w16 _ g))),
)

pub overflow_mul-sum : goal.overflow_mul-sum
overflow_mul-sum c = twice_fits _ (squares_end _ _ c.loop-x.invariant.1 (omega arith))

pub returns : goal.returns
returns c =
    via w32 c.sat32.result c.sat32.type_inv ∙ c.sat32.ensures
    ∙ rw (to_z-of_z (overflow_mul-sum c.before)) (energy_is _ (squares_end _ _ c.loop-x.invariant.1 (omega arith)))

pub loop-x-init : goal.loop-x-init
loop-x-init c = (search rules, squares_none _)

-- `inverse::inverse` meets its contract: what the past gives is far inside 32 bits.
use Prim.Native.Nat.{◌^◌, ◌<◌}
use mathlib.Core.Path.{◌≡◌, ap, ◌∙◌}
use native.Mathlib.Omega.{arith}
use lib.IntN.{ℤ, ◌-ℤ◌}
use lib.Signed.{mag, shr_z}
use mir.Syntax.{w16, w64}
use mir.Val.{to_z, of_z}
use mir.Facts.{to_z-of_z}
use Rattle.laws.specs.Lists.{at}
use Rattle.laws.specs.Back.{via}
use Rattle.laws.specs.Range.{mag_sub, mag_shr_less}
use Rattle.basic_op.specs.Ops.{sat16}
use Rattle.inverse.specs.Inverse.{past_sum, inverse, word}
use Rattle.inverse.proofs.inverse.Goals as goal
use Rattle.inverse.proofs.inverse.Goals.{After-sar64-past, After-sat16-arg-1}

-- what the past gives
past : (c : After-sar64-past) → to_z w64 (of_z w64 c.sar64-past.result) ≡ shr_z (past_sum c.args.a.now c.args.y.now c.args.n) (2 ^ 12)
past c = via w64 c.sar64-past.result c.sar64-past.type_inv ∙ c.sar64-past.ensures ∙ ap (λ (z : ℤ). shr_z z (2 ^ 12)) (via w64 c.past_sum.result c.past_sum.type_inv ∙ c.past_sum.ensures.value)

small : (c : After-sar64-past) → mag (to_z w64 (of_z w64 c.sar64-past.result)) < 8388608
small c =
    let g = c.args in
    rw (past c) (mag_shr_less 23 12 (past_sum g.a.now g.y.now g.n) (rw c.past_sum.ensures.value at c.past_sum.ensures.result_bound))

pub overflow_cast-past : goal.overflow_cast-past
overflow_cast-past c = omega (arith, small c)

-- the sample
sample : (c : After-sat16-arg-1) → to_z w16 (of_z w16 (at c.args.y.now c.args.n)) ≡ at c.args.y.now c.args.n
sample c = via w16 _ c.sat16-arg-1.given

pub overflow_cast-y : goal.overflow_cast-y
overflow_cast-y c = rw (sample c) (omega (arith, c.sat16-arg-1.given))

pub overflow_sub-y : goal.overflow_sub-y
overflow_sub-y c =
    let x = to_z-of_z (overflow_cast-y c) ∙ sample c in
    let y = to_z-of_z (overflow_cast-past c.before) in
    rw (x, y) (omega (arith, mag_sub (at c.args.y.now c.args.n) (to_z w64 (of_z w64 c.sar64-past.result)) 32768 8388608 c.sat16-arg-1.given (small c.before)))

pub returns : goal.returns
unfolding inverse word
returns c =
    via w16 c.sat16.result c.sat16.type_inv ∙ c.sat16.ensures
    ∙ ap sat16 (to_z-of_z (overflow_sub-y c.before) ∙ (let x = to_z-of_z (overflow_cast-y c.before) ∙ sample c.before in let y = to_z-of_z (overflow_cast-past c.before.before) ∙ past c.before.before in λ i. x i -ℤ y i))

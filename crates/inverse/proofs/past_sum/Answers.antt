-- The answers of `inverse::past_sum`.
use Prim.Native.Nat.{◌+◌, ◌-◌, ◌*◌, ◌<◌}
use mathlib.Core.Path.{◌≡◌, refl, ◌∙◌}
use native.Mathlib.Omega.{arith}
use lib.IntN.{pos, ◌-ℤ◌}
use lib.Signed.{mag}
use mir.Syntax.{w16, w64}
use mir.Val.{to_z, of_z}
use mir.Facts.{to_z-of_z}
use Rattle.laws.specs.Lists.{at}
use Rattle.laws.specs.Loops.{steps, steps_turn, ended}
use Rattle.laws.specs.Sums.{without}
use Rattle.laws.specs.Range.{mag_sub}
use Rattle.laws.specs.Back.{via}
use Rattle.synth_filter.specs.Fast.{term}
use Rattle.inverse.specs.Inverse.{past_sum}
use Rattle.std.proofs.Common.{rules}
use Rattle.inverse.proofs.past_sum.Goals as goal
use Rattle.inverse.proofs.past_sum.Goals.{After-product-l}

pub loop-i-init : goal.loop-i-init
unfolding steps
loop-i-init c = (search rules, (refl, omega arith))

-- one product more stays in 64 bits
less : (c : After-product-l)
    → mag (to_z w64 c.loop-i.l-bits -ℤ to_z w64 (of_z w64 c.product-l.result)) < 4096 + (c.loop-i.i + 1) * 2147483649
less c =
    let p : mag (to_z w64 (of_z w64 c.product-l.result)) < 2147483648 = rw (via w64 c.product-l.result c.product-l.type_inv) c.product-l.ensures.result_bound in
    let q = mag_sub (to_z w64 c.loop-i.l-bits) (to_z w64 (of_z w64 c.product-l.result)) _ _ c.loop-i.invariant.1.1 p in
    omega (arith, q)

pub overflow_sub-l : goal.overflow_sub-l
overflow_sub-l c = let h = c.loop-i.invariant.0 in omega (arith, less c, h)

pub loop-i-preserved : goal.loop-i-preserved
loop-i-preserved c =
    let g = c.args in
    let i = c.loop-i.i in
    let e = via w16 (at g.a.now (i + 1)) c.product-arg-1.given in
    let f = via w16 (at g.y.now (g.n - (i + 1))) c.product-arg-in-loop-i-1.given in
    let p = via w64 c.product-l.result c.product-l.type_inv ∙ c.product-l.ensures.value in
    let s = to_z-of_z (overflow_sub-l c) in
    (search rules, (steps_turn _ i _ _ _ c.loop-i.invariant.1.0 (s ∙ rw (p, e, f)), rw s (less c)))

pub returns : goal.returns
unfolding past_sum
returns c =
    let g = c.args in
    let e : c.loop-i.i ≡ 10 = omega arith in
    record { value = ended {n = c.loop-i.i} (λ k. without (term g.a.now g.y.now g.n) k (pos 2048)) 10 c.loop-i.invariant.1.0 e; result_bound = omega (arith, c.loop-i.invariant.1.1) }

pub overflow_add-i : goal.overflow_add-i
overflow_add-i c = omega arith

pub offset_bounds-a-i : goal.offset_bounds-a-i
offset_bounds-a-i c = omega arith

pub bounds-a-i : goal.bounds-a-i
bounds-a-i c = omega arith

pub overflow_add-i-in-loop-i : goal.overflow_add-i-in-loop-i
overflow_add-i-in-loop-i c = omega arith

pub overflow_sub-n : goal.overflow_sub-n
overflow_sub-n c = omega arith

pub offset_bounds-y-n : goal.offset_bounds-y-n
offset_bounds-y-n c = omega arith

pub bounds-y-n : goal.bounds-y-n
bounds-y-n c = omega arith

pub overflow_step-i : goal.overflow_step-i
overflow_step-i c = omega arith

pub loop-i-smaller : goal.loop-i-smaller
loop-i-smaller c = omega arith

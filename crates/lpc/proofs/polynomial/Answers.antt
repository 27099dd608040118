-- `lpc::polynomial` meets its contract: a call for each coefficient of each stage, which stays within its binomial coefficient (in units of 2^24,
-- and a little for the rounding). Assumes nothing.
use Prim.Native.Nat.{◌+◌, ◌*◌, ◌≤◌}
use mathlib.Core.Path.{◌∙◌}
use native.Mathlib.Omega.{arith}
use lib.Signed.{mag}
use mir.Syntax.{w32}
use mir.Val.{to_z, of_z}
use mir.Facts.{to_z-of_z}
use Rattle.laws.specs.Back.{via}
use Rattle.lpc.specs.Laws.{five_stages}
use Rattle.lpc.proofs.polynomial.Goals as goal
use Rattle.lpc.proofs.polynomial.Goals.{After-small_step-b1, After-small_step-c1, After-small_step-c2, After-small_step-d1, After-small_step-d2, After-small_step-d3, After-small_top-a1, After-small_top-b2, After-small_top-c3, After-small_top-d4}

a1_small : (c : After-small_top-a1) → mag (to_z w32 (of_z w32 c.small_top-a1.result)) ≤ 2 * 16777216 + 16
a1_small c = rw (via w32 c.small_top-a1.result c.small_top-a1.type_inv) (omega (arith, c.small_top-a1.ensures.1))

pub small_step-b1-requires : goal.small_step-b1-requires
small_step-b1-requires c = omega (arith, a1_small c)

b1_small : (c : After-small_step-b1) → mag (to_z w32 (of_z w32 c.small_step-b1.result)) ≤ 4 * 16777216 + 32
b1_small c = rw (via w32 c.small_step-b1.result c.small_step-b1.type_inv) (omega (arith, c.small_step-b1.ensures.1, a1_small c.before))

pub small_top-b2-requires : goal.small_top-b2-requires
small_top-b2-requires c = omega (arith, a1_small c.before)

b2_small : (c : After-small_top-b2) → mag (to_z w32 (of_z w32 c.small_top-b2.result)) ≤ 6 * 16777216 + 48
b2_small c = rw (via w32 c.small_top-b2.result c.small_top-b2.type_inv) (omega (arith, c.small_top-b2.ensures.1, a1_small c.before.before))

pub small_step-c1-requires : goal.small_step-c1-requires
small_step-c1-requires c = omega (arith, b1_small c.before)

c1_small : (c : After-small_step-c1) → mag (to_z w32 (of_z w32 c.small_step-c1.result)) ≤ 6 * 16777216 + 48
c1_small c = rw (via w32 c.small_step-c1.result c.small_step-c1.type_inv) (omega (arith, c.small_step-c1.ensures.1, b1_small c.before.before))

pub small_step-c2-requires : goal.small_step-c2-requires
small_step-c2-requires c = omega (arith, b1_small c.before.before, b2_small c.before)

c2_small : (c : After-small_step-c2) → mag (to_z w32 (of_z w32 c.small_step-c2.result)) ≤ 15 * 16777216 + 128
c2_small c = rw (via w32 c.small_step-c2.result c.small_step-c2.type_inv) (omega (arith, c.small_step-c2.ensures.1, b1_small c.before.before.before, b2_small c.before.before))

pub small_top-c3-requires : goal.small_top-c3-requires
small_top-c3-requires c = omega (arith, b2_small c.before.before, b1_small c.before.before.before)

c3_small : (c : After-small_top-c3) → mag (to_z w32 (of_z w32 c.small_top-c3.result)) ≤ 20 * 16777216 + 176
c3_small c = rw (via w32 c.small_top-c3.result c.small_top-c3.type_inv) (omega (arith, c.small_top-c3.ensures.1, b2_small c.before.before.before, b1_small c.before.before.before.before))

pub small_step-d1-requires : goal.small_step-d1-requires
small_step-d1-requires c = omega (arith, c1_small c.before.before)

d1_small : (c : After-small_step-d1) → mag (to_z w32 (of_z w32 c.small_step-d1.result)) ≤ 8 * 16777216 + 64
d1_small c = rw (via w32 c.small_step-d1.result c.small_step-d1.type_inv) (omega (arith, c.small_step-d1.ensures.1, c1_small c.before.before.before))

pub small_step-d2-requires : goal.small_step-d2-requires
small_step-d2-requires c = omega (arith, c1_small c.before.before.before, c2_small c.before.before)

d2_small : (c : After-small_step-d2) → mag (to_z w32 (of_z w32 c.small_step-d2.result)) ≤ 28 * 16777216 + 240
d2_small c = rw (via w32 c.small_step-d2.result c.small_step-d2.type_inv) (omega (arith, c.small_step-d2.ensures.1, c1_small c.before.before.before.before, c2_small c.before.before.before))

pub small_step-d3-requires : goal.small_step-d3-requires
small_step-d3-requires c = omega (arith, c2_small c.before.before.before, c3_small c.before.before, c1_small c.before.before.before.before)

d3_small : (c : After-small_step-d3) → mag (to_z w32 (of_z w32 c.small_step-d3.result)) ≤ 56 * 16777216 + 496
d3_small c = rw (via w32 c.small_step-d3.result c.small_step-d3.type_inv) (omega (arith, c.small_step-d3.ensures.1, c2_small c.before.before.before.before, c3_small c.before.before.before, c1_small c.before.before.before.before.before))

pub small_top-d4-requires : goal.small_top-d4-requires
small_top-d4-requires c = omega (arith, c3_small c.before.before.before, c2_small c.before.before.before.before)

d4_small : (c : After-small_top-d4) → mag (to_z w32 (of_z w32 c.small_top-d4.result)) ≤ 70 * 16777216 + 624
d4_small c = rw (via w32 c.small_top-d4.result c.small_top-d4.type_inv) (omega (arith, c.small_top-d4.ensures.1, c3_small c.before.before.before.before, c2_small c.before.before.before.before.before))

pub small_step-e1-requires : goal.small_step-e1-requires
small_step-e1-requires c = omega (arith, d1_small c.before.before.before)

pub small_step-e2-requires : goal.small_step-e2-requires
small_step-e2-requires c = omega (arith, d1_small c.before.before.before.before, d2_small c.before.before.before)

pub small_step-e3-requires : goal.small_step-e3-requires
small_step-e3-requires c = omega (arith, d2_small c.before.before.before.before, d3_small c.before.before.before, d1_small c.before.before.before.before.before)

pub step-e4-requires : goal.step-e4-requires
step-e4-requires c = omega (arith, d3_small c.before.before.before.before)

pub top-e5-requires : goal.top-e5-requires
top-e5-requires c = omega (arith, d4_small c.before.before.before.before)

pub returns : goal.returns
returns c =
    five_stages (to_z-of_z c.ranges.q1) (to_z-of_z c.ranges.q2) (to_z-of_z c.ranges.q3) (to_z-of_z c.ranges.q4) (to_z-of_z c.ranges.q5)
    (via w32 c.small_top-a1.result c.small_top-a1.type_inv ∙ c.small_top-a1.ensures.0)
    (via w32 c.small_step-b1.result c.small_step-b1.type_inv ∙ c.small_step-b1.ensures.0)
    (via w32 c.small_top-b2.result c.small_top-b2.type_inv ∙ c.small_top-b2.ensures.0)
    (via w32 c.small_step-c1.result c.small_step-c1.type_inv ∙ c.small_step-c1.ensures.0)
    (via w32 c.small_step-c2.result c.small_step-c2.type_inv ∙ c.small_step-c2.ensures.0)
    (via w32 c.small_top-c3.result c.small_top-c3.type_inv ∙ c.small_top-c3.ensures.0)
    (via w32 c.small_step-d1.result c.small_step-d1.type_inv ∙ c.small_step-d1.ensures.0)
    (via w32 c.small_step-d2.result c.small_step-d2.type_inv ∙ c.small_step-d2.ensures.0)
    (via w32 c.small_step-d3.result c.small_step-d3.type_inv ∙ c.small_step-d3.ensures.0)
    (via w32 c.small_top-d4.result c.small_top-d4.type_inv ∙ c.small_top-d4.ensures.0)
    (via w32 c.small_step-e1.result c.small_step-e1.type_inv ∙ c.small_step-e1.ensures.0)
    (via w32 c.small_step-e2.result c.small_step-e2.type_inv ∙ c.small_step-e2.ensures.0)
    (via w32 c.small_step-e3.result c.small_step-e3.type_inv ∙ c.small_step-e3.ensures.0)
    (via w32 c.step-e4.result c.step-e4.type_inv ∙ c.step-e4.ensures)
    (via w32 c.top-e5.result c.top-e5.type_inv ∙ c.top-e5.ensures)

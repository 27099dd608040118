-- `fixed::sharpen` meets its contract. Assumes nothing.
use mathlib.Core.Path.{◌∙◌}
use native.Mathlib.Omega.{arith}
use lib.Signed.{nat_abs-le}
use mir.Syntax.{w16}
use mir.Val.{to_z, of_z}
use mir.Facts.{to_z-of_z}
use Rattle.laws.specs.Back.{via}
use Rattle.fixed.specs.Laws.{sharpen_none, positive}
use Rattle.fixed.proofs.Laws.{sharpen_is, sharpen_far}
use Rattle.fixed.proofs.sharpen.Goals as goal

pub returns-then-t0-lt1 : goal.returns-then-t0-lt1
returns-then-t0-lt1 c = sharpen_none _ _ (to_z-of_z c.ranges.t0) c.if-t0-lt1.true

pub overflow_cast-lag : goal.overflow_cast-lag
overflow_cast-lag c =
    let t0 = c.args.t0 in
    let f = c.ranges.t0 in
    (positive (to_z w16 (of_z w16 t0)) c.if-t0-lt1.false, rw (to_z-of_z f) (record { fits = omega (arith, nat_abs-le t0 f.sfits) }))

pub returns-then-lag-gt39 : goal.returns-then-lag-gt39
returns-then-lag-gt39 c = sharpen_far _ _ (to_z-of_z c.ranges.t0) c.if-t0-lt1.false c.if-lag-gt39.true

pub returns : goal.returns
returns c =
    c.add_delayed.ensures
    ∙ rw (via w16 c.shl.result c.shl.type_inv, c.shl.ensures, to_z-of_z c.ranges.beta)
    (sharpen_is _ _ (to_z-of_z c.ranges.t0) c.if-t0-lt1.false)

-- `basic_op::l_shr_r` meets its contract. Assumes nothing.
use mathlib.Core.Path.{◌∙◌, ap}
use lib.IntN.{pos, nat_abs}
use mir.Syntax.{w16, w32, w64}
use mir.Facts.{to_z-of_z, sfits_lit}
use Rattle.basic_op.specs.Ops.{l_shr_r, rounded}
use Rattle.laws.specs.Range.{fits_add, fits_half}
use Rattle.basic_op.specs.Laws.{by_pos, by_neg, rounded_zero, rounded_far, rounded_in}
use Rattle.laws.specs.Back.{via, fits_by, widens, wide, still}
use Rattle.basic_op.proofs.l_shr_r.Goals as goal

pub returns-then-n-lt0 : goal.returns-then-n-lt0
unfolding l_shr_r
returns-then-n-lt0 c =
    (cc (via w32 c.l_shl_by.result c.l_shl_by.type_inv, to_z-of_z c.ranges.x, to_z-of_z c.ranges.n)) ∙ by_neg (to_z-of_z c.ranges.n) _ _ c.if-n-lt0.true

pub returns-then-k-eq0 : goal.returns-then-k-eq0
unfolding l_shr_r
returns-then-k-eq0 c =
    let x = c.args.x in
    to_z-of_z c.ranges.x ∙ rounded_zero x _ c.if-k-eq0.true ∙ ap (rounded x) (c.from-k.ensures ∙ c.unsigned_abs.ensures.value ∙ ap nat_abs (to_z-of_z c.ranges.n)) ∙ by_pos (to_z-of_z c.ranges.n) _ _ c.if-n-lt0.false

pub returns-then-k-gt31 : goal.returns-then-k-gt31
unfolding l_shr_r
returns-then-k-gt31 c =
    let x = c.args.x in
    rounded_far x _ c.if-k-gt31.true ∙ ap (rounded x) (c.from-k.ensures ∙ c.unsigned_abs.ensures.value ∙ ap nat_abs (to_z-of_z c.ranges.n)) ∙ by_pos (to_z-of_z c.ranges.n) _ _ c.if-n-lt0.false

pub overflow_add-half : goal.overflow_add-half
overflow_add-half c = fits_add w32 w16 w64 _ (pos 1) (still w64 tt (fits_by w32 c.sar32-half.result c.sar32-half.type_inv)) (sfits_lit tt) tt

pub overflow_cast-result : goal.overflow_cast-result
overflow_cast-result c =
    rw (via w64 c.sar64.result c.sar64.type_inv, c.sar64.ensures, to_z-of_z (overflow_add-half c.before))
    (fits_half _ (still w64 tt (fits_by w32 c.sar32-half.result c.sar32-half.type_inv)))

pub returns : goal.returns
unfolding l_shr_r
returns c =
    let x = c.args.x in
    (cc (to_z-of_z (overflow_cast-result c), via w64 c.sar64.result c.sar64.type_inv, to_z-of_z (overflow_add-half c.before), wide w64 tt (fits_by w32 c.sar32-half.result c.sar32-half.type_inv), to_z-of_z c.ranges.x))
    ∙ rounded_in x _ c.if-k-eq0.false c.if-k-gt31.false
    ∙ ap (rounded x) (c.from-k.ensures ∙ c.unsigned_abs.ensures.value ∙ ap nat_abs (to_z-of_z c.ranges.n)) ∙ by_pos (to_z-of_z c.ranges.n) _ _ c.if-n-lt0.false

pub overflow_cast-half : goal.overflow_cast-half
overflow_cast-half c = widens w64 tt (fits_by w32 c.sar32-half.result c.sar32-half.type_inv)

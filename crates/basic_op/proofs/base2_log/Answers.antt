-- `basic_op::base2_log` meets its contract. Assumes nothing.
use mathlib.Core.Path.{◌≡◌, ◌∙◌, sym}
use native.Mathlib.Omega.{arith}
use lib.IntN.{pos}
use mir.Syntax.{w16, w32}
use mir.Val.{to_z, of_z}
use mir.Facts.{to_z-of_z}
use Rattle.laws.specs.Back.{via, nonneg_of}
use Rattle.basic_op.specs.Log.{Normalized, normalized, log_none, fits_less}
use Rattle.basic_op.proofs.base2_log.Goals as goal
use Rattle.basic_op.proofs.base2_log.Goals.{After-l_shl-m}

pub returns-then-value-lt1 : goal.returns-then-value-lt1
returns-then-value-lt1 c = log_none c.args.value _ (rw (to_z-of_z c.ranges.value) at c.if-value-lt1.true)

-- the value at this place, normalized
value : (c : After-l_shl-m) → Normalized c.args.value
value c = normalized c.args.value (rw (to_z-of_z c.ranges.value) at c.if-value-lt1.false) c.ranges.value.sfits

left : (c : After-l_shl-m) → to_z w16 (of_z w16 c.norm_l-left.result) ≡ pos (value c).left
left c = via w16 c.norm_l-left.result c.norm_l-left.type_inv ∙ c.norm_l-left.ensures ∙ rw (to_z-of_z c.ranges.value) (value c).norm

shifted : (c : After-l_shl-m) → to_z w32 (of_z w32 c.l_shl-m.result) ≡ pos (value c).m
shifted c =
    let f = to_z-of_z c.ranges.value in
    via w32 c.l_shl-m.result c.l_shl-m.type_inv ∙ c.l_shl-m.ensures ∙ rw (f, left c, ← (value c).norm) (value c).shifted

pub overflow_cast-m : goal.overflow_cast-m
overflow_cast-m c = (nonneg_of (shifted c), rw (shifted c) (record { fits = omega (arith, (value c).high) }))

pub overflow_sub-result : goal.overflow_sub-result
overflow_sub-result c = rw (left c) (fits_less (value c).left (value c).few)

pub log_fraction-requires : goal.log_fraction-requires
log_fraction-requires c = rw (shifted c) ((value c).low, (value c).high)

pub returns : goal.returns
returns c =
    rw (to_z-of_z (overflow_sub-result c.before), left c.before, via w16 c.log_fraction.result c.log_fraction.type_inv, c.log_fraction.ensures, shifted c.before) (sym ((value c.before).log _))

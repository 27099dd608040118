-- `basic_op::norm_l` meets its contract. Assumes nothing.
use mathlib.Core.Path.{◌∙◌, ap, sym}
use native.Mathlib.Omega.{arith}
use Prim.Native.Nat.{ℕ, ◌-◌}
use lib.Count.{count_leading_zeros, leading_le}
use lib.IntN.{pos}
use lib.Signed.{mag}
use mir.Syntax.{w16, w32}
use mir.Val.{to_z, of_z}
use mir.ValLaws.{to_z_pos}
use mir.Facts.{to_z-of_z}
use Rattle.basic_op.specs.Ops.{norm_l}
use Rattle.basic_op.specs.Norm.{some_lead, norm_is}
use Rattle.basic_op.proofs.norm_l.Goals as goal

pub returns-then-x-eq0 : goal.returns-then-x-eq0
unfolding norm_l
returns-then-x-eq0 c = let h = c.if-x-eq0.true in ap norm_l (ap (to_z w32) (sym h) ∙ to_z-of_z c.ranges.x)

pub overflow_sub-result : goal.overflow_sub-result
overflow_sub-result c = some_lead _ (rw (c.magnitude.ensures, to_z-of_z c.ranges.x) c.ranges.x.sfits)

pub overflow_cast-result : goal.overflow_cast-result
overflow_cast-result c = omega (arith, leading_le 32 c.magnitude.result)

pub returns : goal.returns
returns c =
    to_z_pos w16 _ (omega (arith, leading_le 32 c.magnitude.result))
    ∙ ap (λ (m : ℕ). pos (count_leading_zeros 32 m - 1)) (c.magnitude.ensures ∙ ap mag (to_z-of_z c.ranges.x))
    ∙ sym (norm_is c.args.x (λ e. c.if-x-eq0.false (ap (of_z w32) e)) c.ranges.x.sfits)

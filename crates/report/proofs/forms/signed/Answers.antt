-- `report::forms::signed` meets its contract: the label, and the sign and the size behind it.
use mathlib.Core.Path.{ap, ◌∙◌}
use native.Mathlib.Omega.{arith}
use lib.IntN.{nat_abs}
use mir.Facts.{to_z-of_z}
use Rattle.text.specs.Laws.{then}
use Rattle.report.specs.Forms.{sign, signed}
use Rattle.report.proofs.forms.signed.Goals as goal

pub returns-then-z-lt0 : goal.returns-then-z-lt0
unfolding signed sign
returns-then-z-lt0 c =
    let e = to_z-of_z c.ranges.z in (
      omega (arith, c.put-at.ensures.place, c.figure.ensures.0),
      rw (rw e at c.if-z-lt0.true, ← c.unsigned_abs.ensures.value ∙ ap nat_abs e) (then c.put-at.ensures c.figure.ensures.1),
    )

pub returns : goal.returns
unfolding signed sign
returns c =
    let e = to_z-of_z c.ranges.z in (
      omega (arith, c.put-at.ensures.place, c.figure-2.ensures.0),
      rw (rw e at c.if-z-lt0.false, ← c.unsigned_abs-2.ensures.value ∙ ap nat_abs e) (then c.put-at.ensures c.figure-2.ensures.1),
    )

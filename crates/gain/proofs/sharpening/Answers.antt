-- `gain::sharpening` meets its contract. Assumes nothing.
use mir.Syntax.{w16}
use mir.Facts.{to_z-of_z}
use Rattle.laws.specs.Back.{via}
use Rattle.basic_op.specs.Laws.{lesser_is, greater_is}
use Rattle.gain.specs.Gain.{sharpening}
use Rattle.gain.proofs.sharpening.Goals as goal

pub returns : goal.returns
unfolding sharpening
returns c =
    rw (via w16 c.max.result c.max.type_inv, c.max.ensures.value, greater_is, via w16 c.min.result c.min.type_inv, c.min.ensures.value, lesser_is, via w16 c.scalars-max.result c.scalars-max.type_inv, c.scalars-max.ensures, to_z-of_z c.ranges.gp)

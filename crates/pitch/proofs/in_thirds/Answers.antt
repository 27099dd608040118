-- `pitch::in_thirds` meets its contract. Assumes nothing.
use mir.Syntax.{w16}
use mir.Facts.{to_z_pos, to_z-of_z}
use Rattle.pitch.specs.Laws.{fits_less}
use Rattle.pitch.proofs.in_thirds.Goals as goal

pub overflow_sub-result : goal.overflow_sub-result
overflow_sub-result c = rw (to_z_pos w16 c.requires.1) (fits_less _ c.requires.1)

pub returns : goal.returns
returns c = rw (to_z_pos w16 c.requires.0, to_z_pos w16 c.requires.1, to_z-of_z (fits_less c.args.rest c.requires.1))

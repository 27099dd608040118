-- `gain::row_ga` meets its contract. Assumes nothing.
use mir.Syntax.{w16}
use Rattle.laws.specs.Back.{via}
use Rattle.gain.specs.Gain.{row_ga}
use Rattle.gain.proofs.row_ga.Goals as goal

pub returns : goal.returns
unfolding row_ga
returns c = rw (c.low16.ensures, via w16 c.map_ga.result c.map_ga.type_inv, c.map_ga.ensures)

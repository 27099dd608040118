-- `gain::row_gb` meets its contract. Assumes nothing.
use mir.Syntax.{w16}
use Rattle.laws.specs.Back.{via}
use Rattle.gain.specs.Gain.{row_gb}
use Rattle.gain.proofs.row_gb.Goals as goal

pub returns : goal.returns
unfolding row_gb
returns c = rw (c.low16.ensures, via w16 c.map_gb.result c.map_gb.type_inv, c.map_gb.ensures)

-- `fixed::random_index` meets its contract. Assumes nothing.
use mir.Syntax.{w16}
use mir.Facts.{to_z-of_z}
use Rattle.laws.specs.Back.{via}
use Rattle.fixed.specs.Fixed.{random_index}
use Rattle.fixed.proofs.random_index.Goals as goal

pub returns : goal.returns
unfolding random_index
returns c =
    let one = c.random-first in
    let two = c.random-second in
    rw (c.low16-2.ensures, c.low16.ensures, via w16 two.result two.type_inv, two.ensures, via w16 one.result one.type_inv, one.ensures, to_z-of_z c.ranges.seed)

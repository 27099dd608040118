-- `fixed::random` meets its contract. Assumes nothing.
use mathlib.Core.Path.{◌∙◌}
use lib.Dec.{lit<}
use mir.Syntax.{w16, w32}
use mir.Facts.{to_z-of_z}
use Rattle.laws.specs.Back.{via, widens, wide, still}
use Rattle.fixed.specs.Fixed.{random}
use Rattle.fixed.specs.Laws.{fits_product, fits_next}
use Rattle.fixed.proofs.random.Goals as goal

pub overflow_mul-seed : goal.overflow_mul-seed
overflow_mul-seed c = fits_product _ (still w32 tt c.ranges.seed)

pub overflow_add-seed : goal.overflow_add-seed
overflow_add-seed c = rw (to_z-of_z (overflow_mul-seed c), wide w32 tt c.ranges.seed) (fits_next _ _ (lit< tt) c.ranges.seed)

pub returns : goal.returns
unfolding random
returns c =
    rw (via w16 c.extract_l.result c.extract_l.type_inv ∙ c.extract_l.ensures, to_z-of_z (overflow_add-seed c.before), to_z-of_z (overflow_mul-seed c.before), wide w32 tt c.ranges.seed)

pub overflow_cast-seed : goal.overflow_cast-seed
overflow_cast-seed c = widens w32 tt c.ranges.seed

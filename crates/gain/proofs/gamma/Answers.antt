-- `gain::gamma` meets its contract. Assumes nothing.
use mir.Syntax.{w16, w32}
use Rattle.laws.specs.Back.{via, fits_by, widens, wide}
use Rattle.gain.proofs.gamma.Goals as goal

pub returns : goal.returns
returns c =
    cc (via w32 c.l_add.result c.l_add.type_inv, wide w32 tt (fits_by w16 c.gain_gb-second.result c.gain_gb-second.type_inv), wide w32 tt (fits_by w16 c.gain_ga-first.result c.gain_ga-first.type_inv))

pub overflow_cast-first : goal.overflow_cast-first
overflow_cast-first c = widens w32 tt (fits_by w16 c.gain_ga-first.result c.gain_ga-first.type_inv)

pub overflow_cast-second : goal.overflow_cast-second
overflow_cast-second c = widens w32 tt (fits_by w16 c.gain_gb-second.result c.gain_gb-second.type_inv)

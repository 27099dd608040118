-- `lpc::half_q12` meets its contract: a rounded shift and its lower 16 bits. Assumes nothing.
use mir.Syntax.{w16, w32}
use mir.Facts.{to_z-of_z}
use Rattle.laws.specs.Back.{via}
use Rattle.lpc.specs.Lpc.{half_q12}
use Rattle.lpc.proofs.half_q12.Goals as goal

pub returns : goal.returns
unfolding half_q12
returns c = rw (via w16 c.extract_l.result c.extract_l.type_inv, c.extract_l.ensures, via w32 c.l_shr_r.result c.l_shr_r.type_inv, c.l_shr_r.ensures, to_z-of_z c.ranges.x)

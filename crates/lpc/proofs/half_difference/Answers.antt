-- `lpc::half_difference` meets its contract: equation (26) on what equation (25) gives. Assumes nothing.
use mir.Syntax.{w16, w32}
use Rattle.laws.specs.Back.{via}
use Rattle.lpc.proofs.half_difference.Goals as goal

pub returns : goal.returns
returns c =
    cc (via w16 c.half_q12.result c.half_q12.type_inv, via w32 c.l_sub.result c.l_sub.type_inv, via w32 c.f2_prime.result c.f2_prime.type_inv, via w32 c.f1_prime.result c.f1_prime.type_inv)

-- `lpc::f2_prime` meets its contract: two words of the polynomial, subtracted. Assumes nothing.
use mir.Syntax.{w32}
use Rattle.laws.specs.Back.{via2}
use Rattle.basic_op.specs.Ops.{l_sub}
use Rattle.lpc.specs.Lpc.{f2_prime}
use Rattle.lpc.proofs.f2_prime.Goals as goal

pub returns : goal.returns
unfolding f2_prime
returns c = via2 w32 w32 w32 l_sub _ _ _ c.l_sub-arg-1.given c.l_sub-arg-2-1.given c.l_sub.type_inv c.l_sub.ensures

-- `lpc::f1_prime` meets its contract: two words of the polynomial, added. Assumes nothing.
use mir.Syntax.{w32}
use Rattle.laws.specs.Back.{via2}
use Rattle.basic_op.specs.Ops.{l_add}
use Rattle.lpc.specs.Lpc.{f1_prime}
use Rattle.lpc.proofs.f1_prime.Goals as goal

pub returns : goal.returns
unfolding f1_prime
returns c = via2 w32 w32 w32 l_add _ _ _ c.l_add-arg-1.given c.l_add-arg-2-1.given c.l_add.type_inv c.l_add.ensures

-- `gain::conceal_error` meets its contract. Assumes nothing.
use mir.Syntax.{w16, w32}
use Rattle.laws.specs.Back.{via}
use Rattle.basic_op.specs.Laws.{greater_is}
use Rattle.gain.specs.Gain.{conceal_error}
use Rattle.gain.proofs.conceal_error.Goals as goal

pub returns : goal.returns
unfolding conceal_error
returns c =
    cc (via w16 c.max.result c.max.type_inv, greater_is _ _, via w16 c.sub.result c.sub.type_inv, via w16 c.extract_l-mean.result c.extract_l-mean.type_inv, via w32 c.l_shr.result c.l_shr.type_inv, via w32 c.error_sum.result c.error_sum.type_inv)

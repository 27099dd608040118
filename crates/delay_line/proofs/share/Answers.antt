-- `delay_line::share` meets its contract.
use Rattle.delay_line.specs.DelayLine.{share}
use Rattle.delay_line.proofs.share.Goals as goal

pub returns : goal.returns
unfolding share
returns c =
    rw (c.sum-2.ensures, c.sum.ensures) at c.part.ensures

-- `print::total` meets its contract: the figures behind its opening.
use Rattle.print.specs.Print.{total}
use Rattle.print.specs.Laws.{front}
use Rattle.print.proofs.total.Goals as goal

pub returns : goal.returns
unfolding total
returns c = (c.figures.ensures.0, front c.figures.ensures.1)

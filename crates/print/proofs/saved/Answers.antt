-- `print::saved` meets its contract: the figures behind its opening.
use Rattle.print.specs.Print.{saved}
use Rattle.print.specs.Laws.{front}
use Rattle.print.proofs.saved.Goals as goal

pub returns : goal.returns
unfolding saved
returns c = (c.figures.ensures.0, front c.figures.ensures.1)

-- `print::Writer::figure` meets its contract.
use Rattle.text.specs.Laws.{kept}
use Rattle.print.proofs.Writer.figure.Goals as goal

pub returns-clause-kept : goal.returns-clause-kept
returns-clause-kept c = kept c.figure-self.ensures.1

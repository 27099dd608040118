-- `print::Writer::put` meets its contract.
use Rattle.text.specs.Laws.{kept}
use Rattle.print.proofs.Writer.put.Goals as goal

pub returns-clause-kept : goal.returns-clause-kept
returns-clause-kept c = kept c.put-self.ensures

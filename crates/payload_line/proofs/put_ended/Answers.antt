-- `payload_line::put_ended` meets its contract: the line feed stands behind the text.
use Rattle.text.specs.Laws.{then}
use Rattle.payload_line.specs.PayloadLine.{ended}
use Rattle.payload_line.proofs.put_ended.Goals as goal

pub returns : goal.returns
unfolding ended
returns c = then c.put-a.ensures c.put.ensures

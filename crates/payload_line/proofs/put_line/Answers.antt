-- `payload_line::put_line` meets its contract: three parts, each behind what stands in front of it.
use mathlib.Core.List.{append_assoc}
use Rattle.text.specs.Laws.{then}
use Rattle.payload_line.proofs.put_line.Goals as goal

pub returns : goal.returns
returns c = rw append_assoc at (then (then c.put-a.ensures c.put-b.ensures) c.put.ensures)

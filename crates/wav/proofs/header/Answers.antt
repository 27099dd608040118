-- `wav::header` meets its contract: its numbers, one behind another.
use native.Mathlib.Omega.{arith}
use Rattle.wav.specs.Laws.{header_whole}
use Rattle.wav.proofs.header.Goals as goal

pub returns : goal.returns
returns c = header_whole _ _ _ _ _ (omega arith) (rw c.count.ensures at c.put_numbers.ensures)

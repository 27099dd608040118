-- `line::put_bytes` meets its contract: behind the place are the digits of the bytes passed.
use Rattle.std.specs.Prelude.{take}
use Rattle.text.specs.Text.{Put}
use Rattle.line.specs.Line.{hex}
use Rattle.line.proofs.put_bytes.Given as goal

abbrev pub invariant-loop-b : goal.invariant-loop-b
invariant-loop-b l = Put (hex (take l.b-index l.payload)) l.from l.initial.out l.at l.out

-- `line::read_payload` meets its contract: the bytes written are those of the digits passed, and those behind them are unchanged.
use Rattle.std.specs.Prelude.{◌≡◌, ◌++◌, drop}
use Rattle.line.specs.Line.{bytes}
use Rattle.line.proofs.read_payload.Given as goal

abbrev pub invariant-loop-i : goal.invariant-loop-i
invariant-loop-i l = l.payload ≡ bytes l.i l.digits ++ drop l.i l.initial.payload

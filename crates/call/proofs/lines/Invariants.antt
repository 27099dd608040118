-- `call::lines` meets its contract: the lines taken, and the lines that the definition takes from what is behind them, are those of the whole.
use Rattle.call.specs.Laws.{SoFar}
use Rattle.call.proofs.lines.Given as goal

abbrev pub invariant-loop-text : goal.invariant-loop-text
invariant-loop-text l = SoFar l.t l.initial.b l.initial.job l.initial.left l.input l.initial.out l.b l.job l.left l.out l.used l.written

abbrev pub decreases-loop-text : goal.decreases-loop-text
decreases-loop-text l = l.left

-- `line::line` meets its contract: the line is of none of the kinds passed, and nothing is written.
use Rattle.std.specs.Prelude.{◌≡◌, ℕ, ◌<◌, false}
use Rattle.line.specs.Line.{is}
use Rattle.line.proofs.line.Given as goal

abbrev pub invariant-loop-kind : goal.invariant-loop-kind
invariant-loop-kind l = record { none : (k : ℕ) → k < l.kind → is k l.text ≡ false; same : l.payload ≡ l.initial.payload }

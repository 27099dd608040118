-- `wav::last` meets its contract: behind each turn one chunk more is passed.
use mathlib.Core.Path.{◌≡◌}
use Rattle.laws.specs.Loops.{steps}
use Rattle.wav.specs.Wav.{Inside, next}
use Rattle.wav.proofs.last.Given as goal

abbrev pub invariant-loop : goal.invariant-loop
invariant-loop l = (l.p ≡ steps (λ k q. next l.bytes q) l.counter l.initial.p) × Inside l.bytes l.p

-- `words::from_bytes` meets its contract: before turn i the first i words are done.
use mathlib.Core.Path.{◌≡◌}
use Rattle.laws.specs.Lists.{at, filled}
use Rattle.words.specs.Words.{words}
use Rattle.words.proofs.from_bytes.Given as goal

abbrev pub invariant-loop-i : goal.invariant-loop-i
invariant-loop-i l = l.out ≡ filled (at (words l.bytes)) l.i l.initial.out

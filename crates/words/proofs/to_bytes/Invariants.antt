-- `words::to_bytes` meets its contract: before turn i the bytes of i words are written.
use mathlib.Core.Path.{◌≡◌}
use Rattle.words.specs.Laws.{put}
use Rattle.words.proofs.to_bytes.Given as goal

abbrev pub invariant-loop-i : goal.invariant-loop-i
invariant-loop-i l = l.out ≡ put l.words l.i l.initial.out

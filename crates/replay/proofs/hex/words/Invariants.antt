-- `replay::hex::words` meets its contract: before turn n the first n words are done.
use Prim.Native.Nat.{◌≤◌}
use mathlib.Core.Path.{◌≡◌}
use lib.ListN.{length}
use Rattle.laws.specs.Lists.{filled}
use Rattle.replay.specs.Replay.{word_at}
use Rattle.replay.proofs.hex.words.Given as goal

abbrev pub invariant-loop-n : goal.invariant-loop-n
invariant-loop-n l = (l.n ≤ length l.initial.words) × (length l.words ≡ length l.initial.words) × (l.words ≡ filled (word_at l.text) l.n l.initial.words)

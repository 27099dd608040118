-- `inverse::frame_words` meets its contract: the first k words are read off.
use Prim.Native.Nat.{◌-◌, ◌≤◌}
use mathlib.Core.Path.{◌≡◌}
use lib.IntN.{pos}
use lib.ListN.{replicate}
use Rattle.laws.specs.Lists.{filled}
use Rattle.inverse.proofs.Parts.{frame_word}
use Rattle.inverse.proofs.frame_words.Given as goal

abbrev pub invariant-loop-k : goal.invariant-loop-k
invariant-loop-k l = (l.k ≤ 80) × (l.w ≡ filled (frame_word l.a l.b l.y) l.k (replicate 80 (pos 0)))

abbrev pub decreases-loop-k : goal.decreases-loop-k
decreases-loop-k l = 80 - l.k

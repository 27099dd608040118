-- `replay::hex::field` meets its contract: before turn i the number of the first i digits is made.
use Prim.Native.Nat.{◌≤◌}
use mathlib.Core.Path.{◌≡◌}
use Rattle.replay.specs.Replay.{number}
use Rattle.replay.proofs.hex.field.Given as goal

abbrev pub invariant-loop-i : goal.invariant-loop-i
invariant-loop-i l = (l.i ≤ l.count) × (l.v ≡ number l.text l.from l.i)

-- `words::number` meets its contract: the loop goes from the last byte to the first, so that what is done is the number of the bytes from i on.
use Prim.Native.Nat.{◌*◌, ◌-◌, ◌^◌, ◌≤◌, ◌<◌, min}
use mathlib.Core.Path.{◌≡◌}
use lib.ListN.{length, take, drop}
use Rattle.words.specs.Words.{number}
use Rattle.words.proofs.number.Given as goal

abbrev pub invariant-loop-i : goal.invariant-loop-i
invariant-loop-i l = (l.i ≤ min 8 (length l.bytes)) × (l.n < 2 ^ (8 * (min 8 (length l.bytes) - l.i))) × (l.n ≡ number (drop l.i (take 8 l.bytes)))

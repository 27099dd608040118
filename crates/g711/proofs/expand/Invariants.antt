-- `g711::expand` meets its contract: before turn i the first i samples are written.
use Rattle.std.specs.Prelude.{◌≡◌, map, length}
use Rattle.std.proofs.Math.Seq.{paste}
use Rattle.laws.specs.Lists.{at}
use Rattle.g711.proofs.expand.Given as goal

abbrev pub invariant-loop-i : goal.invariant-loop-i
invariant-loop-i l = (length l.samples ≡ length l.initial.samples) × (l.samples ≡ paste l.initial.samples 0 (map (at l.t) l.bytes) l.i)

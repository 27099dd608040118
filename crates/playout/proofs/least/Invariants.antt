-- `playout::least` meets its contract: the least depth stays between the two, and each turn halves what is between them.
use mathlib.Core.Path.{◌≡◌}
use Prim.Native.Nat.{◌-◌}
use lib.ListN.{length}
use Rattle.playout.specs.Playout.{arrivals}
use Rattle.playout.specs.Least.{Inside}
use Rattle.playout.proofs.least.Given as goal

abbrev pub invariant-loop-b : goal.invariant-loop-b
invariant-loop-b l = (length l.out ≡ length l.initial.out) × Inside l.start l.allowed (arrivals l.numbers l.times) (length l.initial.out) l.b

abbrev pub decreases-loop-b : goal.decreases-loop-b
decreases-loop-b l = l.b.high - l.b.low

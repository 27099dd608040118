-- `fixed::add_delayed` meets its contract: before turn n the first n words from t0 on are written. Assumes nothing.
use Prim.Native.Nat.{◌+◌, ◌-◌, ◌≤◌}
use mathlib.Core.Path.{◌≡◌}
use Rattle.laws.specs.Lists.{at}
use Rattle.laws.specs.Loops.{run}
use Rattle.basic_op.specs.Ops.{add, mult}
use Rattle.fixed.proofs.add_delayed.Given as goal

abbrev pub invariant-loop-n : goal.invariant-loop-n
invariant-loop-n l = l.out ≡ run (λ k c. add (at c (l.t0 + k)) (mult (at c k) l.b)) l.t0 l.n l.initial.out

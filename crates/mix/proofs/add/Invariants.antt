-- `mix::add` meets its contract: before turn i the first i sums have the leg's samples.
use Prim.Native.Nat.{◌+◌, ◌-◌, ◌≤◌}
use mathlib.Core.Path.{◌≡◌}
use lib.IntN.{ℤ, ◌+ℤ◌}
use Rattle.laws.specs.Lists.{at, filled}
use Rattle.mix.specs.Laws.{SamplesAt}
use Rattle.mix.proofs.add.Given as goal

abbrev pub invariant-loop-i : goal.invariant-loop-i
invariant-loop-i l = (l.i ≤ 80) × ((l.total ≡ filled (λ j. at l.initial.total j +ℤ at l.legs (l.from + j)) l.i l.initial.total) × SamplesAt l.legs l.from l.i)

abbrev pub decreases-loop-i : goal.decreases-loop-i
decreases-loop-i l = 80 - l.i

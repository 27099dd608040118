-- `inverse::past_sum` meets its contract: before turn i the products of i samples are taken off.
use Prim.Native.Nat.{◌+◌, ◌-◌, ◌*◌, ◌≤◌, ◌<◌}
use mathlib.Core.Path.{◌≡◌}
use lib.IntN.{pos}
use lib.Signed.{mag}
use Rattle.laws.specs.Lists.{at}
use Rattle.laws.specs.Sums.{without}
use Rattle.synth_filter.specs.Fast.{term}
use Rattle.inverse.proofs.past_sum.Given as goal

abbrev pub invariant-loop-i : goal.invariant-loop-i
invariant-loop-i at = (at.i ≤ 10) × ((at.l ≡ without (term at.a at.y at.n) at.i (pos 2048)) × (mag at.l < 4096 + at.i * 2147483649))

abbrev pub decreases-loop-i : goal.decreases-loop-i
decreases-loop-i l = 10 - l.i

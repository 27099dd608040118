-- `compare_turn::turn` meets its contract: each turn takes a line, but for the last.
use mathlib.Core.Path.{◌≡◌}
use mathlib.Core.Bool.{cond}
use Prim.Native.Nat.{◌+◌, ◌-◌}
use native.Mathlib.Omega.{arith}
use lib.ListN.{length}
use Rattle.compare_turn.specs.Turn.{Within}
use Rattle.compare_turn.specs.Laws.{falls}
use Rattle.compare_turn.proofs.turn.Given as goal

abbrev pub invariant-loop-going : goal.invariant-loop-going
invariant-loop-going l =
    Within l.call l.far (length l.initial.out) (length l.initial.pcm) l.all × (length l.m ≡ length l.initial.m) × (length l.out ≡ length l.initial.out) × (length l.pcm ≡ length l.initial.pcm)

abbrev pub decreases-loop-going : goal.decreases-loop-going
decreases-loop-going l = (length l.call - l.all.line) + cond l.going 1 0

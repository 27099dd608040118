-- The answers of `wav::last`.
use mathlib.Core.Path.{◌≡◌}
use native.Mathlib.Omega.{arith}
use Rattle.laws.specs.Loops.{steps_none, steps_turn}
use Rattle.wav.specs.Wav.{last}
use Rattle.std.proofs.Common.{rules}
use Rattle.wav.proofs.last.Goals as goal

pub loop-init : goal.loop-init
loop-init c = (steps_none _ _, record { chunk = search rules; form = tt })

pub next-p-requires : goal.next-p-requires
next-p-requires c = c.loop.invariant.1

pub loop-preserved : goal.loop-preserved
loop-preserved c =
    (steps_turn _ _ _ _ _ c.loop.invariant.0 c.next-p.ensures.0, c.next-p.ensures.1)

pub returns : goal.returns
unfolding last
returns c =
    let h : c.loop.counter ≡ 64 = omega arith in
    (rw h at c.loop.invariant.0, c.loop.invariant.1)

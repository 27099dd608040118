-- The answers of `compare_step::slots::only_fitting`.
use Prim.Native.Nat.{◌-◌}
use mathlib.Core.Path.{◌≡◌, refl, ◌∙◌}
use native.Mathlib.Omega.{arith}
use lib.ListN.{length}
use Rattle.laws.specs.Loops.{steps, steps_none, steps_turn, ended_from}
use Rattle.compare_step.specs.Slots.{only_fitting}
use Rattle.std.proofs.Common.{rules}
use Rattle.compare_step.proofs.slots.only_fitting.Goals as goal

pub loop-i-preserved : goal.loop-i-preserved
loop-i-preserved c =
    let l = c.loop-i in
    let h : length c.vacate.new.s ≡ length l.s = search rules in
    (search rules, (h ∙ l.invariant.1.0, steps_turn _ l.i _ _ _ l.invariant.1.1 c.vacate.ensures))

pub returns : goal.returns
unfolding only_fitting
returns c = let l = c.loop-i in let e : l.i ≡ 8 = omega arith in ended_from {n = l.i} (steps _) 8 l.invariant.1.1 e

pub loop-i-init : goal.loop-i-init
loop-i-init c = (search rules, (refl, steps_none _ _))

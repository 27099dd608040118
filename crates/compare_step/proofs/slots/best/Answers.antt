-- The answers of `compare_step::slots::best`.
use mathlib.Core.Path.{◌≡◌, ◌∙◌}
use mathlib.Core.Bool.{cond}
use Prim.Native.Nat.{◌-◌}
use mir.Syntax.{w16}
use Rattle.laws.specs.Back.{via}
use Rattle.laws.specs.Loops.{steps, steps_none, steps_turn, ended}
use native.Mathlib.Omega.{arith}
use lib.Signed.{lt_z}
use Rattle.compare_step.specs.Slots.{fit, best}
use Rattle.std.proofs.Common.{rules}
use Rattle.compare_step.proofs.slots.best.Goals as goal
use Rattle.compare_step.proofs.slots.best.Goals.{else-fit, then-fit}

pub loop-i-preserved : goal.loop-i-preserved
loop-i-preserved c =
    let y = c.fit-in-loop-i in
    let x = c.fit in (
      search rules,
      (
        elim c.if-fit.branch [ then-fit w ↦ rw w.j-is (omega arith) | else-fit w ↦ rw w.j-is c.loop-i.invariant.1.0 ],
        steps_turn _ c.loop-i.i 0 c.loop-i.j _ c.loop-i.invariant.1.1
            (elim c.if-fit.branch [ then-fit w ↦ w.j-is ∙ rw (rw (via w16 x.result x.type_inv, via w16 y.result y.type_inv, x.ensures, y.ensures) at w.if-fit.true) | else-fit w ↦ w.j-is ∙ rw (rw (via w16 x.result x.type_inv, via w16 y.result y.type_inv, x.ensures, y.ensures) at w.if-fit.false) ]),
      ),
    )

pub returns : goal.returns
unfolding best
returns c =
    let l = c.loop-i in
    let e : l.i ≡ 8 = omega arith in
    record { value = ended {n = l.i} (λ k. steps (λ i j. cond (lt_z (fit c.args.s.now j) (fit c.args.s.now i)) i j) k 0) 8 l.invariant.1.1 e; upper_bound = l.invariant.1.0 }

pub loop-i-init : goal.loop-i-init
loop-i-init c = (search rules, (search rules, steps_none _ 0))

-- The answers of `compare_step::slots::same_samples`.
use Prim.Native.Nat.{◌+◌, ◌-◌}
use mathlib.Core.Path.{◌≡◌, ◌∙◌}
use native.Mathlib.Omega.{arith}
use mir.Syntax.{w16}
use Rattle.laws.specs.Lists.{at}
use Rattle.laws.specs.Back.{via}
use Rattle.laws.specs.Loops.{steps_none, steps_turn, ended}
use Rattle.compare_step.specs.Slots.{same, same_samples}
use Rattle.std.proofs.Common.{rules}
use Rattle.compare_step.proofs.slots.same_samples.Goals as goal
use Rattle.compare_step.proofs.slots.same_samples.Goals.{else-n-k, then-n-k}

pub loop-k-init : goal.loop-k-init
unfolding same_samples
loop-k-init c = (search rules, (search rules, steps_none _ 0))

pub loop-k-preserved : goal.loop-k-preserved
unfolding same_samples
loop-k-preserved c =
    let g = c.args in
    let e = via w16 (at g.y.now c.loop-k.k) c.same-arg-1.given in
    let f = via w16 (at g.z.now (10 + c.loop-k.k)) c.same-arg-in-loop-k-1.given in (
      search rules,
      (
        elim c.if-n-k.branch [ then-n-k w ↦ rw w.n-is (omega arith) | else-n-k w ↦ rw w.n-is (omega (arith, c.loop-k.invariant.1.0)) ],
        steps_turn _ c.loop-k.k 0 c.loop-k.n _ c.loop-k.invariant.1.1
            (elim c.if-n-k.branch [ then-n-k w ↦ w.n-is ∙ rw (rw (c.same.ensures, e, f) at w.if-n-k.true) | else-n-k w ↦ w.n-is ∙ rw (rw (c.same.ensures, e, f) at w.if-n-k.false) ]),
      ),
    )

pub returns : goal.returns
returns c = let l = c.loop-k in let e : l.k ≡ 80 = omega arith in
    record { value = ended {n = l.k} (same_samples c.args.y.now c.args.z.now) 80 l.invariant.1.1 e; upper_bound = omega (arith, l.invariant.1.0) }

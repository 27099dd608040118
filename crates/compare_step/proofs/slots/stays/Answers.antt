-- The answers of `compare_step::slots::stays`.
use mathlib.Core.Path.{◌≡◌, sym, ◌∙◌}
use Prim.Native.Nat.{◌-◌}
use Rattle.laws.specs.Loops.{nowhere, nowhere_none, nowhere_hit, nowhere_miss, ended}
use native.Mathlib.Omega.{arith}
use Rattle.compare_step.specs.Slots.{fits, stays}
use Rattle.std.proofs.Common.{rules}
use Rattle.compare_step.proofs.slots.stays.Goals as goal
use Rattle.compare_step.proofs.slots.stays.Goals.{else-repeated, then-repeated}

pub returns-then-not-fits : goal.returns-then-not-fits
unfolding stays
returns-then-not-fits c = rw (← c.fits.ensures, c.if-not-fits.true)

pub loop-j-preserved : goal.loop-j-preserved
loop-j-preserved c =
    let r = c.repeated in (
      search rules,
      elim c.if-repeated.branch [ then-repeated w ↦ w.ok-is ∙ nowhere_hit _ _ (sym r.ensures ∙ w.if-repeated.true) | else-repeated w ↦ w.ok-is ∙ nowhere_miss _ _ _ c.loop-j.invariant.1 (sym r.ensures ∙ w.if-repeated.false) ],
    )

pub returns : goal.returns
unfolding stays
returns c =
    let e : c.loop-j.j ≡ c.args.i = omega arith in
    rw (← c.fits.ensures, c.if-not-fits.false) (ended {n = c.loop-j.j} (nowhere _) c.args.i c.loop-j.invariant.1 e)

pub loop-j-init : goal.loop-j-init
loop-j-init c = (search rules, nowhere_none _)

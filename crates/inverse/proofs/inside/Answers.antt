-- The answers of `inverse::inside`.
use Rattle.std.specs.Int.{w16}
use Rattle.std.specs.Int.Signed.{mag}
use Rattle.laws.specs.Lists.{at}
use Rattle.laws.specs.Back.{via}
use Rattle.laws.specs.Loops.{nowhere_none, nowhere_hit, nowhere_miss, ended}
use Rattle.inverse.specs.Inverse.{inside}
use Rattle.std.proofs.Common.{rules, arith, ◌∙◌, ◌^◌, ◌<◌}
use Rattle.inverse.proofs.inside.Goals as goal
use Rattle.inverse.proofs.inside.Goals.{else-s, then-s}

pub loop-s-init : goal.loop-s-init
unfolding inside
loop-s-init c = nowhere_none _

pub loop-s-preserved : goal.loop-s-preserved
unfolding inside
loop-s-preserved c =
    let f : mag (at c.args.y.now c.loop-s.s-index) < 2 ^ 15 = search rules in
    let e = via w16 (at c.args.y.now c.loop-s.s-index) f in
    elim c.if-s.branch [ then-s w ↦ w.ok-is ∙ nowhere_hit _ _ (rw e at w.if-s.true) | else-s w ↦ w.ok-is ∙ nowhere_miss _ _ _ c.loop-s.invariant (rw e at w.if-s.false) ]

pub returns : goal.returns
returns c = ended (inside _) _ c.loop-s.invariant (omega arith)

-- The answers of `playout::below`.
use Rattle.std.proofs.Common.{◌∙◌, arith, le-leb}
use borrow.Author.Tests.{lt-leb}
use Rattle.laws.specs.Loops.{nowhere, nowhere_none, nowhere_hit, nowhere_miss, ended}
use Rattle.playout.specs.Playout.{below}
use Rattle.playout.proofs.below.Goals as goal
use Rattle.playout.proofs.below.Goals.{else-frames-n, then-frames-n}

pub loop-n-init : goal.loop-n-init
loop-n-init c = nowhere_none _

pub loop-n-preserved : goal.loop-n-preserved
loop-n-preserved c =
    let l = c.loop-n in
    elim c.if-frames-n.branch [ then-frames-n w ↦ w.all-is ∙ nowhere_hit _ l.n-index (le-leb _ _ w.if-frames-n.true) | else-frames-n w ↦ w.all-is ∙ nowhere_miss _ l.n-index _ l.invariant (lt-leb _ _ w.if-frames-n.false) ]

pub returns : goal.returns
unfolding below
returns c = ended (nowhere _) _ c.loop-n.invariant (omega arith)

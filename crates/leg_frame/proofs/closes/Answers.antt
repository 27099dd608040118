-- `leg_frame::closes` meets its contract.
use mathlib.Core.Path.{◌∙◌}
use borrow.Author.Tests.{eq-eqb, ne_eqb}
use Rattle.leg_frame.specs.LegFrame.{closes}
use Rattle.leg_frame.specs.Laws.{behind}
use Rattle.leg_frame.proofs.closes.Goals as goal

pub returns-then-n-eq0 : goal.returns-then-n-eq0
unfolding closes
returns-then-n-eq0 c =
    rw (← c.leading-n.ensures.0, eq-eqb c.leading-n.result 0 c.if-n-eq0.true)

pub returns : goal.returns
unfolding closes
returns c =
    let t = c.args.text.now in
    rw (← c.leading-n.ensures.0, ne_eqb c.leading-n.result 0 c.if-n-eq0.false) (c.same.ensures ∙ rw (behind t c.leading-n.result))

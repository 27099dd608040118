-- `leg_frame::form` meets its contract: each test picks its case of the definition.
use mathlib.Core.Path.{sym, ◌∙◌}
use Rattle.leg_frame.specs.LegFrame.{form}
use Rattle.leg_frame.proofs.form.Goals as goal

pub returns-then-starts : goal.returns-then-starts
unfolding form
returns-then-starts c = rw (sym c.starts.ensures ∙ c.if-starts.true)

pub returns-then-starts-2 : goal.returns-then-starts-2
unfolding form
returns-then-starts-2 c =
    rw (sym c.starts.ensures ∙ c.if-starts.false, sym c.starts-2.ensures ∙ c.if-starts-2.true)

pub returns-then-starts-3 : goal.returns-then-starts-3
unfolding form
returns-then-starts-3 c =
    rw (sym c.starts.ensures ∙ c.if-starts.false, sym c.starts-2.ensures ∙ c.if-starts-2.false, sym c.starts-3.ensures ∙ c.if-starts-3.true)

pub returns-then-starts-4 : goal.returns-then-starts-4
unfolding form
returns-then-starts-4 c =
    rw (
      sym c.starts.ensures ∙ c.if-starts.false,
      sym c.starts-2.ensures ∙ c.if-starts-2.false,
      sym c.starts-3.ensures ∙ c.if-starts-3.false,
      sym c.starts-4.ensures ∙ c.if-starts-4.true,
    )

pub returns : goal.returns
unfolding form
returns c =
    rw (
      sym c.starts.ensures ∙ c.if-starts.false,
      sym c.starts-2.ensures ∙ c.if-starts-2.false,
      sym c.starts-3.ensures ∙ c.if-starts-3.false,
      sym c.starts-4.ensures ∙ c.if-starts-4.false,
    )

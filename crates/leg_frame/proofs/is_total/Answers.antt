-- `leg_frame::is_total` meets its contract.
use mathlib.Core.Path.{sym, ◌∙◌}
use Rattle.leg_frame.specs.LegFrame.{is_total}
use Rattle.leg_frame.proofs.is_total.Goals as goal

pub returns-then-of_samples : goal.returns-then-of_samples
unfolding is_total
returns-then-of_samples c = rw (sym c.of_samples.ensures ∙ c.if-of_samples.true)

pub returns : goal.returns
unfolding is_total
returns c = rw (sym c.of_samples.ensures ∙ c.if-of_samples.false) c.of_frames.ensures

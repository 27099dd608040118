-- `leg_frame::of_samples` meets its contract: the parts that are put make up the total.
use mathlib.Core.Path.{◌∙◌}
use Rattle.text.specs.Laws.{then}
use Rattle.leg_frame.specs.LegFrame.{of_samples}
use Rattle.leg_frame.specs.Laws.{put_text}
use Rattle.leg_frame.proofs.of_samples.Goals as goal

pub returns : goal.returns
unfolding of_samples
returns c =
    c.same.ensures ∙ rw (put_text (then c.figure-a.ensures.1 c.put-b.ensures))

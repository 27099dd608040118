-- `leg_frame::of_frames` meets its contract: the parts that are put make up the opening of the total.
use borrow.Author.Tests.{ne_eqb}
use Rattle.text.specs.Laws.{then}
use Rattle.leg_frame.specs.LegFrame.{opening, of_frames}
use Rattle.leg_frame.specs.Laws.{no_frames, opening_fits, frames}
use Rattle.leg_frame.proofs.of_frames.Goals as goal

pub returns-then-n-ne0 : goal.returns-then-n-ne0
unfolding of_frames
returns-then-n-ne0 c = rw (ne_eqb _ 0 c.if-n-ne0.true)

pub returns-then-not-starts : goal.returns-then-not-starts
unfolding opening
returns-then-not-starts c =
    no_frames c.args.n c.args.text.now (then c.figure-a.ensures.1 c.put-b.ensures) c.starts.ensures c.if-n-ne0.false (c.if-not-starts.true)

pub slice_bounds-closes-count : goal.slice_bounds-closes-count
unfolding opening
slice_bounds-closes-count c =
    opening_fits c.args.n c.args.text.now (then c.figure-a.ensures.1 c.put-b.ensures) c.starts.ensures (c.if-not-starts.false)

pub slice_bounds-closes-start : goal.slice_bounds-closes-start
unfolding opening
slice_bounds-closes-start c =
    opening_fits c.args.n c.args.text.now (then c.figure-a.ensures.1 c.put-b.ensures) c.starts.ensures (c.if-not-starts.false)

pub returns : goal.returns
unfolding opening
returns c =
    frames c.args.n c.args.text.now (then c.figure-a.ensures.1 c.put-b.ensures) c.starts.ensures c.if-n-ne0.false (c.if-not-starts.false) c.closes.ensures

-- `leg_frame::is_figure` meets its contract.
use native.Mathlib.Omega.{arith}
use borrow.Author.Tests.{lt-ltb, le-ltb}
use Rattle.leg_frame.specs.LegFrame.{is_figure}
use Rattle.leg_frame.proofs.is_figure.Goals as goal

pub returns-then-b-lt48 : goal.returns-then-b-lt48
unfolding is_figure
returns-then-b-lt48 c = rw (lt-ltb _ 48 c.if-b-lt48.true)

pub returns : goal.returns
unfolding is_figure
returns c = let b = c.args.b in rw (le-ltb b 48 (omega arith))

-- `leg_frame::read_words` meets its contract.
use Rattle.leg_frame.specs.LegFrame.{taken, samples}
use Rattle.leg_frame.proofs.read_words.Goals as goal

pub returns : goal.returns
unfolding taken samples
returns c = (rw c.min.ensures, c.from_bytes.ensures)

-- `rtp::frame` meets its contract: what `find` and `part` hand back, together.
use Rattle.rtp.specs.Rtp.{frame}
use Rattle.rtp.proofs.frame.Goals as goal

pub returns : goal.returns
unfolding frame
returns c = rw (c.find-found.ensures, c.part-bytes.ensures.0, c.part-bytes.ensures.1)

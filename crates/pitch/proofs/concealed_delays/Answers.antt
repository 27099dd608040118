-- `pitch::concealed_delays` meets its contract: what `erased_lent` hands back and leaves, twice.
use Rattle.pitch.specs.Pitch.{concealed_delays}
use Rattle.pitch.proofs.concealed_delays.Goals as goal

pub returns : goal.returns
unfolding concealed_delays
returns c = rw (c.erased_lent-second.ensures.0, c.erased_lent-second.ensures.1, c.erased_lent-first.ensures.0, c.erased_lent-first.ensures.1)

-- `rtp::refused` meets its contract: kind 0 and an empty part.
use mathlib.Core.Path.{refl}
use Rattle.rtp.proofs.refused.Goals as goal

pub returns : goal.returns
returns c = refl

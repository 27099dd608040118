-- `pitch::voice_delays` meets its contract: the calls, one after the other. Assumes nothing.
use Prim.Native.Nat.{◌<◌}
use lib.Signed.{mag}
use mir.Syntax.{w16}
use Rattle.laws.specs.Back.{via}
use Rattle.pitch.specs.Pitch.{voice_delays}
use Rattle.std.proofs.Common.{rules}
use Rattle.pitch.proofs.voice_delays.Goals as goal
use Rattle.pitch.proofs.voice_delays.Goals.{After-first-t1}

known : (c : After-first-t1) → mag c.first-t1.result.delay.integer < 32768
known c = search rules

pub returns : goal.returns
unfolding voice_delays
returns c = cc (via w16 _ (known c.before.before.before.before.before))

-- `parameters::voice_codes` meets its contract: the calls, one after the other.
use Prim.Native.Nat.{◌<◌}
use lib.Signed.{mag}
use mir.Syntax.{w16}
use Rattle.laws.specs.Back.{via}
use mir.Facts.{to_z-of_z}
use Rattle.parameters.specs.Parameters.{voice_codes}
use Rattle.std.proofs.Common.{rules}
use Rattle.parameters.proofs.voice_codes.Goals as goal
use Rattle.parameters.proofs.voice_codes.Goals.{After-coded-first}

left : (c : After-coded-first) → mag c.coded-first.result.beta < 32768
left c = search rules

pub returns : goal.returns
unfolding voice_codes
returns c =
    rw (c.coded-second.ensures, c.decode-2.ensures, c.sharpened-code2.ensures, via w16 _ (left (goal.at.returns c).After-coded-first), c.coded-first.ensures, c.decode.ensures, c.sharpened-code1.ensures, to_z-of_z c.ranges.beta)

-- `parameters::coded` meets its contract: the calls, one after the other.
use mathlib.Core.Path.{◌∙◌}
use Prim.Native.Nat.{◌<◌}
use lib.Signed.{mag}
use mir.Syntax.{w16}
use Rattle.laws.specs.Back.{via}
use Rattle.parameters.specs.Parameters.{coded}
use Rattle.std.proofs.Common.{rules}
use Rattle.parameters.proofs.coded.Goals as goal
use Rattle.parameters.proofs.coded.Goals.{Start}

known : (c : Start) → mag c.args.gain.gp < 32768
known c = search rules

pub returns : goal.returns
unfolding coded
returns c = rw (via w16 c.sharpening-beta.result c.sharpening-beta.type_inv ∙ c.sharpening-beta.ensures, via w16 c.args.gain.gp (known (goal.at.returns c).Start))

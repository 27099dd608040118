-- `parameters::concealed_spectrum` meets its contract: the calls, one after the other.
use Prim.Native.Nat.{◌<◌}
use lib.Signed.{mag}
use mir.Syntax.{w16}
use Rattle.laws.specs.Back.{via}
use Rattle.parameters.specs.Parameters.{concealed_spectrum}
use Rattle.std.proofs.Common.{rules}
use Rattle.parameters.proofs.concealed_spectrum.Goals as goal
use Rattle.parameters.proofs.concealed_spectrum.Goals.{Start}

known : (c : Start) → mag c.args.p.predictor < 32768
known c = search rules

pub returns : goal.returns
unfolding concealed_spectrum
returns c =
    cc (via w16 c.args.p.predictor (known (goal.at.returns c).Start))

-- `parameters::conceal` meets its contract: the calls, one after the other.
use Prim.Native.Nat.{◌<◌}
use lib.Signed.{mag}
use mir.Syntax.{w16}
use Rattle.laws.specs.Back.{via}
use Rattle.parameters.specs.Parameters.{conceal}
use Rattle.std.proofs.Common.{rules}
use Rattle.parameters.proofs.conceal.Goals as goal
use Rattle.parameters.proofs.conceal.Goals.{After-draw-w, Start}

known : (c : Start) → (mag c.args.p.seed < 32768) × ((mag c.args.p.beta < 32768) × (mag c.args.p.predictor < 32768))
known c = search rules

drawn : (c : After-draw-w) → mag c.draw-w.result.second.seed < 32768
drawn c = search rules

pub returns : goal.returns
unfolding conceal
returns c =
    let k = known (goal.at.returns c).Start in
    rw (c.to_decoded.ensures, c.concealed_codes-c.ensures, c.concealed_delays-d.ensures, c.concealed_spectrum-s.ensures, via w16 c.draw-w.result.second.seed (drawn (goal.at.returns c).After-draw-w), c.draw-w.ensures, via w16 c.args.p.seed k.0, via w16 c.args.p.beta k.1.0, via w16 c.args.p.predictor k.1.1)

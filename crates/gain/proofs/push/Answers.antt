-- `gain::push` meets its contract. Assumes nothing.
use mir.Syntax.{w16}
use mir.Facts.{to_z-of_z}
use Rattle.laws.specs.Lists.{at}
use Rattle.laws.specs.Back.{via}
use Rattle.gain.specs.Gain.{push}
use Rattle.gain.proofs.push.Goals as goal

pub returns : goal.returns
unfolding push
returns c =
    let m = c.args.mem in
    rw (to_z-of_z c.ranges.u, via w16 (at m 0) c.result-1.given, via w16 (at m 1) c.result-2-1.given, via w16 (at m 2) c.result-3-1.given)

-- `delay_line::thirds` meets its contract.
use Prim.Native.Nat.{◌<◌}
use lib.Signed.{mag}
use mir.Syntax.{w16, w32}
use Rattle.laws.specs.Back.{via}
use Rattle.delay_line.specs.DelayLine.{thirds}
use Rattle.std.proofs.Common.{rules}
use Rattle.delay_line.proofs.thirds.Goals as goal
use Rattle.delay_line.proofs.thirds.Goals.{After-three}

integer : (c : After-three) → mag c.args.d.integer < 32768
integer c = search rules

fraction : (c : After-three) → mag c.args.d.fraction < 32768
fraction c = search rules

pub returns : goal.returns
unfolding thirds
returns c =
    rw (c.not_below.ensures, via w32 c.three.result c.three.type_inv, c.three.ensures, via w16 _ (integer (goal.at.returns c).After-three), via w16 _ (fraction (goal.at.returns c).After-three))

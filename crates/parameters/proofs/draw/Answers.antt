-- `parameters::draw` meets its contract: the calls, one after the other.
use Prim.Native.Nat.{◌<◌}
use lib.Signed.{mag}
use mir.Syntax.{w16}
use Rattle.laws.specs.Back.{via}
use mir.Facts.{to_z-of_z}
use Rattle.parameters.specs.Parameters.{draw}
use Rattle.std.proofs.Common.{rules}
use Rattle.parameters.proofs.draw.Goals as goal
use Rattle.parameters.proofs.draw.Goals.{After-random_index-first}

known : (c : After-random_index-first) → mag c.random_index-first.result.seed < 32768
known c = search rules

pub returns : goal.returns
unfolding draw
returns c = rw (c.random_index-second.ensures, via w16 _ (known (goal.at.returns c).After-random_index-first), c.random_index-first.ensures, to_z-of_z c.ranges.seed)

-- `pitch::nat` meets its contract. Assumes nothing.
use Rattle.std.proofs.Common.{◌∙◌, to_z-of_z}
use Rattle.std.specs.Int.{w16}
use Rattle.laws.specs.Back.{via}
use Rattle.pitch.specs.Laws.{nat_max}
use Rattle.pitch.proofs.nat.Goals as goal

pub returns : goal.returns
returns c = c.cast_unsigned.ensures ∙ rw (via w16 c.max.result c.max.type_inv, c.max.ensures.value, to_z-of_z c.ranges.z) (nat_max c.args.z)

-- `basic_op::sat16` meets its contract. Assumes nothing.
use Rattle.std.proofs.Common.{◌≡◌, ◌∙◌, to_z-of_z}
use Rattle.std.specs.Int.{w16, w32}
use Rattle.laws.specs.Back.{via}
use Rattle.basic_op.specs.Ops.{sat}
use Rattle.basic_op.specs.Laws.{clamp_is, fits_sat}
use Rattle.basic_op.proofs.sat16.Goals as goal

pub returns : goal.returns
returns c =
    let e : c.clamp.result ≡ sat 32767 c.args.x = c.clamp.ensures.value ∙ rw (to_z-of_z c.ranges.x) (clamp_is 32767 c.args.x) in
    rw (via w32 c.clamp.result c.clamp.type_inv, e) (to_z-of_z (fits_sat w16 32767 c.args.x tt))

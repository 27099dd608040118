-- `pitch::PitchState::increased` meets its contract. Assumes nothing.
use Rattle.std.proofs.Common.{rules, SFits, ◌+ℤ◌, pos, to_z-of_z}
use Rattle.std.specs.Int.{w16}
use Rattle.laws.specs.Back.{via}
use Rattle.pitch.specs.Pitch.{increased}
use Rattle.pitch.specs.Laws.{increased_is}
use Rattle.pitch.proofs.PitchState.increased.Goals as goal

pub returns : goal.returns
unfolding increased
returns c =
    let f : SFits w16 c.args.self.old = search rules in
    let g : SFits w16 (c.min.result +ℤ pos 1) = search rules in
    rw (via w16 c.min.result c.min.type_inv, to_z-of_z g, c.min.ensures.value, to_z-of_z f, ← increased_is c.args.self.old)

-- `job::parts::position` meets its contract.
use Rattle.std.proofs.Common.{pos, ap, ◌∙◌, arith, w64}
use mir.ValLaws.{to_z_pos}
use Rattle.job.specs.Part.{position}
use Rattle.job.proofs.parts.position.Goals as goal

pub returns : goal.returns
unfolding position
returns c = to_z_pos w64 c.min.result (omega arith) ∙ ap pos c.min.ensures

-- `pcm_line::sample` meets its contract: the sum of the four values is read as it stands.
use mathlib.Core.Path.{◌∙◌, ap}
use native.Mathlib.Omega.{arith}
use mir.Syntax.{w16, w32}
use mir.ValLaws.{to_z_pos}
use Rattle.basic_op.specs.Ops.{extract_l}
use Rattle.laws.specs.Back.{via}
use Rattle.pcm_line.specs.PcmLine.{sample}
use Rattle.pcm_line.proofs.sample.Goals as goal

pub returns : goal.returns
unfolding sample
returns c =
    rw (← c.value-a.ensures.0, ← c.value-b.ensures.0, ← c.value-c.ensures.0, ← c.value-d.ensures.0)
    (via w16 c.extract_l.result c.extract_l.type_inv ∙ c.extract_l.ensures ∙ ap extract_l (to_z_pos w32 _ (omega arith)))

-- `words::word` meets its contract: the sum of the two bytes is read as a signed number.
use mathlib.Core.Path.{◌∙◌, ap}
use mir.Syntax.{w16}
use mir.Val.{to_z}
use native.Mathlib.Omega.{arith}
use Rattle.basic_op.specs.Ops.{low16, extract_l}
use Rattle.laws.specs.Back.{via}
use Rattle.words.specs.Words.{word}
use Rattle.words.proofs.word.Goals as goal

pub returns : goal.returns
unfolding word extract_l low16
returns c = via w16 c.from_le_bytes.result c.from_le_bytes.type_inv ∙ c.from_le_bytes.ensures ∙ ap (to_z w16) (omega arith)

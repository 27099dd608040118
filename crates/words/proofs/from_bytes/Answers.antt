-- The answers of `words::from_bytes`.
use mathlib.Core.Path.{◌∙◌}
use native.Mathlib.Omega.{arith}
use mir.Syntax.{w16}
use Rattle.laws.specs.Back.{via}
use Rattle.laws.specs.Lists.{filled_none, fill}
use Rattle.words.specs.Laws.{word_here, from_end}
use Rattle.words.proofs.from_bytes.Goals as goal

pub loop-i-init : goal.loop-i-init
loop-i-init c = filled_none _ _

pub loop-i-preserved : goal.loop-i-preserved
loop-i-preserved c =
    fill _ _ _ _ _ (omega arith) c.loop-i.invariant (via w16 c.word.result c.word.type_inv ∙ word_here _ _ _ (omega arith) c.word.ensures)

pub returns : goal.returns
returns c = from_end _ _ _ _ c.loop-i.invariant (omega arith)

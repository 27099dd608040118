-- The answers of `replay::tally::Tally::tail`.
use mathlib.Core.Path.{refl, ◌∙◌}
use native.Mathlib.Omega.{arith}
use mir.Syntax.{w16}
use Rattle.laws.specs.Back.{via}
use Rattle.replay.specs.Laws.{first_none, first_turn, first_end}
use Rattle.std.proofs.Common.{rules}
use Rattle.replay.proofs.tally.Tally.tail.Goals as goal

pub loop-n-init : goal.loop-n-init
loop-n-init c = (search rules, first_none _ _ _ _ _ _ _ refl)

pub loop-n-preserved : goal.loop-n-preserved
loop-n-preserved c = (
  omega arith,
  first_turn _ _ _ _ _ _ _ _ _ _ _ (search rules) c.loop-n.invariant.1 (via w16 c.word.result c.word.type_inv ∙ c.word.ensures) (via w16 _ (search rules)) c.word-in-loop-n.ensures,
)

pub returns : goal.returns
returns c = first_end _ _ _ _ _ _ _ _ c.loop-n.invariant.1 (omega arith)

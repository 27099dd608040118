-- The answers of `replay::hex::words`.
use mathlib.Core.Path.{refl, ◌∙◌}
use native.Mathlib.Omega.{arith}
use lib.ListN.{length-set}
use mir.Syntax.{w16}
use Rattle.laws.specs.Back.{via}
use Rattle.laws.specs.Lists.{filled_none, filled_end, fill}
use Rattle.std.proofs.Common.{rules}
use Rattle.replay.proofs.hex.words.Goals as goal

pub loop-n-preserved : goal.loop-n-preserved
loop-n-preserved c =
    (search rules, simp length-set c.loop-n.invariant.1, fill _ _ _ _ _ (search rules) c.loop-n.invariant.2 (via w16 c.word_at.result c.word_at.type_inv ∙ c.word_at.ensures))

pub returns : goal.returns
returns c = filled_end _ _ _ _ _ c.loop-n.invariant.2 (omega arith) refl

pub loop-n-init : goal.loop-n-init
loop-n-init c = (search rules, refl, filled_none _ _)

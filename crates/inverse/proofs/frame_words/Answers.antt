-- The answers of `inverse::frame_words`.
use Prim.Native.Nat.{◌-◌}
use mathlib.Core.Path.{refl, sym, ◌∙◌}
use native.Mathlib.Omega.{arith}
use mir.Syntax.{w16}
use Rattle.laws.specs.Lists.{filled_none, fill, filled_end}
use Rattle.laws.specs.Back.{via}
use Rattle.inverse.proofs.Parts.{first_word, second_word, all_words}
use Rattle.std.proofs.Common.{rules}
use Rattle.inverse.proofs.frame_words.Goals as goal
use Rattle.inverse.proofs.frame_words.Goals.{else-k-lt40, then-k-lt40}

pub loop-k-preserved : goal.loop-k-preserved
loop-k-preserved c = (
  search rules,
  fill _ _ _ _ _ (search rules) c.loop-k.invariant.1
      (elim c.if-k-lt40.branch [
        | then-k-lt40 v ↦ v.w-is ∙ via w16 v.inverse.result v.inverse.type_inv ∙ v.inverse.ensures ∙ sym (first_word _ _ _ _ (omega arith))
        | else-k-lt40 v ↦ v.w-is ∙ via w16 v.inverse-else-k-lt40.result v.inverse-else-k-lt40.type_inv ∙ v.inverse-else-k-lt40.ensures ∙ sym (second_word _ _ _ _ (omega arith))
      ]),
)

pub returns : goal.returns
returns c = filled_end _ _ 80 _ _ c.loop-k.invariant.1 (omega arith) refl ∙ all_words _ _ _

pub loop-k-init : goal.loop-k-init
loop-k-init c = (search rules, filled_none _ _)

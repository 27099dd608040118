-- The answers of `lsp::cosines`.
use mathlib.Core.Path.{refl, ◌∙◌}
use mir.Syntax.{w16}
use mir.Facts.{to_z-of_z}
use Rattle.laws.specs.Lists.{at, filled_none, fill, filled_end}
use Rattle.laws.specs.Back.{via, via1}
use Rattle.lsp.specs.Lsp.{cosine, lsf_to_lsp}
use native.Mathlib.Omega.{arith}
use Rattle.std.proofs.Common.{rules}
use Rattle.lsp.proofs.cosines.Goals as goal

pub loop-i-preserved : goal.loop-i-preserved
loop-i-preserved c = (
  search rules,
  fill _ _ _ _ _ (search rules) c.loop-i.invariant.1
      (via1 w16 w16 cosine c.mult.result c.cosine.result c.mult.type_inv c.cosine.type_inv c.cosine.ensures
      ∙ rw (c.mult.ensures, via w16 (at c.args.lsf c.loop-i.i) c.mult-arg-1.given)),
)

pub returns : goal.returns
unfolding lsf_to_lsp
returns c = filled_end _ _ 10 _ _ c.loop-i.invariant.1 (omega arith) refl ∙ rw (to_z-of_z c.ranges.scale)

pub loop-i-init : goal.loop-i-init
loop-i-init c = (search rules, filled_none _ _)

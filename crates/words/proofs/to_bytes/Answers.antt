-- The answers of `words::to_bytes`.
use mathlib.Core.Path.{◌∙◌}
use native.Mathlib.Omega.{arith}
use mir.Syntax.{w16}
use Rattle.laws.specs.Back.{via}
use Rattle.words.specs.Laws.{put_none, put_more, to_end}
use Rattle.words.proofs.to_bytes.Goals as goal

pub loop-i-init : goal.loop-i-init
loop-i-init c = put_none _ _

pub loop-i-preserved : goal.loop-i-preserved
loop-i-preserved c =
    put_more c.args.words.now c.args.out.now c.loop-i.out _ c.loop-i.i _ (omega arith) (omega arith) (omega arith) c.loop-i.invariant (c.copy_from_slice.ensures.after ∙ c.pair.ensures ∙ rw (via w16 _ c.pair-arg-1.given))

pub returns : goal.returns
returns c = to_end _ _ _ _ c.loop-i.invariant (omega arith)

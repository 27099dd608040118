-- The answers of `pcm_line::digits`.
use mathlib.Core.Path.{◌≡◌, ◌∙◌}
use native.Mathlib.Omega.{arith}
use mir.Syntax.{w16}
use Rattle.laws.specs.Back.{via}
use Rattle.laws.specs.Lists.{filled, filled_none, fill}
use Rattle.pcm_line.specs.PcmLine.{digits}
use Rattle.pcm_line.proofs.digits.Goals as goal

pub loop-i-init : goal.loop-i-init
loop-i-init c = filled_none _ _

pub loop-i-preserved : goal.loop-i-preserved
loop-i-preserved c = fill _ _ _ _ _ (omega arith) c.loop-i.invariant (via w16 c.sample.result c.sample.type_inv ∙ c.sample.ensures)

pub returns : goal.returns
unfolding digits filled
returns c =
    let h : c.loop-i.i ≡ c.args.n = omega arith in
    rw h at c.loop-i.invariant

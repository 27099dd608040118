-- The answers of `synth::divide_by_4`.
use Rattle.std.proofs.Common.{rules, arith, ap, ◌∙◌, ◌^◌, ◌<◌, ℤ}
use Rattle.std.specs.Int.Signed.{shr_z, mag}
use Rattle.std.specs.Int.{w16}
use Rattle.laws.specs.Lists.{at, filled_none, fill, filled_next, filled_map}
use Rattle.laws.specs.Back.{via1}
use Rattle.synth.specs.Synth.{divide_by_4}
use Rattle.synth.proofs.divide_by_4.Goals as goal

pub loop-x-preserved : goal.loop-x-preserved
loop-x-preserved c =
    let l = c.loop-x in
    let f : mag (at l.exc l.x-index) < 2 ^ 15 = search rules in
    let r = via1 w16 w16 (λ x. shr_z x (2 ^ 2)) (at l.exc l.x-index) c.sar16.result f c.sar16.type_inv c.sar16.ensures in
    fill _ _ _ _ _ c.loop-x-test.true l.invariant (r ∙ ap (λ (z : ℤ). shr_z z (2 ^ 2)) (filled_next _ _ _ _ l.invariant))

pub returns : goal.returns
unfolding divide_by_4
returns c = filled_map (λ x. shr_z x (2 ^ 2)) c.args.exc.now c.loop-x.x-index _ c.loop-x.invariant (omega arith)

pub loop-x-init : goal.loop-x-init
loop-x-init c = filled_none _ _

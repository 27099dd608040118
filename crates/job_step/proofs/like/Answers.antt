-- The answers of `job_step::like`.
use Rattle.std.proofs.Common.{refl, sym, ◌∙◌, arith}
use Rattle.job_step.specs.Laws.{like_not, like_more, like_end}
use Rattle.job_step.proofs.like.Goals as goal

pub loop-i-init : goal.loop-i-init
loop-i-init c = refl

pub returns-then-not-fits : goal.returns-then-not-fits
returns-then-not-fits c =
    let s = c.args in
    like_not s.text.now s.form.now c.loop-i.i (omega (arith, c.min-i-end.ensures)) (omega (arith, c.min-i-end.ensures)) c.loop-i.invariant (sym c.fits.ensures ∙ c.if-not-fits.true)

pub loop-i-preserved : goal.loop-i-preserved
loop-i-preserved c =
    let s = c.args in
    like_more s.text.now s.form.now c.loop-i.i (omega (arith, c.min-i-end.ensures)) (omega (arith, c.min-i-end.ensures)) c.loop-i.invariant (sym c.fits.ensures ∙ c.if-not-fits.false)

pub returns : goal.returns
returns c =
    let s = c.args in
    like_end s.text.now s.form.now c.loop-i.i c.min-i-end.result (omega arith) c.min-i-end.ensures c.loop-i.invariant

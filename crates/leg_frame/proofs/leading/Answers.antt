-- The answers of `leg_frame::leading`.
use Rattle.std.proofs.Common.{sym, ◌∙◌, arith}
use Rattle.leg_frame.specs.Laws.{leading_stops, leading_goes, leading_ends}
use Rattle.leg_frame.proofs.leading.Goals as goal

pub returns-then-not-is_figure : goal.returns-then-not-is_figure
returns-then-not-is_figure c =
    let t = c.args.text.now in
    (omega (arith, leading_stops t c.loop-i.i (omega arith) (sym c.is_figure.ensures ∙ c.if-not-is_figure.true)), omega arith)

pub loop-i-preserved : goal.loop-i-preserved
loop-i-preserved c =
    let t = c.args.text.now in
    omega (arith, leading_goes t c.loop-i.i (omega arith) (sym c.is_figure.ensures ∙ c.if-not-is_figure.false))

pub returns : goal.returns
returns c =
    let t = c.args.text.now in
    (omega (arith, leading_ends t c.loop-i.i (omega arith)), omega arith)

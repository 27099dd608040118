-- `arrival_line::read` meets its contract: a number in front of the first separator, and a number behind it.
use mathlib.Core.Path.{refl, sym, ◌∙◌}
use Rattle.arrival_line.specs.ArrivalLine.{both}
use Rattle.arrival_line.specs.Laws.{read_short, read_both, front_is}
use Rattle.arrival_line.proofs.read.Goals as goal

pub returns-in_err-n : goal.returns-in_err-n
returns-in_err-n c = c.from_residual.ensures ∙ read_short _ (sym c.in_err-n.ensures)

pub returns-in_err-frame : goal.returns-in_err-frame
unfolding both
returns-in_err-frame c =
    c.from_residual-in_err-frame.ensures ∙ read_both _ _ (front_is _ _ (sym c.in_ok-n.ensures)).0 c.in_err-frame.ensures refl

pub returns-in_err-time : goal.returns-in_err-time
unfolding both
returns-in_err-time c =
    c.from_residual-in_err-time.ensures ∙ read_both _ _ (front_is _ _ (sym c.in_ok-n.ensures)).0 c.in_ok-frame.ensures c.in_err-time.ensures

pub returns : goal.returns
unfolding both
returns c = read_both _ _ (front_is _ _ (sym c.in_ok-n.ensures)).0 c.in_ok-frame.ensures c.in_ok-time.ensures

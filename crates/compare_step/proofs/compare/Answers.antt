-- `compare_step::compare` meets its contract: a frame that is not refused.
use mathlib.Core.Path.{sym, ap, ◌∙◌}
use Rattle.plc.specs.declared.Decision.{Decision}
use Rattle.compare_step.specs.Laws.{lengths}
use Rattle.compare_step.specs.Compare.{compare, stepped}
use Rattle.compare_step.proofs.compare.Goals as goal

pub stepped-requires : goal.stepped-requires
stepped-requires c =
    let g = c.args in
    let all = lengths g.t.now g.m.now g.kind g.payload.now _ _ (sym c.in_ok-check.ensures) in
    record { m_len = all.0; y_len = all.1.0; out_len = all.1.1 }

pub returns : goal.returns
unfolding compare
returns c =
    let g = c.args in
    rw (← c.in_ok-check.ensures) (c.stepped.ensures ∙ ap (λ (d : Decision). stepped g.t.now g.m.now d g.y.now g.out.now) c.decide.ensures)

-- `read_step::step` meets its contract: a turn on the front of the input, whose rest is moved to the front.
use Rattle.line_step.specs.Step.{kept}
use Rattle.read_step.specs.Laws.{step_is}
use Rattle.read_step.proofs.step.Goals as goal

pub returns : goal.returns
returns c =
    let s = c.args in
    record { out_after = step_is s.t.now (kept s.b.now s.from) _ s.input.now s.out.now c.end-to.ensures c.turn-taken.ensures.out_after c.keep-held.ensures.1.0 c.keep-held.ensures.1.1; held_in_bounds = (c.keep-held.ensures.0, c.turn-taken.ensures.used_in_bounds.1) }

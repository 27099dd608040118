-- `call::turn` meets its contract: the lines, and the test of what is behind them.
use Rattle.line_step.specs.Step.{kept}
use Rattle.call.specs.Laws.{turn_is}
use Rattle.call.proofs.turn.Goals as goal

pub returns : goal.returns
returns c =
    let s = c.args in
    let e = c.lines-taken.ensures in
    record { out_after = turn_is s.t.now (kept s.b.now s.from) s.most s.held.now s.out.now e.used_in_bounds.0 e.out_after c.overlong.ensures; used_in_bounds = e.used_in_bounds }

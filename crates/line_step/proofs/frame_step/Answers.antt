-- `line_step::frame_step` meets its contract, by Count's two answers.
use native.Mathlib.Omega.{arith}
use Rattle.std.proofs.Common.{ap}
use Rattle.refusal.specs.Refusal.{numbered}
use Rattle.line_step.specs.Step.{kept}
use Rattle.line_step.specs.Laws.{stop_given, not_counted, is_counted}
use Rattle.line_step.proofs.frame_step.Goals as goal

pub returns-in-Err : goal.returns-in-Err
returns-in-Err c =
    let s = c.args in
    record {
      out_after = rw (not_counted s.t.now (kept s.b.now s.from) s.kind s.payload.now (rw c.frame_rules.ensures at c.count.ensures) (ap numbered c.in-Err.is))
          (stop_given s.b.now s.from _ s.out.now (rw c.number.ensures at c.stopped.ensures.0) c.stopped.ensures.1);
      written_le_frame_room = omega (arith, c.stopped.ensures.1);
    }

pub returns-in-Ok : goal.returns-in-Ok
returns-in-Ok c =
    let s = c.args in
    record { out_after = rw (is_counted s.t.now (kept s.b.now s.from) s.kind s.payload.now (rw c.frame_rules.ensures at c.count.ensures) (ap numbered c.in-Ok.is)) c.counted_step.ensures.out_after; written_le_frame_room = c.counted_step.ensures.written_le_frame_room }

-- `delay_step::delay_step` meets its contract, by Line's two answers.
use Rattle.std.proofs.Common.{ap, arith, length-take}
use Rattle.refusal.specs.Refusal.{numbered}
use Rattle.kind.specs.Laws.{payload_few}
use Rattle.delay_step.specs.Step.{kept}
use Rattle.delay_step.specs.Laws.{stop_given, not_line, is_line}
use Rattle.delay_step.proofs.delay_step.Goals as goal

pub returns-in-Err : goal.returns-in-Err
returns-in-Err c =
    let s = c.args in
    record {
      out_after = rw (not_line (kept s.carried.now s.from) s.text.now (ap numbered c.in-Err.is) c.line.ensures)
          (stop_given s.carried.now s.from _ s.out.now (rw c.number.ensures at c.stopped.ensures.0) c.stopped.ensures.1);
      written_bound = omega (arith, c.stopped.ensures.1);
    }

pub slice_bounds-payload-end : goal.slice_bounds-payload-end
slice_bounds-payload-end c =
    omega (arith, c.payload_length-n.ensures, payload_few c.in-Ok.kind, c.line.auto.payload)

pub slice_bounds-frame_step-end : goal.slice_bounds-frame_step-end
slice_bounds-frame_step-end c =
    rw length-take (omega (arith, c.payload_length-n.ensures, payload_few c.in-Ok.kind, c.line.auto.payload))

pub returns-in-Ok : goal.returns-in-Ok
returns-in-Ok c =
    let s = c.args in
    record { out_after = rw (is_line (kept s.carried.now s.from) s.text.now (ap numbered c.in-Ok.is) c.line.ensures c.payload_length-n.ensures) c.frame_step.ensures.out_after; written_bound = c.frame_step.ensures.written_bound }

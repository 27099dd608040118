-- `delay_step::counted_step` meets its contract, by the scan's two answers.
use native.Mathlib.Omega.{arith}
use Rattle.std.proofs.Common.{ap}
use Rattle.refusal.specs.Refusal.{numbered}
use Rattle.delay_step.specs.Laws.{not_scanned, is_scanned}
use Rattle.delay_step.proofs.counted_step.Goals as goal

pub returns-in-Err : goal.returns-in-Err
returns-in-Err c =
    let s = c.args in
    record { out_after = not_scanned s.carried.now s.from s.next s.kind s.payload.now c.frame_delays.ensures s.out.now (ap numbered c.in-Err.is) (rw c.number.ensures at c.stopped.ensures.0) c.stopped.ensures.1; written_bound = omega (arith, c.stopped.ensures.1) }

pub returns-in-Ok : goal.returns-in-Ok
returns-in-Ok c =
    let s = c.args in
    let e = c.done.ensures in
    record { out_after = is_scanned s.carried.now s.from s.next s.kind s.payload.now c.frame_delays.ensures s.out.now (ap numbered c.in-Ok.is) e.0 e.1.1.0 e.1.1.1; written_bound = e.1.0 }

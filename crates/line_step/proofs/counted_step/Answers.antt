-- `line_step::counted_step` meets its contract, by Frame's two answers.
use native.Mathlib.Omega.{arith}
use Rattle.std.proofs.Common.{refl}
use Rattle.std.proofs.lemmas.Bool.{eqb-false}
use Rattle.refusal.specs.Refusal.{number}
use Rattle.refusal.specs.Laws.{nonzero}
use Rattle.line_step.specs.Laws.{step_refused, step_done}
use Rattle.line_step.proofs.counted_step.Goals as goal

pub returns-in-Err : goal.returns-in-Err
returns-in-Err c =
    let s = c.args in
    record {
      out_after = step_refused s.t.now s.b.now s.from s.next s.kind s.payload.now c.frame.ensures {code = number c.in-Err.r} (rw c.in-Err.is) s.out.now (eqb-false (number c.in-Err.r) 0 (nonzero c.in-Err.r))
          (rw c.number.ensures at c.stopped.ensures.0) c.stopped.ensures.1;
      written_le_frame_room = omega (arith, c.stopped.ensures.1);
    }

pub returns-in-Ok : goal.returns-in-Ok
returns-in-Ok c =
    let s = c.args in
    let p = c.pcm-written.ensures in
    record {
      out_after = step_done s.t.now s.b.now s.from s.next s.kind s.payload.now c.frame.ensures {code = 0} (rw c.in-Ok.is) s.out.now refl
          (rw c.one_more.ensures) p.1.0 p.1.1;
      written_le_frame_room = p.0;
    }

-- The answers of `line::read_payload`.
use Rattle.std.proofs.Common.{arith}
use Rattle.line.specs.Laws.{put_none, put_more}
use Rattle.line.proofs.read_payload.Goals as goal

pub loop-i-init : goal.loop-i-init
loop-i-init c = put_none _ _

pub loop-i-preserved : goal.loop-i-preserved
loop-i-preserved c =
    let s = c.args in
    put_more s.digits.now s.payload.now c.loop-i.payload c.loop-i.i _ (omega arith) c.loop-i.invariant (rw (c.value.ensures.0, c.value-in-loop-i.ensures.0))

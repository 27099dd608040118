-- `compare_turn::take` meets its contract: a line's end stands before that of the call.
use native.Mathlib.Omega.{arith}
use Rattle.compare_turn.proofs.take.Goals as goal

pub overflow_add-result : goal.overflow_add-result
overflow_add-result c =
    omega (arith, c.find-end.ensures.before, c.if-end-call.false)

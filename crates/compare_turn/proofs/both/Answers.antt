-- `compare_turn::both` meets its contract: no sum wraps.
use native.Mathlib.Omega.{arith}
use Rattle.compare_turn.proofs.both.Goals as goal

pub overflow_add-result-3 : goal.overflow_add-result-3
overflow_add-result-3 c = omega (arith, c.requires.1.1.0)

pub overflow_add-result-4 : goal.overflow_add-result-4
overflow_add-result-4 c = omega (arith, c.requires.1.1.1)

-- `inverse::shrunk_before` meets its contract: the front is divided, the rest stays.
use mathlib.Core.Path.{sym, ◌∙◌}
use lib.ListN.{length-take, take-append-drop}
use native.Mathlib.Omega.{arith}
use Rattle.inverse.specs.Inverse.{shrunk_before, shrunk}
use Rattle.inverse.proofs.shrunk_before.Goals as goal

pub slice_bounds-divide_by_4-end-then-b : goal.slice_bounds-divide_by_4-end-then-b
slice_bounds-divide_by_4-end-then-b c = sym (length-take c.args.n c.args.w.now ∙ omega arith)

pub returns-then-b : goal.returns-then-b
unfolding shrunk_before shrunk
returns-then-b c = rw (c.if-b.true, c.divide_by_4.ensures)

pub returns-else-b : goal.returns-else-b
unfolding shrunk_before shrunk
returns-else-b c = rw c.if-b.false (sym (take-append-drop c.args.n c.args.w.now))

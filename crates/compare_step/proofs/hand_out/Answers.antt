-- `compare_step::hand_out` meets its contract.
use mathlib.Core.Path.{◌≡◌, sym, ap, ◌∙◌}
use borrow.Author.Tests.{eq-eqb}
use Rattle.block.specs.Block.{copy}
use lib.ListN.{length}
use Rattle.compare_step.specs.Slots.{computed}
use Rattle.std.proofs.Common.{rules}
use Rattle.compare_step.proofs.hand_out.Goals as goal
use Rattle.compare_step.proofs.hand_out.Goals.{After-z-1}

size : (c : After-z-1) → length c.computed-z.result ≡ 80
size c = search rules

pub returns-then-known : goal.returns-then-known
unfolding copy
returns-then-known c h =
    rw (← c.known.ensures, c.if-known.true)
    (c.copy.ensures ∙ rw (eq-eqb _ _ (h ∙ sym (size (goal.at.returns-then-known c).After-z-1))) (c.computed-z.ensures ∙ ap (computed c.args.s.now) c.best.ensures.value))

pub returns-else-known : goal.returns-else-known
returns-else-known c h = rw (← c.known.ensures, c.if-known.false)

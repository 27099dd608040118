-- `playout::check` meets its contract: each test picks its case.
use mathlib.Core.Path.{sym, ◌∙◌}
use mathlib.Core.Bool.{Bool, ◌&&◌}
use mathlib.Core.List.{List}
use Prim.Native.Nat.{ℕ}
use lib.Dec.{eqb, leb}
use lib.ListN.{length}
use Rattle.playout.specs.Playout.{refusal}
use Rattle.playout.proofs.check.Goals as goal

abbrev few : ℕ → List ℕ → Bool
few frames numbers = leb frames 4096 && leb (length numbers) 4096

abbrev equal : ℕ → List ℕ → ℕ → ℕ → Bool
equal frames numbers times room = eqb times (length numbers) && eqb room frames

pub returns-then-not-few : goal.returns-then-not-few
unfolding refusal
returns-then-not-few c = rw (c.if-not-few.true)

pub returns-then-not-numbered : goal.returns-then-not-numbered
unfolding refusal
returns-then-not-numbered c =
    rw (c.if-not-few.false, sym c.below-numbered.ensures ∙ c.if-not-numbered.true)

pub returns-then-not-equal : goal.returns-then-not-equal
unfolding refusal
returns-then-not-equal c =
    rw (c.if-not-few.false, sym c.below-numbered.ensures ∙ c.if-not-numbered.false, c.if-not-equal.true)

pub returns : goal.returns
unfolding refusal
returns c =
    rw (c.if-not-few.false, sym c.below-numbered.ensures ∙ c.if-not-numbered.false, c.if-not-equal.false)

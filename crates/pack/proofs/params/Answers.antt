-- `pack::params` meets its contract: each field of the struct is the one at its place.
use mathlib.Core.Path.{ap, ◌∙◌}
use mathlib.Core.List.{[], ◌∷◌}
use Prim.Native.Nat.{ℕ, ◌+◌}
use native.Mathlib.Omega.{arith}
use lib.ListN.{get_or}
use Rattle.pack.specs.Laws.{cells}
use Rattle.pack.proofs.params.Goals as goal

pub returns : goal.returns
unfolding cells
returns c =
    let s = c.args in
    let at : ℕ → ℕ = λ k. get_or s.fields.now k 0 in
    λ i.
    c.field.ensures i
    ∷ c.field-2.ensures i
    ∷ c.field-3.ensures i
    ∷ c.field-4.ensures i
    ∷ c.field-5.ensures i
    ∷ s.p0
    ∷ c.field-6.ensures i
    ∷ c.field-7.ensures i
    ∷ (c.field-8.ensures ∙ ap at {y = s.behind + 1 + 1} (omega arith)) i
    ∷ (c.field-9.ensures ∙ ap at {y = s.behind + 1 + 1 + 1} (omega arith)) i
    ∷ (c.field-10.ensures ∙ ap at {y = s.behind + 1 + 1 + 1 + 1} (omega arith)) i
    ∷ (c.field-11.ensures ∙ ap at {y = s.behind + 1 + 1 + 1 + 1 + 1} (omega arith)) i
    ∷ (c.field-12.ensures ∙ ap at {y = s.behind + 1 + 1 + 1 + 1 + 1 + 1} (omega arith)) i
    ∷ (c.field-13.ensures ∙ ap at {y = s.behind + 1 + 1 + 1 + 1 + 1 + 1 + 1} (omega arith)) i
    ∷ (c.field-14.ensures ∙ ap at {y = s.behind + 1 + 1 + 1 + 1 + 1 + 1 + 1 + 1} (omega arith)) i
    ∷ []

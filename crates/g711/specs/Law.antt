-- The laws by name, and their numbers in the calls.
use Rattle.std.specs.Prelude.{◌≡◌, refl, true, false, ℕ, Result, MatchResult}
use Rattle.std.proofs.Common.{ne_eqb}
use Rattle.refusal.specs.declared.Refusal.{Refusal}
use Rattle.refusal.specs.declared.Refusal.TheVariants.{OtherLaw}
use Rattle.g711.specs.declared.Law.{Law}
use Rattle.g711.specs.declared.Law.TheVariants.{A, Mu}
use Rattle.g711.specs.G711.{known}

abbrev pub number : Law → ℕ
number A = 1
number Mu = 2

-- the result is the law of a number, or refusal 16 of a number that no law has
abbrev pub Names : ℕ → Result Law Refusal → Type 0
Names n r = MatchResult r (λ law. number law ≡ n) (λ e. (e ≡ OtherLaw) × (known n ≡ false))

pub number_known : (law : Law) → known (number law) ≡ true
unfolding known
number_known A = refl
number_known Mu = refl

pub unknown : (n : ℕ) → (n ≡ 1 → ⊥) → (n ≡ 2 → ⊥) → known n ≡ false
unfolding known
unknown n p q = rw (ne_eqb n 1 p, ne_eqb n 2 q)

-- What the proofs of `report` use: the answers that an arm leaves over. Assumes nothing.
use Rattle.std.specs.Prelude.{◌≡◌, refl, false, ℕ, Option, None, Some}
use Rattle.count.specs.declared.Counts.{Counts}
use Rattle.compare_step.specs.declared.Difference.{Difference}
use Rattle.compare_step.specs.declared.Class.{Class}
use Rattle.compare_step.specs.declared.Class.TheVariants.{Concealed, Settling, NotClean, Known, Differs}
use Rattle.report.specs.declared.Tally.{Tally}
use Rattle.report.specs.declared.Stretch.{Stretch}
use Rattle.report.specs.declared.First.{First}
use Rattle.report.specs.Report.{computed, add, reached, earliest}

-- samples were not computed
module _ (c : Class) (k : c ≡ Known → ⊥) (d : (x : Difference) → c ≡ Differs x → ⊥) where
  pub not_computed : false ≡ computed c
  unfolding computed
  not_computed = by c refl
    where
      by : (x : Class) → c ≡ x → false ≡ computed x
      by Concealed e = refl
      by (Settling n) e = refl
      by (NotClean n) e = refl
      by Known e = absurd (k e)
      by (Differs x) e = absurd (d x e)

  pub not_reached : (s : Option Stretch) (n : ℕ) → None ≡ reached s n c
  unfolding reached
  not_reached s n = by c refl
    where
      by : (x : Class) → c ≡ x → None ≡ reached s n x
      by Concealed e = refl
      by (Settling m) e = refl
      by (NotClean m) e = refl
      by Known e = absurd (k e)
      by (Differs x) e = absurd (d x e)

  pub not_added : ((n : ℕ) → c ≡ Settling n → ⊥) → ((n : ℕ) → c ≡ NotClean n → ⊥) → (t : Tally) (counts : Counts)
      → ◌≡◌ {A = Tally} (record { counts = counts; settling = t.settling; unclean = t.unclean; known = t.known; differ = t.differ }) (add t counts c)
  unfolding add
  not_added f g t counts = by c refl
    where
      by : (x : Class) → c ≡ x → ◌≡◌ {A = Tally} (record { counts = counts; settling = t.settling; unclean = t.unclean; known = t.known; differ = t.differ }) (add t counts x)
      by Concealed e = refl
      by (Settling m) e = absurd (f m e)
      by (NotClean m) e = absurd (g m e)
      by Known e = absurd (k e)
      by (Differs x) e = absurd (d x e)

pub not_earlier : (c : Class) → ((x : Difference) → c ≡ Differs x → ⊥) → (n : ℕ) → None ≡ earliest None n c
unfolding earliest
not_earlier Concealed d n = refl
not_earlier (Settling m) d n = refl
not_earlier (NotClean m) d n = refl
not_earlier Known d n = refl
not_earlier (Differs x) d n = absurd (d x refl)

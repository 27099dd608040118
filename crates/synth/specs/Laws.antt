-- Laws of the definitions: reconstruction by its two cases, and lengths. Assumes nothing.
use Rattle.std.specs.Prelude.{◌≡◌, refl, Bool, true, false, cond, ℤ, length}
use Rattle.std.proofs.Math.Path.{ap}
use Rattle.std.proofs.Common.{◌∙◌}
use mathlib.Core.List.{List}
use Rattle.std.proofs.lemmas.List.{length-map}
use Rattle.laws.specs.Loops.{length_run}
use Rattle.block.specs.Places.{exc_start}
use Rattle.synth_filter.specs.Filter.{synthesis, saturates}
use Rattle.synth_filter.specs.Laws.{synthesis_again, length_synthesis}
use Rattle.synth.specs.Synth.{excitation, divide_by_4, reconstruct_exc, reconstruct_speech}

-- ---- reconstruction by its two cases; b is the flag of the first synthesis

module _ (second : Bool) (a exc speech : List ℤ) {b : Bool} (s : b ≡ saturates second a exc speech) where
  pub again_exc : b ≡ true → {e : List ℤ} → e ≡ divide_by_4 exc → e ≡ reconstruct_exc second a exc speech
  unfolding reconstruct_exc
  again_exc t q = q ∙ rw (← s, t)

  -- y is the speech that the first synthesis left
  pub again_speech : b ≡ true → {e y z : List ℤ} → e ≡ divide_by_4 exc → y ≡ synthesis second a exc speech → z ≡ synthesis second a e y → z ≡ reconstruct_speech second a exc speech
  unfolding reconstruct_speech
  again_speech t {e} q f g = g ∙ rw f (synthesis_again second a e exc speech) ∙ ap (λ (u : List ℤ). synthesis second a u speech) (again_exc t q)

  pub once_exc : b ≡ false → exc ≡ reconstruct_exc second a exc speech
  unfolding reconstruct_exc
  once_exc t = rw (← s, t)

  pub once_speech : b ≡ false → {y : List ℤ} → y ≡ synthesis second a exc speech → y ≡ reconstruct_speech second a exc speech
  unfolding reconstruct_speech
  once_speech t f = f ∙ ap (λ (u : List ℤ). synthesis second a u speech) (once_exc t)

-- ---- lengths

pub length_excitation : (second : Bool) (code : List ℤ) (gp gc : ℤ) (exc : List ℤ) → length (excitation second code gp gc exc) ≡ length exc
unfolding excitation
length_excitation second code gp gc exc = length_run _ (exc_start second) 40 exc

pub length_divide_by_4 : (exc : List ℤ) → length (divide_by_4 exc) ≡ length exc
unfolding divide_by_4
length_divide_by_4 exc = length-map exc _

length_either : (b : Bool) (exc : List ℤ) → length (cond b (divide_by_4 exc) exc) ≡ length exc
length_either true exc = length_divide_by_4 exc
length_either false exc = refl

pub length_reconstruct_exc : (second : Bool) (a exc speech : List ℤ) → length (reconstruct_exc second a exc speech) ≡ length exc
unfolding reconstruct_exc
length_reconstruct_exc second a exc speech = length_either (saturates second a exc speech) exc

pub length_reconstruct_speech : (second : Bool) (a exc speech : List ℤ) → length (reconstruct_speech second a exc speech) ≡ length speech
unfolding reconstruct_speech
length_reconstruct_speech second a exc speech = length_synthesis second a (reconstruct_exc second a exc speech) speech

-- A subframe is not shrunk where its first synthesis stays inside the range of samples, with coefficients in bound. Assumes nothing.
use Rattle.std.specs.Prelude.{ℕ, zero, suc, ◌+◌, ◌-◌, ◌≤◌, ◌<◌, ◌≡◌, refl, Bool, true, false, List, [], ◌∷◌, ℤ, pos, length, drop, set}
use Rattle.std.proofs.Math.Path.{subst}
use Rattle.std.proofs.Common.{◌∙◌, arith, get_or-drop}
use Rattle.std.specs.Int.Signed.{mag, nat_abs-le}
use Rattle.laws.specs.Lists.{at}
use Rattle.laws.specs.Loops.{steps, run}
use Rattle.block.specs.Places.{exc_start, speech_start}
use Rattle.synth_filter.specs.Filter.{synth_sample, samples, synthesis, overflow_at, any, saturates}
use Rattle.synth_filter.specs.Fast.{Past}
use Rattle.synth_filter.specs.FastLaws.{sample_quiet}
use Rattle.inverse.specs.Inverse.{Inside, inside, bounded}
use Rattle.inverse.specs.Laws.{bounded_sizes, inside_each}
use Rattle.inverse.proofs.Laws.{inside_whole}
use Rattle.inverse.specs.Subframe.{run_word, sample_word}

-- what holds of a word of l, and of all that is written, holds of the word then
set_either : (P : ℤ → Type 0) (l : List ℤ) (i j : ℕ) (x : ℤ) → P x → P (at l j) → P (at (set l i x) j)
set_either P [] i j x p q = q
set_either P (y ∷ l) zero zero x p q = p
set_either P (y ∷ l) zero (suc j) x p q = q
set_either P (y ∷ l) (suc i) zero x p q = q
set_either P (y ∷ l) (suc i) (suc j) x p q = set_either P l i j x p q

run_either : (P : ℤ → Type 0) (f : ℕ → List ℤ → ℤ) → ((k : ℕ) (l : List ℤ) → P (f k l)) → (p n j : ℕ) (l : List ℤ) → P (at l j) → P (at (run f p n l) j)
unfolding run
run_either P f h p zero j l q = q
run_either P f h p (suc n) j l q = set_either P (run f p n l) (p + n) j (f n (run f p n l)) (h n (run f p n l)) (run_either P f h p n j l q)

any_none : (f : ℕ → Bool) (n : ℕ) → ((k : ℕ) → k < n → f k ≡ false) → any f n ≡ false
unfolding any steps
any_none f zero h = refl
any_none f (suc n) h = rw (any_none f n (λ k b. h k (omega arith)), h n (omega arith))

start_pos : (second : Bool) → (10 ≤ speech_start second) × (speech_start second ≤ 50)
start_pos true = (omega arith, omega arith)
start_pos false = (omega arith, omega arith)

module _ (second : Bool) (a exc speech : List ℤ) (bound : bounded a ≡ true) (room : speech_start second + 40 ≤ length speech)
    (words : (k : ℕ) → k < 40 → mag (at exc (exc_start second + k)) < 32768) (before : (j : ℕ) → j < 90 → mag (at speech j) < 32768)
    (clean : inside (drop (speech_start second) (synthesis second a exc speech)) 40 ≡ true) where
  abbrev start : ℕ
  start = speech_start second

  past : (k : ℕ) → k < 40 → Past (samples second a exc speech k) (start + k) 0
  unfolding samples
  past k h i b q =
      nat_abs-le (at (samples second a exc speech k) (start + k - (i + 1)))
      (run_either (λ (z : ℤ). mag z < 32768) _ (λ n l. sample_word a (at exc (exc_start second + n)) l (start + n)) start k (start + k - (i + 1)) speech
      (before (start + k - (i + 1)) (omega (arith, start_pos second))))

  inside_sample : (k : ℕ) → k < 40 → Inside (synth_sample a (at exc (exc_start second + k)) (samples second a exc speech k) (start + k))
  unfolding synthesis samples
  inside_sample k h =
      subst Inside (get_or-drop start (synthesis second a exc speech) k (pos 0) ∙ run_word _ start 40 k speech room h) (inside_each (drop start (synthesis second a exc speech)) 40 clean k h)

  pub quiet : saturates second a exc speech ≡ false
  unfolding saturates overflow_at
  quiet =
      any_none (overflow_at second a exc speech) 40 (λ k h.
      let x = at exc (exc_start second + k) in
      let y = samples second a exc speech k in
      sample_quiet a x y (start + k) (bounded_sizes a bound) (nat_abs-le x (words k h)) (past k h)
      (inside_whole a x y (start + k) (bounded_sizes a bound) (nat_abs-le x (words k h)) (past k h) (inside_sample k h)))

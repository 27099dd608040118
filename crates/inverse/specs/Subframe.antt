-- The 40 words of excitation of a subframe from its samples, whether it was shrunk or not. Assumes nothing.
use Rattle.std.specs.Prelude.{ℕ, zero, suc, ◌+◌, ◌-◌, ◌≤◌, ◌<◌, ◌≡◌, refl, Bool, List, ℤ, pos, ◌+ℤ◌, length, set}
use Rattle.std.proofs.Common.{ap, ◌∙◌, ⊎_elim, eq-or-lt_of_le, arith, get_or-set_same, get_or-set_other}
use Rattle.std.specs.Int.Signed.{mag}
use Rattle.laws.specs.Lists.{at}
use Rattle.laws.specs.Loops.{run, length_run}
use Rattle.laws.specs.Range.{mag_shr_less}
use Rattle.basic_op.specs.Laws.{sat_mag}
use Rattle.basic_op.specs.Ops.{sat32, l_add, l_mult, l_mac, l_shl, extract_h, round}
use Rattle.block.specs.Places.{exc_start}
use Rattle.synth_filter.specs.Filter.{synth_sum, synth_sample}
use Rattle.synth.specs.Synth.{excite, excitation}

-- ---- words written in order: what stands at a place in the end

run_step : (f : ℕ → List ℤ → ℤ) (p n : ℕ) (l : List ℤ) → run f p (suc n) l ≡ set (run f p n l) (p + n) (f n (run f p n l))
unfolding run
run_step f p n l = refl

pub run_before : (f : ℕ → List ℤ → ℤ) (p n j i : ℕ) (l : List ℤ) → j ≤ n → i < p + j → at (run f p n l) i ≡ at (run f p j l) i
run_before f p zero j i l h k = let e : j ≡ 0 = omega arith in rw e
run_before f p (suc n) j i l h k =
    ⊎_elim (λ e. rw e)
    (λ q. ap (λ (x : List ℤ). at x i) (run_step f p n l) ∙ get_or-set_other (run f p n l) (p + n) i (f n (run f p n l)) (pos 0) (λ e. omega arith) ∙ run_before f p n j i l (omega arith) k)
    (eq-or-lt_of_le h)

pub run_word : (f : ℕ → List ℤ → ℤ) (p n j : ℕ) (l : List ℤ) → p + n ≤ length l → j < n → at (run f p n l) (p + j) ≡ f j (run f p j l)
run_word f p n j l b h =
    run_before f p n (suc j) (p + j) l h (omega arith) ∙ ap (λ (x : List ℤ). at x (p + j)) (run_step f p j l)
    ∙ get_or-set_same (run f p j l) (p + j) (f j (run f p j l)) (pos 0) (omega (arith, length_run f p j l))

-- ---- words

round_word : (x : ℤ) → mag (round x) < 32768
unfolding round extract_h l_add
round_word x = mag_shr_less 15 16 (sat32 (x +ℤ pos 32768)) (omega (arith, sat_mag 2147483647 (x +ℤ pos 32768)))

excite_word : (gp gc v c : ℤ) → mag (excite gp gc v c) < 32768
unfolding excite
excite_word gp gc v c = round_word (l_shl (l_mac (l_mult v gp) c gc) (pos 1))

pub sample_word : (a : List ℤ) (x : ℤ) (y : List ℤ) (n : ℕ) → mag (synth_sample a x y n) < 32768
unfolding synth_sample
sample_word a x y n = round_word (l_shl (synth_sum a x y n 10) (pos 3))

-- the subframe's words after `excitation`
pub excitation_words : (second : Bool) (code : List ℤ) (gp gc : ℤ) (exc : List ℤ) → exc_start second + 40 ≤ length exc → (k : ℕ) → k < 40
    → mag (at (excitation second code gp gc exc) (exc_start second + k)) < 32768
unfolding excitation
excitation_words second code gp gc exc b k h = rw (run_word _ (exc_start second) 40 k exc b h) (excite_word gp gc (at (run (λ n e. excite gp gc (at e (exc_start second + n)) (at code n)) (exc_start second) k exc) (exc_start second + k)) (at code k))

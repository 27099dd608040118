-- Laws of the definitions: the steps of the code's loops, the length, and that synthesis over an earlier synthesis of the same subframe
-- gives the same. Assumes nothing.
use Rattle.std.specs.Prelude.{ℕ, ◌+◌, ◌-◌, ◌≤◌, ◌<◌, ◌≡◌, Bool, true, false, ◌||◌, List, ℤ, pos, length, set}
use Rattle.std.proofs.Common.{ap, ◌∙◌, arith, get_or-set_other}
use Rattle.laws.specs.Lists.{at}
use Rattle.laws.specs.Loops.{steps_none, steps_turn, steps_same, write, run_again, length_run}
use Rattle.basic_op.specs.Ops.{l_mult, l_msu, l_shl, round, l_mult_overflow, l_msu_overflow, l_shl3_overflow, round_overflow}
use Rattle.block.specs.Places.{exc_start, speech_start}
use Rattle.synth_filter.specs.Filter.{synth_sum, synth_sum_overflow, synth_sample, synth_overflow, any, samples, overflow_at, synthesis}

-- ---- f asked of no number, and of one more

pub any_none : (f : ℕ → Bool) → false ≡ any f 0
unfolding any
any_none f = steps_none _ false

pub any_turn : (f : ℕ → Bool) (n : ℕ) {o t : Bool} → o ≡ any f n → t ≡ f n → (o || t) ≡ any f (n + 1)
unfolding any
any_turn f n {o} {t} e g = steps_turn (λ k b. b || f k) n false o (o || t) e (rw g)

-- ---- one past sample more taken off: l, u and v are what the code reads, and t is the result r read back

module _ (a : List ℤ) (x : ℤ) (y : List ℤ) (n i : ℕ) {l u v : ℤ} (f : l ≡ synth_sum a x y n i) (g : u ≡ at a (i + 1)) (h : v ≡ at y (n - (i + 1))) where
  pub sum_turn : {r t : ℤ} → t ≡ r → r ≡ l_msu l u v → t ≡ synth_sum a x y n (i + 1)
  unfolding synth_sum
  sum_turn {r} {t} q e = steps_turn (λ k s. l_msu s (at a (k + 1)) (at y (n - (k + 1)))) i (l_mult x (at a 0)) l t f (q ∙ e ∙ rw (g, h))

  pub overflow_turn : {o t : Bool} → o ≡ synth_sum_overflow a x y n i → t ≡ l_msu_overflow l u v → (o || t) ≡ synth_sum_overflow a x y n (i + 1)
  unfolding synth_sum_overflow
  overflow_turn {o} {t} q e =
      steps_turn (λ k b. b || l_msu_overflow (synth_sum a x y n k) (at a (k + 1)) (at y (n - (k + 1)))) i (l_mult_overflow x (at a 0)) o (o || t) q (rw (e, f, g, h))

-- all ten taken off: z is x, and s is the shifted sum, each read back
module _ (a : List ℤ) (x : ℤ) (y : List ℤ) (n k : ℕ) {z l s : ℤ} (d : k ≡ 10) (e : z ≡ x) (f : l ≡ synth_sum a z y n k) (g : s ≡ l_shl l (pos 3)) where
  pub sample_end : {r t : ℤ} → t ≡ r → r ≡ round s → t ≡ synth_sample a x y n
  unfolding synth_sample
  sample_end q h = q ∙ h ∙ rw (g, f, d, e)

  pub overflow_end : {o u v : Bool} → o ≡ synth_sum_overflow a z y n k → u ≡ l_shl3_overflow l → v ≡ round_overflow s → (o || (u || v)) ≡ synth_overflow a x y n
  unfolding synth_overflow
  overflow_end q h i = rw (q, h, i, g, f, d, e)

-- ---- one sample more of the subframe: x and y are what the code reads

module _ (second : Bool) (a exc speech : List ℤ) (n : ℕ) {from start : ℕ} {x : ℤ} {y : List ℤ} (d : from ≡ exc_start second) (e : start ≡ speech_start second) (f : x ≡ at exc (from + n)) (g : y ≡ samples second a exc speech n) where
  pub samples_turn : {r t : ℤ} → t ≡ r → r ≡ synth_sample a x y (start + n) → set y (start + n) t ≡ samples second a exc speech (n + 1)
  unfolding samples
  samples_turn {r} {t} q h = rw e (write _ (speech_start second) n speech y t g (q ∙ h ∙ rw (f, d, e)))

  pub saturates_turn : {o t : Bool} → o ≡ any (overflow_at second a exc speech) n → t ≡ synth_overflow a x y (start + n) → (o || t) ≡ any (overflow_at second a exc speech) (n + 1)
  unfolding overflow_at
  saturates_turn q h = any_turn _ n q (h ∙ rw (f, d, e, g))

-- ---- synthesis is causal

sample_causal : (a : List ℤ) (x : ℤ) (y : List ℤ) (n j : ℕ) (v : ℤ) → 0 < n → n ≤ j → synth_sample a x (set y j v) n ≡ synth_sample a x y n
unfolding synth_sample synth_sum
sample_causal a x y n j v h q =
    ap (λ (s : ℤ). round (l_shl s (pos 3))) (steps_same _ _ 10 (l_mult x (at a 0)) (λ i b r. ap (l_msu r (at a (i + 1))) (get_or-set_other y j (n - (i + 1)) v (pos 0) (λ e. omega arith))))

start_pos : (second : Bool) → 0 < speech_start second
start_pos true = omega arith
start_pos false = omega arith

pub synthesis_again : (second : Bool) (a exc before speech : List ℤ) → synthesis second a exc (synthesis second a before speech) ≡ synthesis second a exc speech
unfolding synthesis samples
synthesis_again second a exc before speech =
    run_again
    _
    (speech_start second)
    (λ n j l v h. sample_causal a _ l (speech_start second + n) j v (omega (arith, start_pos second)) h)
    _
    40
    40
    speech
    (omega arith)

pub length_synthesis : (second : Bool) (a exc speech : List ℤ) → length (synthesis second a exc speech) ≡ length speech
unfolding synthesis samples
length_synthesis second a exc speech = length_run _ (speech_start second) 40 speech

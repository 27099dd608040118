-- The synthesis filter 1/A(z): ITU-T G.729, clause 4.1.6, equation (77).
-- A frame has 234 words of excitation, 154 of the past and 80 of its own, and 90 words of speech, the last ten samples of the frame
-- before and 80 of its own. A subframe is 40 of the 80 words: the first half of them, or the second.
use Rattle.std.specs.Prelude.{ℕ, ◌+◌, ◌-◌, Bool, false, ◌||◌, List, ℤ, pos}
use Rattle.laws.specs.Lists.{at}
use Rattle.block.specs.Places.{exc_start, speech_start, subframe_length}
use Rattle.laws.specs.Loops.{steps, run}
use Rattle.basic_op.specs.Ops.{l_mult, l_msu, l_shl, round, l_mult_overflow, l_msu_overflow, l_shl3_overflow, round_overflow}

-- equation (77), y(n) = x(n) - a1 y(n - 1) - .. - a10 y(n - 10), with coefficients in Q12, a0 the factor of x and y(n) at place n of y:
-- the sum when k of the ten past samples are taken off, the newest first, which decides where it saturates
unfoldable pub synth_sum : List ℤ → ℤ → List ℤ → ℕ → ℕ → ℤ
synth_sum a x y n k = steps (λ i l. l_msu l (at a (i + 1)) (at y (n - (i + 1)))) k (l_mult x (at a 0))

-- y(n), rounded to Q0
unfoldable pub synth_sample : List ℤ → ℤ → List ℤ → ℕ → ℤ
synth_sample a x y n = round (l_shl (synth_sum a x y n 10) (pos 3))

-- whether an operation of that sum saturates, each on the sum as it then is
unfoldable pub synth_sum_overflow : List ℤ → ℤ → List ℤ → ℕ → ℕ → Bool
synth_sum_overflow a x y n k = steps (λ i b. b || l_msu_overflow (synth_sum a x y n i) (at a (i + 1)) (at y (n - (i + 1)))) k (l_mult_overflow x (at a 0))

-- whether an operation of the sample saturates: one of the sum, the shift by 3 or the rounding sum
unfoldable pub synth_overflow : List ℤ → ℤ → List ℤ → ℕ → Bool
synth_overflow a x y n = synth_sum_overflow a x y n 10 || (l_shl3_overflow (synth_sum a x y n 10) || round_overflow (l_shl (synth_sum a x y n 10) (pos 3)))

-- the speech when the first n samples of the subframe are written
unfoldable pub samples : Bool → List ℤ → List ℤ → List ℤ → ℕ → List ℤ
samples second a exc speech n = run (λ k y. synth_sample a (at exc (exc_start second + k)) y (speech_start second + k)) (speech_start second) n speech

-- clause 4.1.6: the speech with the subframe's 40 samples
unfoldable pub synthesis : Bool → List ℤ → List ℤ → List ℤ → List ℤ
synthesis second a exc speech = samples second a exc speech subframe_length

-- whether an operation of the subframe's sample n saturates, on the speech as it then is
unfoldable pub overflow_at : Bool → List ℤ → List ℤ → List ℤ → ℕ → Bool
overflow_at second a exc speech n = synth_overflow a (at exc (exc_start second + n)) (samples second a exc speech n) (speech_start second + n)

-- whether f holds of a number below n
unfoldable pub any : (ℕ → Bool) → ℕ → Bool
any f n = steps (λ k b. b || f k) n false

-- whether one of the 40 samples saturates
unfoldable pub saturates : Bool → List ℤ → List ℤ → List ℤ → Bool
saturates second a exc speech = any (overflow_at second a exc speech) 40

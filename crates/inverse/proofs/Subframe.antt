-- The 40 words of excitation of a subframe are those from which its samples were made. Assumes nothing.
use Rattle.std.specs.Prelude.{ℕ, zero, suc, ◌+◌, ◌-◌, ◌^◌, ◌≤◌, ◌<◌, ◌≡◌, refl, Bool, true, false, cond, List, [], ◌∷◌, map, ltb, ℤ, pos, negsuc, ◌-ℤ◌, length}
use Rattle.std.proofs.Common.{subst, ◌∙◌, le_refl, lt_of_le_of_lt, arith, ltb-true, ltb-false}
use Rattle.std.proofs.lemmas.List.{map-append}
use Rattle.std.proofs.Math.ListN.{get_or-map}
use Rattle.std.specs.Int.Signed.{mag, shr_z, nat_abs-le}
use Rattle.laws.specs.Lists.{at, tab, tab_same}
use Rattle.laws.specs.Loops.{steps_same, run_out}
use Rattle.block.specs.Places.{exc_start, speech_start}
use Rattle.synth_filter.specs.Filter.{synth_sample, samples, synthesis, saturates}
use Rattle.synth_filter.specs.Fast.{term, Past}
use Rattle.synth.specs.Synth.{divide_by_4, reconstruct_exc, reconstruct_speech}
use Rattle.inverse.specs.Inverse.{past_sum, inverse, Inside, bounded, subframe_words, word}
use Rattle.inverse.specs.Laws.{bounded_sizes, word_same}
use Rattle.inverse.proofs.Laws.{recovered}
use Rattle.inverse.specs.Subframe.{run_before, run_word}

tab_word : (n : ℕ) (f : ℕ → ℤ) → ((k : ℕ) → k < n → mag (f k) < 32768) → map word (tab n f) ≡ tab n f
unfolding tab
tab_word zero f h = refl
tab_word (suc n) f h = map-append word (tab n f) (f n ∷ []) ∙ rw (tab_word n f (λ k b. h k (omega arith)), word_same (f n) (h n (omega arith)))

shr_size : (z : ℤ) → mag (shr_z z (2 ^ 2)) ≤ mag z
shr_size (pos n) = omega arith
shr_size (negsuc n) = omega arith

divided_word : (exc : List ℤ) (i : ℕ) → at (divide_by_4 exc) i ≡ shr_z (at exc i) (2 ^ 2)
unfolding divide_by_4
divided_word exc i = get_or-map (λ (x : ℤ). shr_z x (2 ^ 2)) exc i (pos 0)

-- and as the subframe leaves them
left_words : (second : Bool) (a exc speech : List ℤ) (i : ℕ) → mag (at exc i) < 32768 → mag (at (reconstruct_exc second a exc speech) i) < 32768
unfolding reconstruct_exc
left_words second a exc speech i h = go (saturates second a exc speech)
  where
    go : (b : Bool) → mag (at (cond b (divide_by_4 exc) exc) i) < 32768
    go true = rw divided_word (lt_of_le_of_lt (shr_size (at exc i)) h)
    go false = h

inverse_same : (a y z : List ℤ) (n : ℕ) → 0 < n → ((j : ℕ) → j ≤ n → at y j ≡ at z j) → inverse a y n ≡ inverse a z n
unfolding inverse past_sum
inverse_same a y z n b h =
    rw (h n (le_refl n), steps_same (λ i (r : ℤ). r -ℤ term a y n i) (λ i (r : ℤ). r -ℤ term a z n i) 10 (pos 2048) (λ i k r. rw (h (n - (i + 1)) (omega arith))))

past_same : (a y z : List ℤ) (n : ℕ) → 0 < n → ((j : ℕ) → j < n → at y j ≡ at z j) → past_sum a y n ≡ past_sum a z n
unfolding past_sum
past_same a y z n b h = steps_same (λ i (r : ℤ). r -ℤ term a y n i) (λ i (r : ℤ). r -ℤ term a z n i) 10 (pos 2048) (λ i k r. rw (h (n - (i + 1)) (omega arith)))

pub words_same : (a y z : List ℤ) (p : ℕ) → 0 < p → ((j : ℕ) → j < p + 40 → at y j ≡ at z j) → subframe_words a y p ≡ subframe_words a z p
unfolding subframe_words
words_same a y z p b h = tab_same 40 _ _ (λ k l. inverse_same a y z (p + k) (omega arith) (λ j m. h j (omega arith)))

start_pos : (second : Bool) → 10 ≤ speech_start second
start_pos true = omega arith
start_pos false = omega arith

module _ (second : Bool) (a exc speech : List ℤ) (head : at a 0 ≡ pos 4096) (bound : bounded a ≡ true) (room : speech_start second + 40 ≤ length speech)
    (words : (k : ℕ) → k < 40 → mag (at exc (exc_start second + k)) < 32768)
    (before : (j : ℕ) → j < speech_start second → mag (at speech j) < 32768)
    (clean : (k : ℕ) → k < 40 → Inside (at (synthesis second a exc speech) (speech_start second + k))) where
  far : (k j : ℕ) → k ≤ 40 → j < speech_start second + k → at (synthesis second a exc speech) j ≡ at (samples second a exc speech k) j
  unfolding synthesis samples
  far k j h b = run_before _ (speech_start second) 40 k j speech h b

  sample_is : (k : ℕ) → k < 40 → at (synthesis second a exc speech) (speech_start second + k) ≡ synth_sample a (at exc (exc_start second + k)) (samples second a exc speech k) (speech_start second + k)
  unfolding synthesis samples
  sample_is k h = run_word _ (speech_start second) 40 k speech room h

  kept : (j : ℕ) → j < speech_start second → at (synthesis second a exc speech) j ≡ at speech j
  unfolding synthesis samples
  kept j h = run_out _ (speech_start second) 40 speech j (λ i b e. omega arith)

  heard : (j : ℕ) → j < speech_start second + 40 → mag (at (synthesis second a exc speech) j) < 32768
  heard j h = go (ltb j (speech_start second)) refl
    where
      go : (t : Bool) → ltb j (speech_start second) ≡ t → mag (at (synthesis second a exc speech) j) < 32768
      go true e = let b = ltb-true j (speech_start second) e in rw (kept j b) (before j b)
      go false e =
          let b = ltb-false j (speech_start second) e in
          let q : speech_start second + (j - speech_start second) ≡ j = omega arith in
          let r : Inside (at (synthesis second a exc speech) j) = subst (λ (i : ℕ). Inside (at (synthesis second a exc speech) i)) q (clean (j - speech_start second) (omega arith)) in
          omega arith

  past : (k : ℕ) → k < 40 → Past (samples second a exc speech k) (speech_start second + k) 0
  past k h i b q =
      nat_abs-le (at (samples second a exc speech k) (speech_start second + k - (i + 1)))
      (subst (λ (z : ℤ). mag z < 32768) (far k (speech_start second + k - (i + 1)) (omega arith) (omega (arith, start_pos second)))
      (heard (speech_start second + k - (i + 1)) (omega (arith, start_pos second))))

  -- the words of excitation are the inverse of the samples
  synthesis_inverse : (k : ℕ) → k < 40 → inverse a (synthesis second a exc speech) (speech_start second + k) ≡ at exc (exc_start second + k)
  unfolding inverse
  synthesis_inverse k h =
      let n = speech_start second + k in
      let y = samples second a exc speech k in
      rw (sample_is k h, past_same a (synthesis second a exc speech) y n (omega (arith, start_pos second)) (λ j b. far k j (omega arith) b))
      (recovered a (at exc (exc_start second + k)) y n (bounded_sizes a bound) (nat_abs-le (at exc (exc_start second + k)) (words k h)) (past k h) head (rw (sample_is k h) at (clean k h)))

module _ (second : Bool) (a exc speech : List ℤ) (head : at a 0 ≡ pos 4096) (bound : bounded a ≡ true) (room : speech_start second + 40 ≤ length speech)
    (words : (k : ℕ) → k < 40 → mag (at exc (exc_start second + k)) < 32768)
    (before : (j : ℕ) → j < speech_start second → mag (at speech j) < 32768)
    (clean : (k : ℕ) → k < 40 → Inside (at (reconstruct_speech second a exc speech) (speech_start second + k))) where
  left : (k : ℕ) → k < 40 → mag (at (reconstruct_exc second a exc speech) (exc_start second + k)) < 32768
  left k h = left_words second a exc speech (exc_start second + k) (words k h)

  pub reconstruct_inverse : (k : ℕ) → k < 40
      → inverse a (reconstruct_speech second a exc speech) (speech_start second + k) ≡ at (reconstruct_exc second a exc speech) (exc_start second + k)
  unfolding reconstruct_speech
  reconstruct_inverse k h = synthesis_inverse second a (reconstruct_exc second a exc speech) speech head bound room left before clean k h

  -- these are words: none is lost where they are kept in 16 bits
  pub words_fit : map word (subframe_words a (reconstruct_speech second a exc speech) (speech_start second)) ≡ subframe_words a (reconstruct_speech second a exc speech) (speech_start second)
  unfolding subframe_words
  words_fit = tab_word 40 _ (λ k h. rw (reconstruct_inverse k h) (left k h))

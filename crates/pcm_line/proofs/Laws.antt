-- Laws of lines of samples that rest on which texts these are: what a line that is read gives. Assumes nothing.
use Rattle.std.specs.Prelude.{◌≡◌, refl, Bool, true, false, cond, List, [], ◌++◌, ℕ, ◌+◌, ◌-◌, ◌*◌, ◌/◌, ◌%◌, ◌≤◌, ◌<◌, ltb, ℤ, pos, length, take, drop, get_or}
use Rattle.std.proofs.Common.{sym, ap, ◌∙◌, arith, take_all, take_at, get_or-append-add, ext_get_or}
use Rattle.std.specs.Int.Signed.{mag}
use Rattle.std.proofs.Math.ListN.{get_or-append}
use borrow.Author.Tests.{le-ltb}
use Rattle.laws.specs.Bytes.{same, same_self, same_true}
use Rattle.laws.specs.Lists.{at, tab, length_tab, at_tab}
use Rattle.basic_op.specs.Ops.{low16, extract_l}
use Rattle.basic_op.specs.Low.{low_lt}
use Rattle.text.specs.Text.{ascii}
use Rattle.print.specs.Print.{word, words}
use Rattle.print.specs.Laws.{length_words, words_at, number, number_word, sample_back}
use Rattle.pcm_line.specs.PcmLine.{pcm_text, pcm_line, sample, digits, count, is_line, samples, answer, read}
use Rattle.pcm_line.specs.Laws.{length_text, length_digits, no_line, read_none}

-- what is taken of the samples that the digits give
found_taken : (n : ℕ) (l : List ℕ) (lent : List ℤ) {found : List ℤ} → n ≤ 80 → found ≡ digits n l ++ drop n lent → take 80 (take (n - 0) (drop 0 found)) ≡ digits n l
found_taken n l lent h e =
    let m : n - 0 ≡ n = omega arith in
    rw (m, e, take_at (digits n l) (drop n lent) n (length_digits n l)) (take_all 80 (digits n l) (omega (arith, length_digits n l)))

module _ (l : List ℕ) (lent : List ℤ) {n : ℕ} (e : n ≡ (length l - 6) / 4) where
  module _ (h : n ≤ 80) (zeros : List ℤ) {found : List ℤ} (f : found ≡ digits n l ++ drop n zeros) {r : Bool} (g : r ≡ same l (pcm_text (take 80 (take (n - 0) (drop 0 found))))) where
    tells : r ≡ is_line l
    unfolding is_line count
    tells = g ∙ rw (found_taken n l zeros h f, ← e, le-ltb 80 n h)

    pub read_other : r ≡ false → answer 0 lent ≡ read l lent
    read_other q = read_none l lent (no_line l (sym tells ∙ q))

    pub read_done : r ≡ true → {out : List ℤ} → out ≡ digits n l ++ drop n lent → answer n out ≡ read l lent
    unfolding read samples count
    read_done q {out} o = rw (sym tells ∙ q, ← e, length_digits n l, o)

-- digit j of sample k
text_at : (l : List ℤ) (k j i : ℕ) → k < length l → j < 4 → i ≡ 5 + 4 * k + j → get_or (pcm_text l) i 0 ≡ get_or (word (low16 (at l k))) j 0
unfolding pcm_text
text_at l k j i h b e =
    let w : List ℕ = words (length l) l in
    let q : i ≡ length (ascii "(pcm ") + (4 * k + j) = omega arith in
    rw q
    (get_or-append-add (ascii "(pcm ") (w ++ ascii ")") (4 * k + j) 0 ∙ get_or-append w (ascii ")") 0 (4 * k + j) (omega (arith, length_words (length l) l))
    ∙ words_at (length l) k j l h b)

word_back : (z : ℤ) → mag z < 32768 → extract_l (pos (number (word (low16 z)))) ≡ z
unfolding extract_l low16
word_back z f =
    let n : ℕ = number (word (low16 z)) in
    let q : n % 65536 ≡ n = omega (arith, number_word (low16 z) (low_lt z), low_lt z) in
    rw q (sample_back z (record { sfits = f }))

sample_at : (l : List ℤ) (k : ℕ) → k < length l → mag (at l k) < 32768 → sample (pcm_text l) (5 + 4 * k) ≡ at l k
unfolding sample number
sample_at l k h f =
    rw (
      text_at l k 0 (5 + 4 * k) h (omega arith) (omega arith),
      text_at l k 1 (5 + 4 * k + 1) h (omega arith) (omega arith),
      text_at l k 2 (5 + 4 * k + 2) h (omega arith) (omega arith),
      text_at l k 3 (5 + 4 * k + 3) h (omega arith) (omega arith),
    )
    (word_back (at l k) f)

digits_back : (l : List ℤ) → ((k : ℕ) → mag (at l k) < 32768) → digits (length l) (pcm_text l) ≡ l
unfolding digits
digits_back l f =
    let g : ℕ → ℤ = λ k. sample (pcm_text l) (5 + 4 * k) in
    let n : length (tab (length l) g) ≡ length l = length_tab (length l) g in
    ext_get_or (pos 0) (tab (length l) g) l n (λ k h. at_tab g (length l) k (omega arith) ∙ sample_at l k (omega arith) (f k))

-- the samples of a text are those that it is printed of
pub samples_text : (l : List ℤ) → length l ≤ 80 → ((k : ℕ) → mag (at l k) < 32768) → samples (pcm_text l) ≡ l
unfolding samples is_line count
samples_text l h f =
    let c : (length (pcm_text l) - 6) / 4 ≡ length l = omega (arith, length_text l) in
    rw (c, digits_back l f, le-ltb 80 (length l) h, same_self (pcm_text l))

-- a text that has samples is what is printed of them, at most 80
text_samples : (l : List ℕ) → 0 < length (samples l) → l ≡ pcm_text (samples l)
unfolding samples is_line
text_samples l = by (ltb 80 (count l)) (same l (pcm_text (digits (count l) l))) refl
  where
    by : (p q : Bool) → same l (pcm_text (digits (count l) l)) ≡ q → 0 < length (cond (cond p false q) (digits (count l) l) [])
        → l ≡ pcm_text (cond (cond p false q) (digits (count l) l) [])
    by true q e h = absurd (omega arith)
    by false false e h = absurd (omega arith)
    by false true e h = same_true l (pcm_text (digits (count l) l)) e

pub line_samples : (l : List ℕ) → 0 < length (samples l) → pcm_line (samples l) ≡ l ++ ascii "\n"
unfolding pcm_line
line_samples l h = ap (λ (x : List ℕ). x ++ ascii "\n") (sym (text_samples l h))

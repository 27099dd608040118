-- Laws of a line of printed samples: how long it is, how the code writes and reads it, and its digits read back. Assumes nothing.
use Rattle.std.specs.Prelude.{◌≡◌, refl, Bool, true, false, cond, List, [], ◌++◌, ℕ, ◌+◌, ◌-◌, ◌*◌, ◌/◌, ◌≤◌, ◌<◌, ltb, ℤ, length, take, drop}
use Rattle.std.proofs.Common.{sym, ap, subst, ◌∙◌, append_assoc, arith, length-append, length-take, take_at}
use Rattle.std.proofs.Math.Seq.{take-append_seam}
use borrow.Author.Tests.{lt-ltb, ltb-false}
use Rattle.laws.specs.Bytes.{same}
use Rattle.laws.specs.Lists.{tab, length_tab}
use Rattle.text.specs.Text.{ascii, Put}
use Rattle.text.specs.Laws.{then}
use Rattle.print.specs.Print.{frame_room, words, pcm, over}
use Rattle.print.specs.Laws.{length_words, front}
use Rattle.pcm_line.specs.PcmLine.{pcm_text, pcm_line, sample, digits, count, is_line, samples, answer, read}

-- ---- how long it is

pub length_text : (l : List ℤ) → length (pcm_text l) ≡ 6 + 4 * length l
unfolding pcm_text
length_text l = simp (length-append, length_words) (omega arith)

pub length_line : (l : List ℤ) → length (pcm_line l) ≡ 7 + 4 * length l
unfolding pcm_line
length_line l = simp length-append (omega (arith, length_text l))

pub length_digits : (n : ℕ) (l : List ℕ) → length (digits n l) ≡ n
unfolding digits
length_digits n l = length_tab n (λ k. sample l (5 + 4 * k))

-- ---- the line written

parts : (l : List ℤ) → ascii "(pcm " ++ words (length l) l ++ ascii ")\n" ≡ pcm_line l
unfolding pcm_line pcm_text
parts l = sym (append_assoc (ascii "(pcm " ++ words (length l) l) (ascii ")") (ascii "\n"))

-- that of 80 samples is the line of a frame
pub frame_line : (l : List ℤ) → length l ≡ 80 → pcm_line l ≡ pcm l
unfolding pcm
frame_line l h = sym (parts l) ∙ rw h

pub put_parts : (l : List ℤ) {lent x y out : List ℕ} {m k r : ℕ} → Put (ascii "(pcm ") 0 lent m x → Put (words (length l) l) m x k y → Put (ascii ")\n") k y r out
    → Put (pcm_line l) 0 lent r out
put_parts l {lent} {x} {y} {out} {m} {k} {r} p q s = subst (λ (t : List ℕ). Put t 0 lent r out) (parts l) (then (then p q) s)

-- it has room where there are at most 80 samples
pub wrote : (l : List ℤ) {s : List ℤ} {lent out : List ℕ} {r : ℕ} → s ≡ take 80 l → Put (pcm_line s) 0 lent r out
    → (r ≤ frame_room) × ((r ≡ length (pcm_line (take 80 l))) × (out ≡ over (pcm_line (take 80 l)) lent))
wrote l {s} e p = (omega (arith, p.place, length_line s, ap length e, length-take 80 l), rw (← e) (front p))

-- without its line feed it is the text
pub text_taken : (s : List ℤ) (lent : List ℕ) {out : List ℕ} {n : ℕ} → n ≡ length (pcm_line s) → out ≡ over (pcm_line s) lent → take (n - 1) out ≡ pcm_text s
unfolding over pcm_line
text_taken s lent {out} {n} e f =
    let m : n - 1 ≡ length (pcm_text s) = omega (arith, length_line s, length_text s) in
    rw (m, f, append_assoc) (take-append_seam (pcm_text s) _)

-- ---- the line read, by the tests of the code

pub no_line : (l : List ℕ) → is_line l ≡ false → samples l ≡ []
unfolding samples
no_line l e = rw e

-- a text that has no room for a sample
no_room : (l : List ℕ) → length l < 10 → samples l ≡ []
unfolding samples count digits tab
no_room l h = let e : (length l - 6) / 4 ≡ 0 = omega arith in rw e (by (is_line l))
  where
    by : (t : Bool) → ◌≡◌ {A = List ℤ} (cond t [] []) []
    by true = refl
    by false = refl

pub read_none : (l : List ℕ) (lent : List ℤ) → samples l ≡ [] → answer 0 lent ≡ read l lent
unfolding read
read_none l lent e = rw e

pub read_short : (l : List ℕ) (lent : List ℤ) → length l < 10 → answer 0 lent ≡ read l lent
read_short l lent h = read_none l lent (no_room l h)

module _ (l : List ℕ) (lent : List ℤ) {n : ℕ} (e : n ≡ (length l - 6) / 4) where
  pub read_over : 80 < n → answer 0 lent ≡ read l lent
  unfolding is_line count
  read_over h = read_none l lent (no_line l (rw (← e, lt-ltb 80 n h)))

-- what an answer says
module _ (l : List ℕ) (lent : List ℤ) {n : ℕ} {out : List ℤ} (e : answer n out ≡ read l lent) where
  pub read_many : n ≡ length (samples l)
  unfolding read
  read_many = cc

  read_out : out ≡ samples l ++ drop (length (samples l)) lent
  unfolding read
  read_out = cc

  pub read_front : take n out ≡ samples l
  read_front = rw read_out (take_at (samples l) (drop (length (samples l)) lent) n (sym read_many))

pub samples_few : (l : List ℕ) → length (samples l) ≤ 80
unfolding samples is_line
samples_few l = by (ltb 80 (count l)) (same l (pcm_text (digits (count l) l))) refl
  where
    by : (p q : Bool) → ltb 80 (count l) ≡ p → length (cond (cond p false q) (digits (count l) l) []) ≤ 80
    by true q e = omega arith
    by false false e = omega arith
    by false true e = omega (arith, length_digits (count l) l, ltb-false 80 (count l) e)

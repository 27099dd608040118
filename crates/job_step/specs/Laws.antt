-- What the proofs of `job_step` use of its definitions. Assumes nothing.
use Rattle.std.specs.Prelude.{◌≡◌, refl, Bool, true, false, not, ◌&&◌, ◌||◌, ℕ, zero, suc, ◌+◌, ◌-◌, ◌≤◌, ◌<◌, min, leb, ℤ, pos, get_or}
use Rattle.std.proofs.Math.Path.{sym, ap}
use Rattle.std.proofs.Common.{◌∙◌, add-one, add-zero, leb-true, leb-false, drop_at}
use mathlib.Core.List.{List, [], ◌∷◌, ◌++◌, append_assoc, append-nil}
use native.Mathlib.Omega.{arith}
use Rattle.std.proofs.Math.ListN.{length, take, drop, length-append, length-drop, drop_of_length-le}
use Rattle.std.proofs.Math.Seq.{drop-cons, get_or-drop, take_all}
use Rattle.block.specs.Block.{part}
use Rattle.block.specs.Places.{frame_length, tail_length, tail_place, state_length}
use Rattle.laws.specs.Lists.{at, at_tab}
use Rattle.print.specs.Print.{frame_room, words, pcm, over}
use Rattle.print.specs.Laws.{length_words, length_pcm}
use Rattle.text.specs.Text.{ascii}
use Rattle.job_step.specs.declared.File.{File}
use Rattle.job_step.specs.Step.{fits, like, tail_room, last_printed, one, among, different}

-- ---- the loops

module _ (l m : List ℕ) (i : ℕ) where
  like_next : i < length l → i < length m → like (drop i l) (drop i m) ≡ (fits (get_or l i 0) (get_or m i 0) && like (drop (i + 1) l) (drop (i + 1) m))
  unfolding like
  like_next h k = rw (drop-cons l i 0 h, drop-cons m i 0 k, add-one)

  pub like_not : i < length l → i < length m → like l m ≡ like (drop i l) (drop i m) → fits (get_or l i 0) (get_or m i 0) ≡ false → false ≡ like l m
  like_not h k e f = sym (e ∙ like_next h k ∙ rw f)

  pub like_more : i < length l → i < length m → like l m ≡ like (drop i l) (drop i m) → fits (get_or l i 0) (get_or m i 0) ≡ true → like l m ≡ like (drop (i + 1) l) (drop (i + 1) m)
  like_more h k e f = e ∙ like_next h k ∙ rw f

pub like_none : (l : List ℕ) → like l [] ≡ true
unfolding like
like_none [] = refl
like_none (a ∷ l) = refl

pub like_end : (l m : List ℕ) (i n : ℕ) → n ≤ i → n ≡ min (length l) (length m) → like l m ≡ like (drop i l) (drop i m) → true ≡ like l m
unfolding like
like_end l m i n h k e = sym (e ∙ by (leb (length l) i) refl)
  where
    by : (t : Bool) → leb (length l) i ≡ t → like (drop i l) (drop i m) ≡ true
    by true g = let j : length l ≤ i = leb-true _ _ g in rw (drop_of_length-le l {i = i} j)
    by false g = let j : i < length l = leb-false _ _ g in rw (drop_of_length-le m {i = i} (omega arith)) (like_none (drop i l))

-- ---- the last ten samples

-- samples behind others
pub words_parts : (m n : ℕ) (l : List ℤ) → words (m + n) l ≡ words m l ++ words n (drop m l)
unfolding words
words_parts m zero l = rw (add-zero, append-nil)
words_parts m (suc n) l = let e : m + suc n ≡ suc (m + n) = omega arith in rw (e, words_parts m n l, append_assoc, get_or-drop m l n (pos 0))

words_same : (n : ℕ) (l m : List ℤ) → ((k : ℕ) → k < n → at l k ≡ at m k) → words n l ≡ words n m
unfolding words
words_same zero l m h = refl
words_same (suc n) l m h = rw (words_same n l m (λ k i. h k (omega arith)), h n (omega arith))

-- the end of a frame's form
pub pcm_end : (l : List ℤ) → drop (frame_room - tail_room) (pcm l) ≡ words tail_length (drop (frame_length - tail_length) l) ++ ascii ")\n"
unfolding pcm
pcm_end l =
    let p : List ℕ = ascii "(pcm " ++ words 70 l in
    let n : length p ≡ 285 = length-append (ascii "(pcm ") (words 70 l) ∙ omega (arith, length_words 70 l) in
    rw (words_parts 70 10 l, append_assoc (words 70 l), ← append_assoc (ascii "(pcm ") (words 70 l)) (drop_at p _ 285 n)

-- a form in memory that was lent for it
module _ (s : List ℤ) (lent form : List ℕ) (n : length lent ≡ frame_room) (f : form ≡ over (pcm s) lent) where
  pub form_room : frame_room ≤ length form
  unfolding over
  form_room = rw f (simp (length-append, length-drop, length_pcm) (omega arith))

  -- its end, where it has the last words of a block
  pub tail_is : (b : List ℤ) → s ≡ part b (state_length - frame_length) frame_length → take tail_room (drop (frame_room - tail_room) form) ≡ last_printed b
  unfolding part over last_printed
  tail_is b e =
      let d : drop (length (pcm s)) lent ≡ [] = drop_of_length-le lent {i = length (pcm s)} (omega (arith, length_pcm s)) in
      let w : words 10 (drop 70 s) ≡ words 10 (drop tail_place b) =
      words_same 10 (drop 70 s) (drop tail_place b)
      (λ k h. get_or-drop 70 s k (pos 0) ∙ rw e (at_tab (λ i. at b (154 + i)) 80 (70 + k) (omega arith)) ∙ shifted b k ∙ sym (get_or-drop tail_place b k (pos 0))) in
      let g : form ≡ pcm s = f ∙ rw (d, append-nil) in
      let k : length (words 10 (drop tail_place b) ++ ascii ")\n") ≤ tail_room = rw length-append (omega (arith, length_words 10 (drop tail_place b))) in
      ap (λ (l : List ℕ). take tail_room (drop (frame_room - tail_room) l)) g ∙ ap (take tail_room) (pcm_end s ∙ ap (λ (l : List ℕ). l ++ ascii ")\n") w) ∙ take_all tail_room _ k
    where
      shifted : (b : List ℤ) (k : ℕ) → at b (154 + (70 + k)) ≡ at b (224 + k)
      shifted b k = let h : 154 + (70 + k) ≡ 224 + k = omega arith in rw h

-- ---- the files of a job

or_false : (x : Bool) → (x || false) ≡ x
or_false true = refl
or_false false = refl

and_true : (x : Bool) → (x && true) ≡ x
and_true true = refl
and_true false = refl

-- each pair of five
pub pairs : (a b c d e : File)
    → (not (one a b || (one a c || (one a d || one a e))) && (not (one b c || (one b d || one b e)) && (not (one c d || one c e) && not (one d e)))) ≡ different (a ∷ b ∷ c ∷ d ∷ e ∷ [])
unfolding among different
pairs a b c d e = rw (or_false (one a e), or_false (one b e), or_false (one c e), or_false (one d e), and_true (not (one d e)))

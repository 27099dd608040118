-- The candidates' slots of a comparison: each is written on its own, a candidate that holds the far decoder's signal gives the far samples and goes on with that signal, and it stays. Assumes nothing.
use Prim.Native.Nat.{ℕ, zero, suc, ◌+◌, ◌-◌, ◌*◌, ◌/◌, ◌%◌, ◌≤◌, ◌<◌}
use Rattle.std.specs.Prelude.{◌≡◌, Bool, false, ◌&&◌, ◌||◌, ◌≢◌, eqb, ltb, ℤ, pos, negsuc, take, drop, replicate}
use Rattle.std.proofs.Math.Path.{refl, ap}
use Rattle.std.proofs.Common.{sym, subst, ◌∙◌, true≢false, add-zero, add-one, arith, ltb-true, ltb-false, lt-ltb, le-ltb, le-leb, eqb-true, eq-eqb, lit<, length-append, length-drop, length-take, drop_at, drop-drop, length-take-le, get_or-take, get_or-drop, get_or-append-add}
use Rattle.std.proofs.Math.Bool.{true, cond, and-eq-true_iff}
use mathlib.Core.List.{List, [], ◌∷◌, ◌++◌, append_assoc}
use Rattle.std.proofs.lemmas.Bool.{eqb-false}
use Rattle.std.proofs.Math.ListN.{length, get_or-append}
use Rattle.std.proofs.lemmas.List.{length-replicate}
use Rattle.std.proofs.Math.Seq.{take_all}
use Rattle.std.specs.Int.Signed.{lt_z}
use Rattle.laws.specs.Lists.{at, at_tab, tab_at, tab_same}
use Rattle.laws.specs.Loops.{steps, nowhere, nowhere_each}
use Rattle.laws.specs.Ints.{most_both}
use Rattle.block.specs.Block.{part, put}
use Rattle.block.specs.Laws.{length_part, length_put, front_part, last_part}
use Rattle.inverse.specs.Inverse.{shrunk_before, window_words}
use Rattle.inverse.specs.Window.{LeftByTwo, length_shrunk}
use Rattle.state.specs.State.{Signal}
use Rattle.parameters.specs.declared.Decoded.{Decoded}
use Rattle.decoder.specs.declared.Buffers.{Buffers}
use Rattle.decoder.specs.Frame.{frame_signal}
use Rattle.compare_step.specs.Slots.{same, same_samples, slot, slot_signal, tried, all_tried, candidate, candidates, fit, fits, same_slot, stays, only_fitting, best}
use Rattle.recover.specs.Frames.{Room, frame_samples, kept, kept_room}

-- ---- a block that is written, word by word

module _ (b v : List ℤ) (n : ℕ) (room : n + length v ≤ length b) where
  put_is : put b n v ≡ take n b ++ (v ++ drop (n + length v) b)
  unfolding put
  put_is = rw (le-leb (n + length v) (length b) room) (append_assoc (take n b) v (drop (n + length v) b))

  front : length (take n b) ≡ n
  front = length-take-le n b (omega arith)

  put_at : (k : ℕ) → at (put b n v) (n + k) ≡ at (v ++ drop (n + length v) b) k
  put_at k =
      ap (λ (x : List ℤ). at x (n + k)) put_is
      ∙ subst (λ (m : ℕ). at (take n b ++ (v ++ drop (n + length v) b)) (m + k) ≡ at (v ++ drop (n + length v) b) k) front (get_or-append-add (take n b) (v ++ drop (n + length v) b) k (pos 0))

  put_in : (k : ℕ) → k < length v → at (put b n v) (n + k) ≡ at v k
  put_in k h = put_at k ∙ get_or-append v (drop (n + length v) b) (pos 0) k h

  put_before : (j : ℕ) → j < n → at (put b n v) j ≡ at b j
  put_before j h =
      ap (λ (x : List ℤ). at x j) put_is ∙ get_or-append (take n b) (v ++ drop (n + length v) b) (pos 0) j (omega (arith, front)) ∙ get_or-take n b j (pos 0) h

  put_behind : (j : ℕ) → n + length v ≤ j → at (put b n v) j ≡ at b j
  put_behind j h =
      let k = j - (n + length v) in
      let e : n + (length v + k) ≡ j = omega arith in
      let g : (n + length v) + k ≡ j = omega arith in
      subst (λ (i : ℕ). at (put b n v) i ≡ at b j) e
      (put_at (length v + k) ∙ get_or-append-add v (drop (n + length v) b) k (pos 0) ∙ get_or-drop (n + length v) b k (pos 0) ∙ ap (at b) g)

-- ---- slots

abbrev pub Eight : List ℤ → Type 0
Eight s = length s ≡ 1960

pub length_slot : (s : List ℤ) (i : ℕ) → length (slot s i) ≡ 245
unfolding slot
length_slot s i = length_part s _ 245

slot_same : (s r : List ℤ) (i j : ℕ) → ((k : ℕ) → k < 245 → at s (245 * i + k) ≡ at r (245 * j + k)) → slot s i ≡ slot r j
unfolding slot part
slot_same s r i j h = tab_same 245 (λ k. at s (245 * i + k)) (λ k. at r (245 * j + k)) h

-- its first word
first_word : (s : List ℤ) (i : ℕ) → at (slot s i) 0 ≡ fit s i
unfolding slot part
first_word s i = at_tab (λ k. at s (245 * i + k)) 245 0 (lit< tt) ∙ ap (at s) (add-zero (245 * i))

module _ (s x : List ℤ) (i : ℕ) (eight : Eight s) (below : i < 8) where
  put_slot : length x ≡ 245 → slot (put s (245 * i) x) i ≡ x
  unfolding slot part
  put_slot l =
      tab_same 245 (λ k. at (put s (245 * i) x) (245 * i + k)) (at x) (λ k h. put_in s x (245 * i) (omega arith) k (omega arith))
      ∙ tab_at x 245 (omega arith) ∙ take_all 245 x (omega arith)

  other_slot : length x ≤ 245 → (j : ℕ) → j ≢ i → slot (put s (245 * i) x) j ≡ slot s j
  other_slot l j d = slot_same (put s (245 * i) x) s j j (λ k h. go k h (ltb j i) refl)
    where
      go : (k : ℕ) → k < 245 → (b : Bool) → ltb j i ≡ b → at (put s (245 * i) x) (245 * j + k) ≡ at s (245 * j + k)
      go k h true e = put_before s x (245 * i) (omega arith) (245 * j + k) (omega (arith, ltb-true j i e))
      go k h false e =
          let m : i < j = differ j i d (ltb-false j i e) in
          put_behind s x (245 * i) (omega arith) (245 * j + k) (omega arith)
        where
          differ : (a b : ℕ) → a ≢ b → b ≤ a → b < a
          differ a b p q = omega arith

-- each slot is written with f of it
module _ (f : ℕ → List ℤ → List ℤ) (room : (i : ℕ) (x : List ℤ) → length x ≡ 245 → length (f i x) ≡ 245) where
  abbrev each : ℕ → List ℤ → List ℤ
  each n s = steps (λ i x. put x (245 * i) (f i (slot x i))) n s

  length_each : (n : ℕ) (s : List ℤ) → length (each n s) ≡ length s
  unfolding steps
  length_each zero s = refl
  length_each (suc n) s = length_put (each n s) (f n (slot (each n s) n)) (245 * n) ∙ length_each n s

  module _ (s : List ℤ) (eight : Eight s) where
    each_later : (n : ℕ) → n ≤ 8 → (j : ℕ) → n ≤ j → slot (each n s) j ≡ slot s j
    unfolding steps
    each_later zero l j h = refl
    each_later (suc n) l j h =
        other_slot (each n s) (f n (slot (each n s) n)) n (length_each n s ∙ eight) l (omega (arith, room n (slot (each n s) n) (length_slot (each n s) n))) j (λ e. omega arith)
        ∙ each_later n (omega arith) j (omega arith)

    each_done : (n : ℕ) → n ≤ 8 → (j : ℕ) → j < n → slot (each n s) j ≡ f j (slot s j)
    unfolding steps
    each_done zero l j h = absurd (omega arith)
    each_done (suc n) l j h = go (eqb j n) refl (each_done n (omega arith) j)
      where
        long : length (f n (slot (each n s) n)) ≡ 245
        long = room n (slot (each n s) n) (length_slot (each n s) n)

        go : (b : Bool) → eqb j n ≡ b → (j < n → slot (each n s) j ≡ f j (slot s j)) → slot (put (each n s) (245 * n) (f n (slot (each n s) n))) j ≡ f j (slot s j)
        go true e r =
            subst (λ (i : ℕ). slot (put (each n s) (245 * n) (f n (slot (each n s) n))) i ≡ f i (slot s i)) (sym (eqb-true j n e))
            (put_slot (each n s) (f n (slot (each n s) n)) n (length_each n s ∙ eight) l long ∙ ap (f n) (each_later n (omega arith) n (omega arith)))
        go false e r = other_slot (each n s) (f n (slot (each n s) n)) n (length_each n s ∙ eight) l (omega (arith, long)) j (eqb-false j n e) ∙ r (omega (arith, eqb-false j n e))

-- ---- a slot's signal

slot_room : (x : List ℤ) → Room (slot_signal x)
unfolding slot_signal
slot_room x = record { past = length_part x 1 154; tail = length_part x 235 10 }

module _ (x e z : List ℤ) (c : ℤ) (q : x ≡ c ∷ (e ++ z)) (le : length e ≡ 154) (lz : length z ≡ 90) where
  long : length x ≡ 245
  long = rw q (simp (length-append, le, lz))

  signal_of : slot_signal x ≡ record { past = e; tail = drop 80 z }
  unfolding slot_signal
  signal_of = λ i. record { past = a.0 i; tail = b i }
    where
      a : (part x 1 154 ≡ e) × (drop 155 x ≡ z)
      a = front_part 1 154 x e z (omega (arith, long)) le (ap (drop 1) q)

      b : part x 235 10 ≡ drop 80 z
      b = last_part 235 10 x long ∙ sym (drop-drop 80 155 x) ∙ ap (drop 80) a.1

-- ---- a slot behind a frame

never_less : (x : ℤ) → lt_z x x ≡ false
never_less (pos n) = le-ltb n n (omega arith)
never_less (negsuc n) = le-ltb n n (omega arith)

same_as : (x y : ℤ) → x ≡ y → same x y ≡ true
same_as x y e = rw (e, never_less y)

same_all : (y z : List ℤ) (m : ℕ) → ((k : ℕ) → k < m → at y k ≡ at z (10 + k)) → same_samples y z m ≡ m
unfolding same_samples steps
same_all y z zero h = refl
same_all y z (suc m) h = turn (same_samples y z m) (same_all y z m (λ k l. h k (omega arith)))
  where
    turn : (n : ℕ) → n ≡ m → cond (eqb n m && same (at y m) (at z (10 + m))) (m + 1) n ≡ suc m
    turn n e = rw (eq-eqb n m e, same_as (at y m) (at z (10 + m)) (h m (omega arith))) (add-one m)

module _ (t : List ℤ) (v : Decoded) (y x : List ℤ) where
  abbrev b : Buffers
  b = frame_signal t v.first v.second (slot_signal x)

  tried_none : lt_z (at x 0) (pos 0) ≡ true → tried t v y x ≡ x
  unfolding tried
  tried_none e = ap (λ (c : Bool). cond c x (pos (same_samples y b.speech 80) ∷ (drop 80 b.exc ++ b.speech))) e

  tried_is : lt_z (at x 0) (pos 0) ≡ false → tried t v y x ≡ pos (same_samples y b.speech 80) ∷ (drop 80 b.exc ++ b.speech)
  unfolding tried
  tried_is e = ap (λ (c : Bool). cond c x (pos (same_samples y b.speech 80) ∷ (drop 80 b.exc ++ b.speech))) e

  exc_long : length (drop 80 b.exc) ≡ 154
  exc_long = (kept_room t v.first v.second (slot_signal x) (slot_room x)).past

  speech_long : length b.speech ≡ 90
  speech_long = omega (arith, length-drop 80 b.speech, (kept_room t v.first v.second (slot_signal x) (slot_room x)).tail)

  length_tried : length x ≡ 245 → length (tried t v y x) ≡ 245
  length_tried l = go (lt_z (at x 0) (pos 0)) refl
    where
      go : (c : Bool) → lt_z (at x 0) (pos 0) ≡ c → length (tried t v y x) ≡ 245
      go true e = ap length (tried_none e) ∙ l
      go false e = long (tried t v y x) (drop 80 b.exc) b.speech (pos (same_samples y b.speech 80)) (tried_is e) exc_long speech_long

  tried_signal : lt_z (at x 0) (pos 0) ≡ false → slot_signal (tried t v y x) ≡ kept t v.first v.second (slot_signal x)
  tried_signal e = signal_of (tried t v y x) (drop 80 b.exc) b.speech (pos (same_samples y b.speech 80)) (tried_is e) exc_long speech_long

  -- where y is what the candidate gives
  tried_fits : lt_z (at x 0) (pos 0) ≡ false → y ≡ frame_samples t v.first v.second (slot_signal x) → at (tried t v y x) 0 ≡ pos 80
  tried_fits e q =
      ap (λ (l : List ℤ). at l 0) (tried_is e)
      ∙ ap pos (same_all y b.speech 80 (λ k h. ap (λ (l : List ℤ). at l k) q ∙ get_or-drop 10 b.speech k (pos 0)))

-- ---- the candidates of a window

length_shrunk_before : (h : Bool) (n : ℕ) (w : List ℤ) → length (shrunk_before h n w) ≡ length w
unfolding shrunk_before
length_shrunk_before h n w = simp (length-append, length_shrunk, length-take, length-drop) (omega arith)

length_window : (h2 h3 h4 : Bool) (w : List ℤ) → length w ≡ 160 → length (window_words h2 h3 h4 w) ≡ 154
unfolding window_words
length_window h2 h3 h4 w l = simp (length-drop, length_shrunk_before, l)

module _ (w e : List ℤ) (lw : length w ≡ 160) (le : length e ≡ 10) (i : ℕ) where
  abbrev flag2 : Bool
  flag2 = eqb (i % 2) 1

  abbrev flag3 : Bool
  flag3 = eqb (i / 2 % 2) 1

  abbrev flag4 : Bool
  flag4 = eqb (i / 4 % 2) 1

  candidate_is : candidate w e i ≡ pos 0 ∷ (window_words flag2 flag3 flag4 w ++ (replicate 80 (pos 0) ++ e))
  unfolding candidate
  candidate_is = refl

  behind : length (replicate 80 (pos 0) ++ e) ≡ 90
  behind = length-append (replicate 80 (pos 0)) e ∙ ap (λ (n : ℕ). length (replicate 80 (pos 0)) + n) le

  length_candidate : length (candidate w e i) ≡ 245
  length_candidate = long (candidate w e i) (window_words flag2 flag3 flag4 w) (replicate 80 (pos 0) ++ e) (pos 0) candidate_is (length_window flag2 flag3 flag4 w lw) behind

  candidate_signal : slot_signal (candidate w e i) ≡ record { past = window_words flag2 flag3 flag4 w; tail = e }
  candidate_signal =
      signal_of (candidate w e i) (window_words flag2 flag3 flag4 w) (replicate 80 (pos 0) ++ e) (pos 0) candidate_is (length_window flag2 flag3 flag4 w lw) behind
      ∙ ap (λ (z : List ℤ). record { past = window_words flag2 flag3 flag4 w; tail = z }) (drop_at (replicate 80 (pos 0)) e 80 (length-replicate 80 (pos 0)))

  candidate_there : at (candidate w e i) 0 ≡ pos 0
  candidate_there = ap (λ (l : List ℤ). at l 0) candidate_is

-- the candidate of three bits
record Numbered (second third fourth : Bool) : Type 0 where
  place : ℕ
  below : place < 8
  bit_2 : eqb (place % 2) 1 ≡ second
  bit_3 : eqb (place / 2 % 2) 1 ≡ third
  bit_4 : eqb (place / 4 % 2) 1 ≡ fourth

numbered : (second third fourth : Bool) → Numbered second third fourth
numbered false false false = record { place = 0; below = lit< tt; bit_2 = refl; bit_3 = refl; bit_4 = refl }
numbered true false false = record { place = 1; below = lit< tt; bit_2 = refl; bit_3 = refl; bit_4 = refl }
numbered false true false = record { place = 2; below = lit< tt; bit_2 = refl; bit_3 = refl; bit_4 = refl }
numbered true true false = record { place = 3; below = lit< tt; bit_2 = refl; bit_3 = refl; bit_4 = refl }
numbered false false true = record { place = 4; below = lit< tt; bit_2 = refl; bit_3 = refl; bit_4 = refl }
numbered true false true = record { place = 5; below = lit< tt; bit_2 = refl; bit_3 = refl; bit_4 = refl }
numbered false true true = record { place = 6; below = lit< tt; bit_2 = refl; bit_3 = refl; bit_4 = refl }
numbered true true true = record { place = 7; below = lit< tt; bit_2 = refl; bit_3 = refl; bit_4 = refl }

-- ---- a slot that holds a signal

pub record Right (s : List ℤ) (x : Signal) : Type 0 where
  pub place : ℕ
  pub below : place < 8
  -- there is a candidate
  pub there : lt_z (at (slot s place) 0) (pos 0) ≡ false
  pub is : slot_signal (slot s place) ≡ x

-- it is among the candidates of a window that left the signal
pub right_taken : (w e s : List ℤ) → length w ≡ 160 → length e ≡ 10 → Eight s → (x : Signal) → LeftByTwo w x.past → e ≡ x.tail → Right (candidates w e s) x
unfolding candidates
right_taken w e s lw le eight x o g =
    record {
      place = n.place;
      below = n.below;
      there = rw (now, candidate_there w e lw le n.place);
      is = ap slot_signal now ∙ candidate_signal w e lw le n.place ∙ (λ i. record { past = words i; tail = g i });
    }
  where
    n : Numbered o.second o.third o.fourth
    n = numbered o.second o.third o.fourth

    now : slot (candidates w e s) n.place ≡ candidate w e n.place
    now = each_done (λ i y. candidate w e i) (λ i y l. length_candidate w e lw le i) s eight 8 (omega arith) n.place n.below

    words : window_words (eqb (n.place % 2) 1) (eqb (n.place / 2 % 2) 1) (eqb (n.place / 4 % 2) 1) w ≡ x.past
    words = (λ i. window_words (n.bit_2 i) (n.bit_3 i) (n.bit_4 i) w) ∙ sym o.is

-- behind a frame that a decoder with this signal gives, and which is the frame y: the slot fits, and has the signal that the decoder then has
pub record Fitting (s : List ℤ) (x : Signal) : Type 0 where
  pub place : ℕ
  pub below : place < 8
  pub fit : at (slot s place) 0 ≡ pos 80
  pub is : slot_signal (slot s place) ≡ x

pub right_tried : (t : List ℤ) (v : Decoded) (y s : List ℤ) (x : Signal) → Eight s → Right s x → y ≡ frame_samples t v.first v.second x
    → Fitting (all_tried t v y s) (kept t v.first v.second x)
unfolding all_tried
right_tried t v y s x eight r e =
    record {
      place = r.place;
      below = r.below;
      fit = ap (λ (l : List ℤ). at l 0) now ∙ tried_fits t v y (slot s r.place) r.there (e ∙ ap (λ (z : Signal). frame_samples t v.first v.second z) (sym r.is));
      is = ap slot_signal now ∙ tried_signal t v y (slot s r.place) r.there ∙ ap (λ (z : Signal). kept t v.first v.second z) r.is;
    }
  where
    now : slot (all_tried t v y s) r.place ≡ tried t v y (slot s r.place)
    now = each_done (λ i x. tried t v y x) (λ i x l. length_tried t v y x l) s eight 8 (omega arith) r.place r.below

-- behind a frame y that may be any: the slot has the signal that the decoder then has
pub right_on : (t : List ℤ) (v : Decoded) (y s : List ℤ) (x : Signal) → Eight s → Right s x → Right (all_tried t v y s) (kept t v.first v.second x)
unfolding all_tried
right_on t v y s x eight r =
    record {
      place = r.place;
      below = r.below;
      there = ap (λ (l : List ℤ). lt_z (at l 0) (pos 0)) (now ∙ tried_is t v y (slot s r.place) r.there) ∙ le-ltb (same_samples y (b t v y (slot s r.place)).speech 80) 0 (omega arith);
      is = ap slot_signal now ∙ tried_signal t v y (slot s r.place) r.there ∙ ap (λ (z : Signal). kept t v.first v.second z) r.is;
    }
  where
    now : slot (all_tried t v y s) r.place ≡ tried t v y (slot s r.place)
    now = each_done (λ i x. tried t v y x) (λ i x l. length_tried t v y x l) s eight 8 (omega arith) r.place r.below

pub length_all_tried : (t : List ℤ) (v : Decoded) (y s : List ℤ) → length (all_tried t v y s) ≡ length s
unfolding all_tried
length_all_tried t v y s = length_each (λ i x. tried t v y x) (λ i x l. length_tried t v y x l) 8 s

pub length_candidates : (w e s : List ℤ) → length w ≡ 160 → length e ≡ 10 → length (candidates w e s) ≡ length s
unfolding candidates
length_candidates w e s lw le = length_each (λ i y. candidate w e i) (λ i y l. length_candidate w e lw le i) 8 s

-- ---- the best fit

more : (a b : ℤ) → lt_z (pos 79) a ≡ true → lt_z a b ≡ true → lt_z (pos 79) b ≡ true
more (pos a) (pos b) p q = lt-ltb 79 b (omega (arith, ltb-true 79 a p, ltb-true a b q))
more (pos a) (negsuc b) p q = absurd (true≢false (sym q))
more (negsuc a) b p q = absurd (true≢false (sym p))

least : (a b : ℤ) → lt_z (pos 79) b ≡ true → lt_z a b ≡ false → lt_z (pos 79) a ≡ true
least (pos a) (pos b) p q = lt-ltb 79 a (omega (arith, ltb-true 79 b p, ltb-false a b q))
least (negsuc a) (pos b) p q = absurd (true≢false q)
least a (negsuc b) p q = absurd (true≢false (sym p))

abbrev best_of : List ℤ → ℕ → ℕ
best_of s n = steps (λ i j. cond (lt_z (fit s j) (fit s i)) i j) n 0

best_fits : (s : List ℤ) (n i : ℕ) → i < n → fits s i ≡ true → fits s (best_of s n) ≡ true
unfolding steps
best_fits s zero i h f = absurd (omega arith)
best_fits s (suc n) i h f = go (lt_z (fit s (best_of s n)) (fit s n)) refl (eqb i n) refl (λ l. best_fits s n i l f)
  where
    here : eqb i n ≡ true → fits s n ≡ true
    here e = subst (λ (k : ℕ). fits s k ≡ true) (eqb-true i n e) f

    go : (b : Bool) → lt_z (fit s (best_of s n)) (fit s n) ≡ b → (c : Bool) → eqb i n ≡ c → (i < n → fits s (best_of s n) ≡ true) → fits s (cond b n (best_of s n)) ≡ true
    go true e true q r = here q
    go true e false q r = more (fit s (best_of s n)) (fit s n) (r (omega (arith, eqb-false i n q))) e
    go false e true q r = least (fit s (best_of s n)) (fit s n) (here q) e
    go false e false q r = r (omega (arith, eqb-false i n q))

pub fitting_found : (s : List ℤ) (x : Signal) → Fitting s x → fits s (best s) ≡ true
unfolding best
fitting_found s x r = best_fits s 8 r.place r.below (ap (lt_z (pos 79)) (sym (first_word s r.place) ∙ r.fit))

-- ---- those that fit stay

record Somewhere (f : ℕ → Bool) (n : ℕ) : Type 0 where
  place : ℕ
  below : place < n
  holds : f place ≡ true

somewhere : (f : ℕ → Bool) (n : ℕ) → nowhere f n ≡ false → Somewhere f n
unfolding nowhere steps
somewhere f zero e = absurd (true≢false e)
somewhere f (suc n) e = go (f n) refl (λ q. somewhere f n q) e
  where
    go : (b : Bool) → f n ≡ b → (nowhere f n ≡ false → Somewhere f n) → cond b false (nowhere f n) ≡ false → Somewhere f (suc n)
    go true q r g = record { place = n; below = omega arith; holds = q }
    go false q r g = let x = r g in record { place = x.place; below = omega (arith, x.below); holds = x.holds }

neither_less : (x y : ℤ) → lt_z x y || lt_z y x ≡ false → x ≡ y
neither_less x y = by (lt_z x y) (lt_z y x) refl refl
  where
    by : (p q : Bool) → lt_z x y ≡ p → lt_z y x ≡ q → p || q ≡ false → x ≡ y
    by true q e f h = absurd (true≢false h)
    by false true e f h = absurd (true≢false h)
    by false false e f h = most_both x y e f

same_words : (s : List ℤ) (i j : ℕ) → same_slot s i j ≡ true → slot s i ≡ slot s j
unfolding same_slot
same_words s i j e =
    slot_same s s i j (λ k h. neither_less (at s (245 * i + k)) (at s (245 * j + k))
    (nowhere_each (λ k. lt_z (at s (245 * i + k)) (at s (245 * j + k)) || lt_z (at s (245 * j + k)) (at s (245 * i + k))) 245 k e h))

-- some slot has these words
record Held (s z : List ℤ) : Type 0 where
  place : ℕ
  below : place < 8
  is : slot s place ≡ z

module _ (s z : List ℤ) (n : ℕ) (eight : Eight s) (below : n < 8) (fit_z : lt_z (pos 79) (at z 0) ≡ true) (h : Held s z) where
  abbrev emptied : List ℤ
  emptied = put s (245 * n) (negsuc 0 ∷ [])

  still : (j : ℕ) → j < 8 → j ≢ n → slot s j ≡ z → Held emptied z
  still j l d e = record { place = j; below = l; is = other_slot s (negsuc 0 ∷ []) n eight below (omega arith) j d ∙ e }

  -- a slot that is emptied has a candidate that an earlier one has
  twin : slot s n ≡ z → stays s n ≡ false → Held emptied z
  unfolding stays
  twin e q = still x.place (omega (arith, x.below)) (λ g. omega (arith, x.below)) (same_words s x.place n both.1 ∙ e)
    where
      fit_n : fits s n ≡ true
      fit_n = ap (lt_z (pos 79)) (sym (first_word s n) ∙ ap (λ (l : List ℤ). at l 0) e) ∙ fit_z

      hit : nowhere (λ j. fits s j && same_slot s j n) n ≡ false
      hit = ap (λ (b : Bool). b && nowhere (λ j. fits s j && same_slot s j n) n) (sym fit_n) ∙ q

      x : Somewhere (λ j. fits s j && same_slot s j n) n
      x = somewhere (λ j. fits s j && same_slot s j n) n hit

      both : (fits s x.place ≡ true) × (same_slot s x.place n ≡ true)
      both = (and-eq-true_iff (fits s x.place) (same_slot s x.place n)).0 x.holds

  kept_held : Held (cond (stays s n) s emptied) z
  kept_held = go (stays s n) refl (eqb h.place n) refl
    where
      go : (b : Bool) → stays s n ≡ b → (c : Bool) → eqb h.place n ≡ c → Held (cond b s emptied) z
      go true e c q = h
      go false e true q = twin (ap (slot s) (sym (eqb-true h.place n q)) ∙ h.is) e
      go false e false q = still h.place h.below (eqb-false h.place n q) h.is

abbrev fitting_of : ℕ → List ℤ → List ℤ
fitting_of n s = steps (λ i x. cond (stays x i) x (put x (245 * i) (negsuc 0 ∷ []))) n s

length_fitting : (n : ℕ) (s : List ℤ) → length (fitting_of n s) ≡ length s
unfolding steps
length_fitting zero s = refl
length_fitting (suc n) s = go (stays (fitting_of n s) n) (length_fitting n s)
  where
    go : (b : Bool) → length (fitting_of n s) ≡ length s → length (cond b (fitting_of n s) (put (fitting_of n s) (245 * n) (negsuc 0 ∷ []))) ≡ length s
    go true e = e
    go false e = length_put (fitting_of n s) (negsuc 0 ∷ []) (245 * n) ∙ e

pub length_only_fitting : (s : List ℤ) → length (only_fitting s) ≡ length s
unfolding only_fitting
length_only_fitting s = length_fitting 8 s

held_on : (n : ℕ) → n ≤ 8 → (s z : List ℤ) → Eight s → lt_z (pos 79) (at z 0) ≡ true → Held s z → Held (fitting_of n s) z
unfolding steps
held_on zero l s z eight f h = h
held_on (suc n) l s z eight f h = kept_held (fitting_of n s) z n (length_fitting n s ∙ eight) l f (held_on n (omega arith) s z eight f h)

pub fitting_stays : (s : List ℤ) (x : Signal) → Eight s → Fitting s x → Right (only_fitting s) x
unfolding only_fitting
fitting_stays s x eight r =
    let h = held_on 8 (omega arith) s (slot s r.place) eight (rw r.fit) (record { place = r.place; below = r.below; is = refl }) in
    record { place = h.place; below = h.below; there = rw (h.is, r.fit); is = ap slot_signal h.is ∙ r.is }

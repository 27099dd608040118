-- What the samples of a frame tell of the excitation that it leaves. Assumes nothing.
use Rattle.std.specs.Prelude.{ℕ, zero, suc, ◌+◌, ◌-◌, ◌≤◌, ◌<◌, ◌≡◌, Bool, ltb, ℤ, pos, length, drop, replicate}
use Rattle.std.proofs.Math.Path.{refl, sym, ap, ap₂, subst}
use Rattle.std.proofs.Common.{◌∙◌, length-append, length-drop, take-append-drop, take_all, drop-drop, get_or-drop, ltb-true, ltb-false}
use Rattle.std.proofs.Math.Bool.{true, false}
use mathlib.Core.List.{List, [], ◌∷◌, ◌++◌, map, map-append}
use native.Mathlib.Omega.{arith}
use Rattle.std.proofs.Math.ListN.{take, length-replicate, get_or-append}
use Rattle.std.proofs.Math.Seq.{take-add, take_at, drop_at}
use Rattle.std.proofs.lemmas.List.{take-set-le}
use Rattle.std.specs.Int.Signed.{mag}
use Rattle.laws.specs.Lists.{at, tab_at, tab_part, tab_same}
use Rattle.laws.specs.Loops.{run, run_out, length_run}
use Rattle.block.specs.Places.{past_length, tail_length, frame_length, exc_start, speech_start}
use Rattle.tables.specs.Layout.{b30}
use Rattle.adaptive.specs.Adaptive.{adaptive_vector}
use Rattle.synth_filter.specs.Filter.{synthesis, samples, saturates}
use Rattle.synth.specs.Synth.{excitation, divide_by_4, reconstruct_exc, reconstruct_speech}
use Rattle.synth.specs.Laws.{length_excitation, length_reconstruct_speech}
use Rattle.inverse.specs.Inverse.{inverse, Inside, inside, bounded, subframe_words, frame_words, shrunk, word}
use Rattle.inverse.specs.Laws.{inside_each}
use Rattle.inverse.specs.Window.{LeftByOne, LeftByTwo, length_shrunk, length_words, length_frame_words}
use Rattle.inverse.proofs.Window.{two_left}
use Rattle.inverse.specs.Subframe.{run_word, sample_word, excitation_words}
use Rattle.inverse.proofs.Subframe.{words_same, reconstruct_inverse, words_fit}
use Rattle.state.specs.State.{Signal}
use Rattle.parameters.specs.declared.Subframe.{Subframe}
use Rattle.decoder.specs.declared.Buffers.{Buffers}
use Rattle.decoder.specs.Frame.{frame_buffers, subframe_signal, frame_signal}

-- ---- lists

take_map : (f : ℤ → ℤ) (n : ℕ) (l : List ℤ) → take n (map f l) ≡ map f (take n l)
take_map f zero l = refl
take_map f (suc n) [] = refl
take_map f (suc n) (x ∷ l) = ap (λ (r : List ℤ). f x ∷ r) (take_map f n l)

take_run : (f : ℕ → List ℤ → ℤ) (p n : ℕ) (l : List ℤ) → take p (run f p n l) ≡ take p l
unfolding run
take_run f p zero l = refl
take_run f p (suc n) l = take-set-le p (run f p n l) (p + n) (f n (run f p n l)) (omega arith) ∙ take_run f p n l

take_shrunk : (b : Bool) (n : ℕ) (l : List ℤ) → take n (shrunk b l) ≡ shrunk b (take n l)
unfolding shrunk divide_by_4
take_shrunk true n l = take_map _ n l
take_shrunk false n l = refl

-- ---- a subframe

module _ (t : List ℤ) (second : Bool) (v : Subframe) (b : Buffers) where
  vector : List ℤ
  vector = adaptive_vector (b30 t) second v.delay.integer v.delay.fraction b.exc

  length_vector : length vector ≡ length b.exc
  unfolding vector adaptive_vector
  length_vector = length_run _ _ 40 b.exc

  -- the excitation before synthesis, and whether its synthesis saturates
  excited : List ℤ
  excited = excitation second v.code v.gp v.gc vector

  pub shrinks : Bool
  shrinks = saturates second v.a excited b.speech

  exc_is : (subframe_signal t second v b).exc ≡ shrunk shrinks excited
  unfolding subframe_signal vector excited shrinks shrunk reconstruct_exc
  exc_is = refl

  length_excited : length excited ≡ length b.exc
  unfolding excited
  length_excited = length_excitation second v.code v.gp v.gc vector ∙ length_vector

  take_excited : take (exc_start second) excited ≡ take (exc_start second) b.exc
  unfolding vector excited excitation adaptive_vector
  take_excited = take_run _ (exc_start second) 40 _ ∙ take_run _ (exc_start second) 40 b.exc

  kept_speech : (j : ℕ) → j < speech_start second → at (subframe_signal t second v b).speech j ≡ at b.speech j
  unfolding subframe_signal reconstruct_speech synthesis samples
  kept_speech j h = run_out _ (speech_start second) 40 b.speech j (λ i l e. omega arith)

  length_exc : length (subframe_signal t second v b).exc ≡ length b.exc
  length_exc = ap length exc_is ∙ length_shrunk shrinks excited ∙ length_excited

  length_speech : length (subframe_signal t second v b).speech ≡ length b.speech
  unfolding subframe_signal
  length_speech = length_reconstruct_speech second v.a _ b.speech

  module _ (head : at v.a 0 ≡ pos 4096) (bound : bounded v.a ≡ true) (hexc : exc_start second + 40 ≤ length b.exc) (hspeech : speech_start second + 40 ≤ length b.speech)
      (before : (j : ℕ) → j < speech_start second → mag (at b.speech j) < 32768)
      (clean : (k : ℕ) → k < 40 → Inside (at (subframe_signal t second v b).speech (speech_start second + k))) where
    words : (j : ℕ) → j < 40 → mag (at excited (exc_start second + j)) < 32768
    unfolding excited
    words j l = excitation_words second v.code v.gp v.gc vector (omega (arith, length_vector)) j l

    word_is : (k : ℕ) → k < 40 → at (subframe_signal t second v b).exc (exc_start second + k) ≡ inverse v.a (subframe_signal t second v b).speech (speech_start second + k)
    unfolding subframe_signal vector excited
    word_is k h = sym (reconstruct_inverse second v.a excited b.speech head bound hspeech words before clean k h)

    subframe_fits : map word (subframe_words v.a (subframe_signal t second v b).speech (speech_start second)) ≡ subframe_words v.a (subframe_signal t second v b).speech (speech_start second)
    unfolding subframe_signal vector excited
    subframe_fits = words_fit second v.a excited b.speech head bound hspeech words before clean

    front : take (exc_start second + 40) (subframe_signal t second v b).exc ≡
        shrunk shrinks (take (exc_start second) b.exc) ++ subframe_words v.a (subframe_signal t second v b).speech (speech_start second)
    unfolding subframe_words
    front =
        take-add (exc_start second) 40 (subframe_signal t second v b).exc
        ∙ ap₂ (λ (x y : List ℤ). x ++ y)
        (ap (take (exc_start second)) exc_is ∙ take_shrunk shrinks (exc_start second) excited ∙ ap (shrunk shrinks) take_excited)
        (sym (tab_part (subframe_signal t second v b).exc (exc_start second) 40 (omega (arith, length_exc))) ∙ tab_same 40 _ _ word_is)

-- ---- a frame

-- room for what a frame reads
pub record Room (s : Signal) : Type 0 where
  pub past : length s.past ≡ past_length
  pub tail : length s.tail ≡ tail_length

-- the ten samples before a frame are words
abbrev pub Words : Signal → Type 0
Words s = (j : ℕ) → j < tail_length → mag (at s.tail j) < 32768

module _ (t : List ℤ) (v1 v2 : Subframe) (s : Signal) where
  abbrev b0 : Buffers
  b0 = frame_buffers s

  abbrev b1 : Buffers
  b1 = subframe_signal t false v1 b0

  abbrev b2 : Buffers
  b2 = frame_signal t v1 v2 s

  -- whether each subframe is shrunk
  pub first_shrinks : Bool
  first_shrinks = shrinks t false v1 b0

  pub second_shrinks : Bool
  second_shrinks = shrinks t true v2 b1

  -- the frame's 80 samples, and the signal that it leaves
  abbrev pub frame_samples : List ℤ
  frame_samples = drop tail_length b2.speech

  abbrev pub kept : Signal
  kept = record { past = drop frame_length b2.exc; tail = drop frame_length b2.speech }

  second_is : b2 ≡ subframe_signal t true v2 b1
  unfolding frame_signal
  second_is = refl

  module _ (room : Room s) where
    exc_0 : length b0.exc ≡ 234
    unfolding frame_buffers
    exc_0 = simp (length-append, length-replicate, room.past)

    speech_0 : length b0.speech ≡ 90
    unfolding frame_buffers
    speech_0 = simp (length-append, length-replicate, room.tail)

    exc_1 : length b1.exc ≡ 234
    exc_1 = length_exc t false v1 b0 ∙ exc_0

    speech_1 : length b1.speech ≡ 90
    speech_1 = length_speech t false v1 b0 ∙ speech_0

    pub exc_2 : length b2.exc ≡ 234
    exc_2 = ap (λ (x : Buffers). length x.exc) second_is ∙ length_exc t true v2 b1 ∙ exc_1

    speech_2 : length b2.speech ≡ 90
    speech_2 = ap (λ (x : Buffers). length x.speech) second_is ∙ length_speech t true v2 b1 ∙ speech_1

    taken : take 154 b0.exc ≡ s.past
    unfolding frame_buffers
    taken = take_at s.past (replicate 80 (pos 0)) 154 room.past

    -- the ten words before the frame
    ten_0 : (j : ℕ) → j < 10 → at b0.speech j ≡ at s.tail j
    unfolding frame_buffers
    ten_0 j h = get_or-append s.tail (replicate 80 (pos 0)) (pos 0) j (omega (arith, room.tail))

    kept_1 : (j : ℕ) → j < 10 → at b1.speech j ≡ at b0.speech j
    kept_1 j h = kept_speech t false v1 b0 j h

    kept_2 : (j : ℕ) → j < 50 → at b2.speech j ≡ at b1.speech j
    kept_2 j h = ap (λ (x : Buffers). at x.speech j) second_is ∙ kept_speech t true v2 b1 j h

    -- the ten samples before the frame, and the frame's own
    pub speech_is : b2.speech ≡ s.tail ++ frame_samples
    speech_is = sym (take-append-drop 10 b2.speech) ∙ ap (λ (x : List ℤ). x ++ frame_samples) front_ten
      where
        front_ten : take 10 b2.speech ≡ s.tail
        front_ten =
            sym (tab_at b2.speech 10 (omega (arith, speech_2))) ∙ tab_same 10 (at b2.speech) (at s.tail) (λ k h. kept_2 k (omega arith) ∙ kept_1 k h ∙ ten_0 k h)
            ∙ tab_at s.tail 10 (omega (arith, room.tail)) ∙ take_all 10 s.tail (omega (arith, room.tail))

    pub kept_room : Room kept
    kept_room = record { past = simp (length-drop, exc_2); tail = simp (length-drop, speech_2) }

    -- the last ten samples
    pub kept_tail : kept.tail ≡ drop 70 frame_samples
    kept_tail = sym (drop-drop 70 10 b2.speech)

    -- they are words, whatever was before
    pub kept_words : Words kept
    unfolding frame_signal subframe_signal reconstruct_speech synthesis samples
    kept_words j h =
        rw (get_or-drop 80 b2.speech j (pos 0))
        (let q : 50 + (30 + j) ≡ 80 + j = omega arith in
        subst (λ (i : ℕ). mag (at b2.speech i) < 32768) q
        (rw (run_word _ 50 40 (30 + j) b1.speech (omega (arith, speech_1)) (omega arith)) (sample_word _ _ _ _)))

-- ---- a frame that tells its excitation: the coefficients in bound, the samples inside their range

pub record Clean (t : List ℤ) (v1 v2 : Subframe) (s : Signal) : Type 0 where
  pub room : Room s
  pub words : Words s
  -- a0 is 4096 in Q12, as `lsp_to_lp` always gives it
  pub head_1 : at v1.a 0 ≡ pos 4096
  pub head_2 : at v2.a 0 ≡ pos 4096
  pub bound_1 : bounded v1.a ≡ true
  pub bound_2 : bounded v2.a ≡ true
  pub inside : inside (frame_samples t v1 v2 s) frame_length ≡ true

module _ (t : List ℤ) (v1 v2 : Subframe) (s : Signal) (c : Clean t v1 v2 s) where
  abbrev y1 : List ℤ
  y1 = (subframe_signal t false v1 (frame_buffers s)).speech

  abbrev y2 : List ℤ
  y2 = (frame_signal t v1 v2 s).speech

  clean_2 : (k : ℕ) → k < 80 → Inside (at y2 (10 + k))
  clean_2 k h = subst Inside (get_or-drop 10 y2 k (pos 0)) (inside_each (frame_samples t v1 v2 s) 80 c.inside k h)

  clean_1 : (k : ℕ) → k < 40 → Inside (at y1 (10 + k))
  clean_1 k h = subst Inside (kept_2 t v1 v2 s c.room (10 + k) (omega arith)) (clean_2 k (omega arith))

  late : (k : ℕ) → k < 40 → Inside (at y2 (50 + k))
  late k h = let q : 10 + (40 + k) ≡ 50 + k = omega arith in subst (λ (i : ℕ). Inside (at y2 i)) q (clean_2 (40 + k) (omega arith))

  before_1 : (j : ℕ) → j < 10 → mag (at (frame_buffers s).speech j) < 32768
  before_1 j h = rw (ten_0 t v1 v2 s c.room j h) (c.words j h)

  before_2 : (j : ℕ) → j < 50 → mag (at y1 j) < 32768
  before_2 j h = go (ltb j 10) refl
    where
      go : (x : Bool) → ltb j 10 ≡ x → mag (at y1 j) < 32768
      go true e = let l = ltb-true j 10 e in rw (kept_1 t v1 v2 s c.room j l, ten_0 t v1 v2 s c.room j l) (c.words j l)
      go false e =
          let l = ltb-false j 10 e in
          let q : 10 + (j - 10) ≡ j = omega arith in
          let r : Inside (at y1 j) = subst (λ (i : ℕ). Inside (at y1 i)) q (clean_1 (j - 10) (omega arith)) in
          omega arith

  -- the words of each subframe
  abbrev pub words_1 : List ℤ
  words_1 = subframe_words v1.a (s.tail ++ frame_samples t v1 v2 s) 10

  abbrev pub words_2 : List ℤ
  words_2 = subframe_words v2.a (s.tail ++ frame_samples t v1 v2 s) 50

  same_1 : subframe_words v1.a y1 10 ≡ words_1
  same_1 = words_same v1.a y1 y2 10 (omega arith) (λ j h. sym (kept_2 t v1 v2 s c.room j h)) ∙ ap (λ (y : List ℤ). subframe_words v1.a y 10) (speech_is t v1 v2 s c.room)

  same_2 : subframe_words v2.a y2 50 ≡ words_2
  same_2 = ap (λ (y : List ℤ). subframe_words v2.a y 50) (speech_is t v1 v2 s c.room)

  first_front : take 194 (subframe_signal t false v1 (frame_buffers s)).exc ≡ shrunk (first_shrinks t v1 v2 s) s.past ++ words_1
  unfolding first_shrinks
  first_front =
      front t false v1 (frame_buffers s) c.head_1 c.bound_1 (omega (arith, exc_0 t v1 v2 s c.room)) (omega (arith, speech_0 t v1 v2 s c.room)) before_1 clean_1
      ∙ ap₂ (λ (x y : List ℤ). shrunk (shrinks t false v1 (frame_buffers s)) x ++ y) past_0 same_1
    where
      past_0 : take 154 (frame_buffers s).exc ≡ s.past
      past_0 = taken t v1 v2 s c.room

  -- the frame's 234 words of excitation
  pub frame_exc : (frame_signal t v1 v2 s).exc ≡ shrunk (second_shrinks t v1 v2 s) (shrunk (first_shrinks t v1 v2 s) s.past ++ words_1) ++ words_2
  unfolding second_shrinks frame_signal
  frame_exc =
      sym (take_all 234 (frame_signal t v1 v2 s).exc (omega (arith, exc_2 t v1 v2 s c.room)))
      ∙ front t true v2 (subframe_signal t false v1 (frame_buffers s)) c.head_2 c.bound_2 (omega (arith, exc_1 t v1 v2 s c.room)) (omega (arith, speech_1 t v1 v2 s c.room)) before_2 late
      ∙ ap₂ (λ (x y : List ℤ). shrunk (shrinks t true v2 (subframe_signal t false v1 (frame_buffers s))) x ++ y) first_front same_2

  -- what the samples tell
  abbrev pub told : List ℤ
  told = frame_words v1.a v2.a (s.tail ++ frame_samples t v1 v2 s)

  -- kept in 16 bits it is the same
  pub frame_fits : map word told ≡ told
  unfolding frame_words frame_signal
  frame_fits =
      map-append word words_1 words_2
      ∙ ap₂ (λ (x y : List ℤ). x ++ y)
      (subst (λ (w : List ℤ). map word w ≡ w) same_1
      (subframe_fits t false v1 (frame_buffers s) c.head_1 c.bound_1 (omega (arith, exc_0 t v1 v2 s c.room)) (omega (arith, speech_0 t v1 v2 s c.room)) before_1 clean_1))
      (subst (λ (w : List ℤ). map word w ≡ w) same_2
      (subframe_fits t true v2 (subframe_signal t false v1 (frame_buffers s)) c.head_2 c.bound_2 (omega (arith, exc_1 t v1 v2 s c.room)) (omega (arith, speech_1 t v1 v2 s c.room)) before_2 late))

  -- the past excitation that the frame leaves
  kept_past : (kept t v1 v2 s).past ≡ drop 80 (shrunk (second_shrinks t v1 v2 s) (shrunk (first_shrinks t v1 v2 s) s.past ++ take 40 told) ++ drop 40 told)
  unfolding frame_words
  kept_past = ap (drop 80) (frame_exc) ∙ rw (take_at words_1 words_2 40 (length_words v1.a _ 10), drop_at words_1 words_2 40 (length_words v1.a _ 10))

  pub left_by_one : LeftByOne told (kept t v1 v2 s).past
  left_by_one = record { before = s.past; room = c.room.past; first = first_shrinks t v1 v2 s; second = second_shrinks t v1 v2 s; is = kept_past }

  -- behind a frame of the words w
  pub left_by_two : (w : List ℤ) → length w ≡ 80 → LeftByOne w s.past → LeftByTwo (w ++ told) (kept t v1 v2 s).past
  left_by_two w l o = rw kept_past (two_left (first_shrinks t v1 v2 s) (second_shrinks t v1 v2 s) w told s.past l (length_frame_words _ _ _) o)

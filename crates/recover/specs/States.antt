-- What the samples of a decoder's frames tell of the state that they leave. Assumes nothing.
use Rattle.std.specs.Prelude.{◌≡◌, Bool, true, pos, length, drop}
use Rattle.std.proofs.Math.Path.{refl, ap}
use Rattle.std.proofs.Common.{sym, subst, ◌∙◌, arith, lit≤}
use mathlib.Core.List.{List, [], ◌++◌, map}
use Rattle.std.proofs.Math.IntN.{ℤ}
use Rattle.laws.specs.Lists.{at, at_tab}
use Rattle.bitstream.specs.declared.SpeechParams.{SpeechParams}
use Rattle.bitstream.specs.Fields.{unpack}
use Rattle.lpc.specs.Lpc.{lsp_to_lp, coefficient}
use Rattle.inverse.specs.Inverse.{inside, bounded, frame_words, window_words, word}
use Rattle.inverse.specs.Window.{LeftByOne, LeftByTwo, length_frame_words}
use Rattle.state.specs.declared.Params.{Params}
use Rattle.state.specs.State.{Signal, State}
use Rattle.parameters.specs.Parameters.{voice}
use Rattle.parameters.specs.Parts.{Parts}
use Rattle.decoder.specs.Frame.{decode}
use Rattle.agreement.specs.Demand.{Call, samples, filters}
use Rattle.agreement.specs.Run.{frame_of, values_of, run}
use Rattle.agreement.proofs.Agree.{voiced, filters_now, Voices, begins, rest, First}
use Rattle.agreement.proofs.Gap.{with_seed, Same, same_agree, same_after}
use Rattle.recover.specs.Frames.{Room, Words, frame_samples, kept, kept_room, kept_tail, kept_words, Clean, frame_fits, left_by_one, left_by_two}
use Rattle.recover.specs.Recovery.{BoundedFilters, InsideSamples, recovered_signal}

-- ---- a voice frame reads all parameters but the seed

module _ (t : List ℤ) (f : SpeechParams) (p q : Params) (e : Same p q) where
  pub voice_first : (voice t f p).first ≡ (voice t f q).first
  unfolding with_seed Parts
  voice_first = ap (λ (x : Params). (voice t f x).first) e.is

  pub voice_second : (voice t f p).second ≡ (voice t f q).second
  unfolding with_seed Parts
  voice_second = ap (λ (x : Params). (voice t f x).second) e.is

  -- and leaves them the same
  pub voice_left : Same (voice t f p).params (voice t f q).params
  unfolding with_seed Parts
  voice_left = record { is = ap (λ (x : Params). with_seed (pos 0) (voice t f x).params) e.is }

-- ---- a0 is 4096

head_is : (q : List ℤ) → at (lsp_to_lp q) 0 ≡ pos 4096
unfolding lsp_to_lp coefficient
head_is q = at_tab (coefficient _ _) 11 0 (omega arith)

pub voice_heads : (t : List ℤ) (f : SpeechParams) (p : Params) → (at (voice t f p).first.a 0 ≡ pos 4096) × (at (voice t f p).second.a 0 ≡ pos 4096)
unfolding Parts
voice_heads t f p = (head_is _, head_is _)

-- ---- a frame of a decoder

-- two decoders whose parameters are the same but for the seed have the same filters in a voice frame
pub same_filters : (c : Call) → c.kind ≡ 0 → (a b : State) → Same a.params b.params → filters (values_of c a) ≡ filters (values_of c b)
same_filters c k a b e = filters_now 5 c k a b (same_agree 5 _ _ e) (λ z. absurd (omega arith)) (lit≤ tt)

moved : (c : Call) (a b : State) → filters (values_of c a) ≡ filters (values_of c b) → BoundedFilters (values_of c a) → BoundedFilters (values_of c b)
moved c a b e h = subst (λ (p : List ℤ × List ℤ). (bounded p.0 ≡ true) × (bounded p.1 ≡ true)) e h

module _ (c : Call) (s : State) where
  -- the signal that it leaves, and its samples
  left_is : (frame_of c s).state.signal ≡ kept c.tables (frame_of c s).decoded.first (frame_of c s).decoded.second s.signal
  unfolding frame_of decode
  left_is = refl

  samples_are : samples (values_of c s) ≡ frame_samples c.tables (frame_of c s).decoded.first (frame_of c s).decoded.second s.signal
  unfolding values_of frame_of decode
  samples_are = refl

  module _ (room : Room s.signal) where
    pub room_after : Room (frame_of c s).state.signal
    room_after = rw left_is (kept_room c.tables (frame_of c s).decoded.first (frame_of c s).decoded.second s.signal room)

    pub tail_after : (frame_of c s).state.signal.tail ≡ drop 70 (samples (values_of c s))
    tail_after = rw (left_is, samples_are) (kept_tail c.tables (frame_of c s).decoded.first (frame_of c s).decoded.second s.signal room)

    pub words_after : Words (frame_of c s).state.signal
    words_after = rw left_is (kept_words c.tables (frame_of c s).decoded.first (frame_of c s).decoded.second s.signal room)

    pub clean_frame : c.kind ≡ 0 → Words s.signal → BoundedFilters (values_of c s) → InsideSamples (values_of c s)
        → Clean c.tables (frame_of c s).decoded.first (frame_of c s).decoded.second s.signal
    unfolding values_of frame_of decode
    clean_frame k words b i =
        let h = voice_heads c.tables (unpack c.payload) s.params in
        let e = voiced c s k in
        record { room = room; words = words; head_1 = rw e h.0; head_2 = rw e h.1; bound_1 = b.0; bound_2 = b.1; inside = i }

-- the excitation that the samples of a frame tell, with the filters f, behind the samples `ten`
abbrev pub told_by : List ℤ × List ℤ → (ten y : List ℤ) → List ℤ
told_by f ten y = frame_words f.0 f.1 (ten ++ y)

-- a clean frame: what it leaves is told
module _ (c : Call) (k : c.kind ≡ 0) (s : State) (room : Room s.signal) (words : Words s.signal) (b : BoundedFilters (values_of c s)) (i : InsideSamples (values_of c s)) where
  pub one_frame : LeftByOne (told_by (filters (values_of c s)) s.signal.tail (samples (values_of c s))) (frame_of c s).state.signal.past
  unfolding values_of frame_of decode
  one_frame = left_by_one c.tables (frame_of c s).decoded.first (frame_of c s).decoded.second s.signal (clean_frame c s room k words b i)

  -- behind a frame of the words w
  pub two_frames : (w : List ℤ) → length w ≡ 80 → LeftByOne w s.signal.past
      → LeftByTwo (w ++ told_by (filters (values_of c s)) s.signal.tail (samples (values_of c s))) (frame_of c s).state.signal.past
  unfolding values_of frame_of decode
  two_frames w l o = left_by_two c.tables (frame_of c s).decoded.first (frame_of c s).decoded.second s.signal (clean_frame c s room k words b i) w l o

  -- kept in 16 bits it is the same
  pub told_fits : map word (told_by (filters (values_of c s)) s.signal.tail (samples (values_of c s))) ≡ told_by (filters (values_of c s)) s.signal.tail (samples (values_of c s))
  unfolding values_of frame_of decode
  told_fits = frame_fits c.tables (frame_of c s).decoded.first (frame_of c s).decoded.second s.signal (clean_frame c s room k words b i)

-- ---- two frames of a decoder

-- a signal that is one of the eight
pub record Recovered (x : Signal) (f g : List ℤ × List ℤ) (ten y z : List ℤ) : Type 0 where
  pub second : Bool
  pub third : Bool
  pub fourth : Bool
  pub is : x ≡ recovered_signal second third fourth f g ten y z

module _ (c1 c2 : Call) (k1 : c1.kind ≡ 0) (k2 : c2.kind ≡ 0) (s : State) (room : Room s.signal) (words : Words s.signal) where
  abbrev next : State
  next = (frame_of c1 s).state

  recovered_now : BoundedFilters (values_of c1 s) → BoundedFilters (values_of c2 next) → InsideSamples (values_of c1 s) → InsideSamples (values_of c2 next)
      → Recovered (frame_of c2 next).state.signal (filters (values_of c1 s)) (filters (values_of c2 next)) s.signal.tail (samples (values_of c1 s)) (samples (values_of c2 next))
  unfolding recovered_signal
  recovered_now b1 b2 i1 i2 =
      record { second = two.second; third = two.third; fourth = two.fourth; is = λ i. record { past = past_is i; tail = tail_after c2 next (room_after c1 s room) i } }
    where
      w1 : List ℤ
      w1 = told_by (filters (values_of c1 s)) s.signal.tail (samples (values_of c1 s))

      two : LeftByTwo (w1 ++ told_by (filters (values_of c2 next)) next.signal.tail (samples (values_of c2 next))) (frame_of c2 next).state.signal.past
      two = two_frames c2 k2 next (room_after c1 s room) (words_after c1 s room) b2 i2 w1 (length_frame_words _ _ _) (one_frame c1 k1 s room words b1 i1)

      past_is : (frame_of c2 next).state.signal.past ≡
          window_words two.second two.third two.fourth (w1 ++ told_by (filters (values_of c2 next)) (drop 70 (samples (values_of c1 s))) (samples (values_of c2 next)))
      past_is =
          two.is
          ∙ ap (λ (ten : List ℤ). window_words two.second two.third two.fourth (w1 ++ told_by (filters (values_of c2 next)) ten (samples (values_of c2 next)))) (tail_after c1 s room)

-- the same with the filters of another decoder whose parameters are the same
module _ (A B : State) (same : Same A.params B.params) (room : Room B.signal) (words : Words B.signal) (c1 c2 : Call) (k1 : c1.kind ≡ 0) (k2 : c2.kind ≡ 0) where
  abbrev A1 : State
  A1 = (frame_of c1 A).state

  abbrev B1 : State
  B1 = (frame_of c1 B).state

  pub seen : BoundedFilters (values_of c1 A) × BoundedFilters (values_of c2 A1) → InsideSamples (values_of c1 B) × InsideSamples (values_of c2 B1)
      → Recovered (frame_of c2 B1).state.signal (filters (values_of c1 A)) (filters (values_of c2 A1)) B.signal.tail (samples (values_of c1 B)) (samples (values_of c2 B1))
  seen b i =
      let f = same_filters c1 k1 A B same in
      let g = same_filters c2 k2 A1 B1 (same_after c1 A B same) in
      let x = recovered_now c1 c2 k1 k2 B room words (moved c1 A B f b.0) (moved c2 A1 B1 g b.1) i.0 i.1 in
      subst (λ (p : (List ℤ × List ℤ) × (List ℤ × List ℤ)). Recovered (frame_of c2 B1).state.signal p.0 p.1 B.signal.tail (samples (values_of c1 B)) (samples (values_of c2 B1)))
      (λ j. (sym f j, sym g j)) x

-- the samples of voice frames, where parameters but the seed and signal are the same
pub same_samples : (cs : List Call) (a b : State) → Voices cs → Same a.params b.params → a.signal ≡ b.signal → map samples (run cs a) ≡ map samples (run cs b)
unfolding First
same_samples cs a b h e g = (rest 5 cs a b h (same_agree 5 _ _ e) (λ z. absurd (omega arith))).samples 0 (lit≤ tt) (begins cs a b g)

-- The theorem of Recovery.antt. Assumes nothing.
use Rattle.std.specs.Prelude.{ℕ, zero, suc, ◌≤◌, ◌≡◌, refl, T, ℤ, pos, length, take}
use Rattle.std.proofs.Math.Path.{sym, ap}
use Rattle.std.proofs.Common.{subst, ◌∙◌, arith}
use Rattle.std.proofs.Math.Bool.{and-eq-true_iff}
use mathlib.Core.List.{List, [], ◌∷◌, map}
use Rattle.std.specs.Float.Ieee.Bits.{is_true}
use Rattle.block.specs.Places.{past_length, tail_length, past_place, tail_place, state_length}
use Rattle.state.specs.State.{Signal, State, read_params, read_signal, read, write, accepted, accepted_state}
use Rattle.state.specs.Laws.{Sized, read_sized, read_write, accepted_write}
use Rattle.agree.specs.Agree.{equal_words, same_parameters}
use Rattle.agree.specs.Laws.{SameParams, Equal, equal_word, joined, part_equal, equal_parameters}
use Rattle.agreement.specs.Demand.{Call, FrameValues, frames, samples, filters, All, VoiceWith}
use Rattle.agreement.specs.Run.{taken, frame_of, values_of, run, state_after, block_after}
use Rattle.agreement.specs.Gap.{received, Common}
use Rattle.agreement.proofs.Runs.{frames_are, accepted_params}
use Rattle.agreement.proofs.Agree.{voices}
use Rattle.agreement.proofs.Seeds.{accepted_left}
use Rattle.agreement.proofs.Gap.{with_seed, Same, params_same, same_after, left_same, received_run}
use Rattle.agreement.proofs.States.{read_left}
use Rattle.recover.specs.Frames.{Room, Words}
use Rattle.recover.specs.Recovery.{BoundedFilters, InsideSamples, CleanWindow, last_ten, candidate, Known, Recovery}
use Rattle.recover.specs.States.{room_after, tail_after, words_after, Recovered, seen, same_samples}

-- ---- a list of frames

room_of : (b : List ℤ) → Room (read b).signal
room_of b = let h = read_sized b in record { past = h.past; tail = h.tail }

words_run : (cs : List Call) (s : State) → Room s.signal → Words s.signal → Words (state_after cs s).signal
unfolding state_after
words_run [] s h w = w
words_run (c ∷ cs) s h w = words_run cs (frame_of c s).state (room_after c s h) (words_after c s h)

-- with at least one frame, the ten samples before it need be no words
some_words : (cs : List Call) (s : State) → Room s.signal → 1 ≤ length cs → Words (state_after cs s).signal
unfolding state_after
some_words [] s h l = absurd (omega arith)
some_words (c ∷ cs) s h l = words_run cs (frame_of c s).state (room_after c s h) (words_after c s h)

tail_run : (cs : List Call) (s : State) → Room s.signal → (state_after cs s).signal.tail ≡ last_ten s.signal.tail (map samples (run cs s))
unfolding state_after run last_ten
tail_run [] s h = refl
tail_run (c ∷ cs) s h = tail_run cs (frame_of c s).state (room_after c s h) ∙ ap (λ (l : List ℤ). last_ten l (map samples (run cs (frame_of c s).state))) (tail_after c s h)

any_ten : (ten : List ℤ) (cs : List Call) (s : State) → 1 ≤ length cs → last_ten ten (map samples (run cs s)) ≡ last_ten [] (map samples (run cs s))
unfolding last_ten run
any_ten ten [] s h = absurd (omega arith)
any_ten ten (c ∷ cs) s h = refl

length_of_run : (cs : List Call) (s : State) → length (run cs s) ≡ length cs
unfolding run
length_of_run [] s = refl
length_of_run (c ∷ cs) s = ap suc (length_of_run cs (frame_of c s).state)

-- ---- on blocks

some : {A : Type 0} {P Q : A → Type 0} → ((x : A) → P x → Q x) → (n : ℕ) (l : List A) → All P l → All Q (take n l)
some f zero l h = tt
some f (suc n) [] h = tt
some f (suc n) (x ∷ l) h = (f x h.0, some f n l h.1)

module _ (t : List ℤ) (before during : List Call) (a b : List ℤ) (w : CleanWindow t before during a b) where
  ok_a : T (accepted_state a)
  ok_a = w.alike.handed.start_a

  ok_b : T (accepted_state b)
  ok_b = w.alike.handed.start_b

  -- the window begins
  a1 : List ℤ
  a1 = block_after before a

  b1 : List ℤ
  b1 = block_after before b

  ok_a1 : T (accepted_state a1)
  unfolding a1
  ok_a1 = accepted_left before a ok_a

  ok_b1 : T (accepted_state b1)
  unfolding b1
  ok_b1 = accepted_left before b ok_b

  common : Common 5 (frames before a) (frames before b)
  common =
      record {
        same = rw (frames_are before a ok_a, frames_are before b ok_b) (received_run (taken before) (read a) ∙ sym (received_run (taken before) (read b)));
        voice = some (λ v h. h.0) 5 (frames before a) w.alike.handed.voice;
        parity = w.alike.parity;
      }

  same : Same (read a1).params (read b1).params
  unfolding a1 b1
  same = rw (read_left before a ok_a, read_left before b ok_b) (left_same before before a b ok_a ok_b common w.settled)

  some_frames : 1 ≤ length (taken before)
  some_frames = omega (arith, w.settled, ap length (frames_are before a ok_a), length_of_run (taken before) (read a))

  words_b : Words (read b1).signal
  unfolding b1
  words_b = rw (read_left before b ok_b) (some_words (taken before) (read b) (room_of b) some_frames)

  ten_is : (read b1).signal.tail ≡ last_ten [] (map samples (frames before b))
  unfolding b1
  ten_is =
      rw (read_left before b ok_b, frames_are before b ok_b) (tail_run (taken before) (read b) (room_of b) ∙ any_ten (read b).signal.tail (taken before) (read b) some_frames)

  -- its two calls
  abbrev c1 : Call
  c1 = w.own_1.call

  abbrev c2 : Call
  c2 = w.own_2.call

  abbrev mid_a : State
  mid_a = (frame_of c1 (read a1)).state

  abbrev mid_b : State
  mid_b = (frame_of c1 (read b1)).state

  calls_are : taken during ≡ c1 ∷ c2 ∷ []
  unfolding a1
  calls_are = sym (received_run (taken during) (read a1)) ∙ ap received (sym (frames_are during a1 ok_a1) ∙ w.own)

  own_both : values_of c1 (read a1) ∷ values_of c2 mid_a ∷ [] ≡ w.own_1 ∷ w.own_2 ∷ []
  unfolding a1 run
  own_both = ap (λ (l : List Call). run l (read a1)) (sym calls_are) ∙ sym (frames_are during a1 ok_a1) ∙ w.own

  far_both : values_of c1 (read b1) ∷ values_of c2 mid_b ∷ [] ≡ w.far_1 ∷ w.far_2 ∷ []
  unfolding b1 run
  far_both = ap (λ (l : List Call). run l (read b1)) (sym calls_are) ∙ sym (frames_are during b1 ok_b1) ∙ w.far

  found : Recovered (frame_of c2 mid_b).state.signal (filters w.own_1) (filters w.own_2) (last_ten [] (map samples (frames before b))) (samples w.far_1) (samples w.far_2)
  found =
      let x1 : values_of c1 (read a1) ≡ w.own_1 = cc own_both in
      let x2 : values_of c2 mid_a ≡ w.own_2 = cc own_both in
      let y1 : values_of c1 (read b1) ≡ w.far_1 = cc far_both in
      let y2 : values_of c2 mid_b ≡ w.far_2 = cc far_both in
      subst (λ (p : FrameValues × (FrameValues × (List ℤ × (FrameValues × FrameValues)))).
      Recovered (frame_of c2 mid_b).state.signal (filters p.0) (filters p.1.0) p.1.1.0 (samples p.1.1.1.0) (samples p.1.1.1.1))
      (λ i. (x1 i, (x2 i, (ten_is i, (y1 i, y2 i)))))
      (seen (read a1) (read b1) same (room_of b1) words_b c1 c2 w.voice.0.0 w.voice.1.0
      (subst BoundedFilters (sym x1) w.filters_bounded.0, subst BoundedFilters (sym x2) w.filters_bounded.1)
      (subst InsideSamples (sym y1) w.samples_inside.0, subst InsideSamples (sym y2) w.samples_inside.1))

  -- and ends
  a2 : List ℤ
  a2 = block_after during a1

  b2 : List ℤ
  b2 = block_after during b1

  ok_a2 : T (accepted_state a2)
  unfolding a2
  ok_a2 = accepted_left during a1 ok_a1

  ok_b2 : T (accepted_state b2)
  unfolding b2
  ok_b2 = accepted_left during b1 ok_b1

  left_a : read a2 ≡ (frame_of c2 mid_a).state
  unfolding a2 state_after
  left_a = read_left during a1 ok_a1 ∙ ap (λ (l : List Call). state_after l (read a1)) calls_are

  left_b : read b2 ≡ (frame_of c2 mid_b).state
  unfolding b2 state_after
  left_b = read_left during b1 ok_b1 ∙ ap (λ (l : List Call). state_after l (read b1)) calls_are

  same_left : Same (read a2).params (read b2).params
  same_left = rw (left_a, left_b) (same_after c2 mid_a mid_b (same_after c1 (read a1) (read b1) same))

  -- the own parameters with the far signal
  joint : State
  joint = record { params = (read a2).params; signal = (read b2).signal }

  joint_sized : Sized joint
  unfolding joint
  joint_sized =
      let x = read_sized a2 in
      let y = read_sized b2 in
      record { r0 = x.r0; r1 = x.r1; r2 = x.r2; r3 = x.r3; omega = x.omega; lsp = x.lsp; mem = x.mem; past = y.past; tail = y.tail }

  joint_read : read (write joint) ≡ joint
  joint_read = read_write joint joint_sized

  joint_ok : T (accepted_state (write joint))
  unfolding joint
  joint_ok = rw (accepted_write joint joint_sized (is_true (accepted (read a2).params) (accepted_params a2 ok_a2))) tt

  joint_samples : (cs : List Call) → All (VoiceWith t) (frames cs a2) → map samples (frames cs b2) ≡ map samples (frames cs (write joint))
  unfolding joint
  joint_samples cs h =
      let v = voices t (taken cs) (read a2) (subst (All (VoiceWith t)) (frames_are cs a2 ok_a2) h) in
      rw (frames_are cs b2 ok_b2, frames_are cs (write joint) joint_ok, joint_read) (sym (same_samples (taken cs) joint (read b2) v same_left refl))

  -- word by word
  joint_params : SameParams (read_params b2) (read_params (write joint))
  unfolding joint read
  joint_params = params_same _ _ (record { is = sym same_left.is ∙ ap (λ (s : State). with_seed (pos 0) s.params) (sym joint_read) })

  joint_signal : read_signal b2 ≡ read_signal (write joint)
  unfolding joint read
  joint_signal = ap (λ (s : State). s.signal) (sym joint_read)

  joint_words : Equal b2 (write joint) 0 62 × Equal b2 (write joint) 63 state_length
  unfolding same_parameters read_signal
  joint_words =
      let c = write joint in
      let e = (and-eq-true_iff (equal_words b2 c 0 62) (equal_words b2 c 63 7)).0 (equal_parameters b2 c joint_params) in
      let p = part_equal b2 c past_place past_length (ap (λ (s : Signal). s.past) joint_signal) in
      let l = part_equal b2 c tail_place tail_length (ap (λ (s : Signal). s.tail) joint_signal) in
      (equal_word b2 c 0 62 e.0, joined b2 c 63 70 234 (equal_word b2 c 63 7 e.1) (joined b2 c 70 224 234 p l))

  joint_is : write joint ≡ candidate w found.second found.third found.fourth
  unfolding joint a1 a2 b1 b2 read
  joint_is = ap (λ (x : Signal). write (record { params = (read a2).params; signal = x })) (ap (λ (s : State). s.signal) left_b ∙ found.is)

  known_of : Known w
  unfolding a1 a2 b1 b2
  known_of =
      record {
        second = found.second;
        third = found.third;
        fourth = found.fourth;
        words = rw (← joint_is) joint_words;
        later = λ cs h. joint_samples cs h ∙ ap (λ (c : List ℤ). map samples (frames cs c)) joint_is;
      }

pub recovery : Recovery
recovery =
    record {
      known = known_of;
      refuted = λ t before during a b w cs h recorded none e. let k = known_of t before during a b w in none k.second k.third k.fourth (sym (k.later cs h) ∙ e);
    }

-- What specs/Needed.antt states, from one table block, two states and two payloads. Five subframes of signal are computed, two of the frame that repeats and three of the window that is shrunk: the far decoder's
-- state is one that the frame leaves as it was, and of the own decoder only the parameters are computed. Assumes nothing.
use Rattle.std.specs.Prelude.{ℕ, zero, suc, ◌+◌, ◌/◌, ◌^◌, ◌≤◌, ◌<◌, ◌≡◌, refl, Bool, true, false, ◌&&◌, List, [], ◌∷◌, ◌++◌, map, ◌≢◌, T, ℤ, pos, negsuc, nat_abs, ◌-ℤ◌, length, drop, take, replicate}
use Rattle.std.proofs.Common.{sym, subst, ◌∙◌, le_refl, zero-mul, arith, lit≤, pow_pos}
use Rattle.std.proofs.Math.Path.{ap}
use Rattle.std.proofs.Math.Nat.{div-eq_of_lt}
use Rattle.std.proofs.Math.IntN.{*ℤ-zero}
use Rattle.std.specs.Int.Signed.{shr_z, mag}
use Rattle.laws.specs.Lists.{at}
use Rattle.laws.specs.Loops as loops
use Rattle.block.specs.Places.{exc_start, speech_start}
use Rattle.basic_op.specs.Ops as op
use Rattle.tables.specs.Layout as layout
use Rattle.tables.specs.Formula as formula
use Rattle.adaptive.specs.Adaptive as adaptive
use Rattle.gain.specs.Gain as gain
use Rattle.synth_filter.specs.Filter as filter
use Rattle.synth_filter.specs.Fast as fast
use Rattle.synth.specs.Synth as synth
use Rattle.inverse.specs.Inverse as inverse
use Rattle.inverse.specs.Inverse.{bounded, inside, shrunk, Inside}
use Rattle.inverse.specs.Laws.{inside_each}
use Rattle.inverse.proofs.Laws.{recovered}
use Rattle.inverse.specs.Subframe.{excitation_words}
use Rattle.state.specs.declared.Params.{Params}
use Rattle.state.specs.State as state
use Rattle.state.specs.State.{Signal, State, read, read_signal, write, fresh, accepted_state}
use Rattle.state.specs.Laws.{read_write, fresh_sized}
use Rattle.bitstream.specs.Fields as bitstream
use Rattle.kind.specs.Kind as kind
use Rattle.plc.specs.Kinds as plc
use Rattle.parameters.specs.Parts.{Parts}
use Rattle.parameters.specs.declared.Subframe.{Subframe}
use Rattle.parameters.specs.declared.Decoded.{Decoded}
use Rattle.decoder.specs.Frame as decoder
use Rattle.decoder.specs.declared.Buffers.{Buffers}
use Rattle.decoder.specs.Frame.{Frame}
use Rattle.agreement.specs.Demand.{Call, FrameValues, frames, samples, filters, All, VoiceWith, PassesParity, words, octets}
use Rattle.agreement.specs.Run.{code, taken, frame_of, values_of, run, state_after, block_after}
use Rattle.agreement.proofs.Compute.{Run}
use Rattle.agreement.proofs.Runs.{frames_are}
use Rattle.agreement.proofs.Seeds.{accepted_fresh, accepted_left}
use Rattle.agreement.proofs.States.{read_left}
use Rattle.agreement.proofs.Witness.{is, apart}
use Rattle.recover.specs.Recovery.{BoundedFilters, InsideSamples, last_ten, recovered_signal}
use Rattle.recover_needed.specs.Quiet.{quiet}
use Rattle.recover_needed.specs.Needed.{WindowAfter, far_signal, told, Met, FiveFrames, Shrunk, OneSample, FullScale, Needed}

-- ---- the table block, the calls, the far decoder's state

unfoldable zeros : ℕ → List ℤ
zeros n = replicate n (pos 0)

-- 0 but: word 1639, the weight of the oldest row in the last frequency, 32767; 1720, the middle of the interpolation filter, 32767; 1751 and 1753, pitch gains of GA, 1.0 and 2.0; 1800, the row of GA for
-- index 1, 1; the initial delay 40; 1876, the scale of frequencies, 64/π; 1877 to 1879, their least, their greatest and their distance: with codebooks of 0 they stand 2300 apart from 1500 on, which gives
-- a filter whose sizes are together 15480
unfoldable tables : List ℤ
tables =
    zeros 1639 ++ (pos 32767 ∷ (zeros 80 ++ (pos 32767 ∷ (zeros 30 ++ (pos 16384 ∷ pos 0 ∷ pos 32767 ∷ (zeros 46 ++ (pos 1 ∷ (zeros 66 ++ (pos 40 ∷ (zeros 8 ++ (pos 20861 ∷ pos 1500 ∷
    pos 30000 ∷ pos 2300 ∷ [])))))))))))

-- both delays 40, GA index 0: the excitation of 40 words before again
unfoldable call : Call
call = record { tables = tables; kind = 0; payload = 0 ∷ 0 ∷ 15 ∷ 160 ∷ 0 ∷ 0 ∷ 17 ∷ 0 ∷ 0 ∷ 0 ∷ []; room = 80 }

-- the same with GA index 1 in the second subframe: there twice the excitation
unfoldable doubling : Call
doubling = record { tables = tables; kind = 0; payload = 0 ∷ 0 ∷ 15 ∷ 160 ∷ 0 ∷ 0 ∷ 17 ∷ 0 ∷ 0 ∷ 16 ∷ []; room = 80 }

-- the row of codebooks of 0
unfoldable row : List ℤ
row = negsuc 5 ∷ negsuc 2 ∷ negsuc 1 ∷ negsuc 0 ∷ negsuc 0 ∷ pos 0 ∷ pos 0 ∷ pos 0 ∷ pos 4 ∷ pos 9 ∷ []

-- the parameters that these frames leave, by the pitch gain of the last
unfoldable settled : (seed gp : ℤ) → Params
settled seed gp =
    record {
      r0 = row;
      r1 = row;
      r2 = row;
      r3 = row;
      predictor = pos 0;
      omega = pos 1500 ∷ pos 3800 ∷ pos 6100 ∷ pos 8400 ∷ pos 10700 ∷ pos 13000 ∷ pos 15300 ∷ pos 17600 ∷ pos 19900 ∷ pos 22200 ∷ [];
      lsp = pos 32213 ∷ pos 29297 ∷ pos 24092 ∷ pos 17000 ∷ pos 8573 ∷ negsuc 527 ∷ negsuc 9583 ∷ negsuc 17886 ∷ negsuc 24787 ∷ negsuc 29756 ∷ [];
      pitch = record { old = pos 40 };
      seed = seed;
      gain = record { mem = zeros 4; gp = gp; gc = pos 0 };
      beta = pos 3277;
    }

-- what each frame then decodes
unfoldable first_filter : List ℤ
first_filter = pos 4096 ∷ negsuc 3577 ∷ pos 1872 ∷ negsuc 1790 ∷ pos 1196 ∷ negsuc 1079 ∷ pos 703 ∷ negsuc 580 ∷ pos 315 ∷ negsuc 212 ∷ pos 48 ∷ []

unfoldable second_filter : List ℤ
second_filter = pos 4096 ∷ negsuc 3578 ∷ pos 1873 ∷ negsuc 1791 ∷ pos 1197 ∷ negsuc 1080 ∷ pos 703 ∷ negsuc 581 ∷ pos 316 ∷ negsuc 212 ∷ pos 48 ∷ []

unfoldable subframe_of : ℤ → List ℤ → Subframe
subframe_of gp a = record { delay = record { integer = pos 40; fraction = pos 0 }; gp = gp; gc = pos 0; code = negsuc 8191 ∷ negsuc 8191 ∷ negsuc 8191 ∷ negsuc 8191 ∷ zeros 36; a = a }

unfoldable decoded_of : (seed gp : ℤ) → Decoded
decoded_of seed gp = record { first = subframe_of (pos 16384) first_filter; second = subframe_of gp second_filter; params = settled seed gp }

unfoldable Shown : Type 0
unfolding zeros tables call doubling row settled first_filter second_filter subframe_of decoded_of
Shown = Unit {0}

decoded_call : (seed : ℤ) (s : State) → s.params ≡ settled seed (pos 16384) → (frame_of call s).decoded ≡ decoded_of seed (pos 16384)
unfolding Run Shown
decoded_call seed s e = ap (λ (p : Params). (frame_of call (record { params = p; signal = s.signal })).decoded) e

decoded_doubling : (seed : ℤ) (s : State) → s.params ≡ settled seed (pos 16384) → (frame_of doubling s).decoded ≡ decoded_of seed (pos 32767)
unfolding Run Shown
decoded_doubling seed s e = ap (λ (p : Params). (frame_of doubling (record { params = p; signal = s.signal })).decoded) e

decoded_after : (seed : ℤ) (s : State) → s.params ≡ settled seed (pos 32767) → (frame_of call s).decoded ≡ decoded_of seed (pos 16384)
unfolding Run Shown
decoded_after seed s e = ap (λ (p : Params). (frame_of call (record { params = p; signal = s.signal })).decoded) e

-- ---- the signal

-- a subframe of excitation: two pulses
unfoldable pulses : ℤ → ℤ → List ℤ
pulses p q = zeros 20 ++ (p ∷ q ∷ zeros 18)

unfoldable loud : List ℤ
loud = pulses (pos 16000) (pos 12000)

unfoldable quarter : List ℤ
quarter = pulses (pos 4000) (pos 3000)

unfoldable half : List ℤ
half = pulses (pos 7999) (pos 5999)

-- 154 words of past excitation
unfoldable four : (e f g h : List ℤ) → List ℤ
four e f g h = drop 6 e ++ (f ++ (g ++ h))

-- the samples of their subframes
unfoldable loud_1 : List ℤ
loud_1 =
    pos 622 ∷ pos 536 ∷ pos 453 ∷ pos 387 ∷ pos 332 ∷ pos 283 ∷ pos 243 ∷ pos 207 ∷ pos 177 ∷ pos 152 ∷ pos 130 ∷ pos 111 ∷ pos 95 ∷ pos 81 ∷ pos 69 ∷
    pos 59 ∷ pos 51 ∷ pos 44 ∷ pos 37 ∷ pos 31 ∷ pos 16027 ∷ pos 26000 ∷ pos 15399 ∷ pos 8575 ∷ pos 7148 ∷ pos 5691 ∷ pos 5065 ∷ pos 4315 ∷ pos 3930 ∷
    pos 3445 ∷ pos 3091 ∷ pos 2793 ∷ pos 2177 ∷ pos 1818 ∷ pos 1580 ∷ pos 1332 ∷ pos 1158 ∷ pos 985 ∷ pos 850 ∷ pos 729 ∷ []

unfoldable loud_2 : List ℤ
loud_2 =
    pos 621 ∷ pos 535 ∷ pos 452 ∷ pos 387 ∷ pos 332 ∷ pos 283 ∷ pos 243 ∷ pos 207 ∷ pos 177 ∷ pos 152 ∷ pos 130 ∷ pos 111 ∷ pos 95 ∷ pos 81 ∷ pos 69 ∷
    pos 59 ∷ pos 51 ∷ pos 44 ∷ pos 37 ∷ pos 32 ∷ pos 16028 ∷ pos 26004 ∷ pos 15405 ∷ pos 8580 ∷ pos 7152 ∷ pos 5695 ∷ pos 5073 ∷ pos 4329 ∷ pos 3944 ∷
    pos 3453 ∷ pos 3096 ∷ pos 2799 ∷ pos 2183 ∷ pos 1824 ∷ pos 1586 ∷ pos 1337 ∷ pos 1162 ∷ pos 988 ∷ pos 852 ∷ pos 731 ∷ []

unfoldable shrunk_2 : List ℤ
shrunk_2 =
    pos 621 ∷ pos 535 ∷ pos 452 ∷ pos 387 ∷ pos 332 ∷ pos 283 ∷ pos 243 ∷ pos 207 ∷ pos 177 ∷ pos 152 ∷ pos 130 ∷ pos 111 ∷ pos 95 ∷ pos 81 ∷ pos 69 ∷
    pos 59 ∷ pos 51 ∷ pos 44 ∷ pos 37 ∷ pos 32 ∷ pos 8027 ∷ pos 13012 ∷ pos 7711 ∷ pos 4298 ∷ pos 3583 ∷ pos 2853 ∷ pos 2541 ∷ pos 2168 ∷ pos 1975 ∷
    pos 1729 ∷ pos 1550 ∷ pos 1401 ∷ pos 1093 ∷ pos 913 ∷ pos 794 ∷ pos 669 ∷ pos 581 ∷ pos 494 ∷ pos 426 ∷ pos 365 ∷ []

unfoldable half_1 : List ℤ
half_1 =
    pos 311 ∷ pos 268 ∷ pos 226 ∷ pos 193 ∷ pos 166 ∷ pos 142 ∷ pos 122 ∷ pos 104 ∷ pos 89 ∷ pos 76 ∷ pos 65 ∷ pos 56 ∷ pos 48 ∷ pos 41 ∷ pos 35 ∷
    pos 30 ∷ pos 26 ∷ pos 22 ∷ pos 19 ∷ pos 16 ∷ pos 8012 ∷ pos 12998 ∷ pos 7698 ∷ pos 4287 ∷ pos 3574 ∷ pos 2845 ∷ pos 2532 ∷ pos 2157 ∷ pos 1965 ∷
    pos 1722 ∷ pos 1545 ∷ pos 1397 ∷ pos 1089 ∷ pos 909 ∷ pos 790 ∷ pos 666 ∷ pos 579 ∷ pos 492 ∷ pos 424 ∷ pos 364 ∷ []

unfoldable half_2 : List ℤ
half_2 =
    pos 310 ∷ pos 267 ∷ pos 226 ∷ pos 193 ∷ pos 165 ∷ pos 141 ∷ pos 121 ∷ pos 103 ∷ pos 88 ∷ pos 75 ∷ pos 64 ∷ pos 55 ∷ pos 47 ∷ pos 40 ∷ pos 34 ∷
    pos 29 ∷ pos 25 ∷ pos 21 ∷ pos 18 ∷ pos 16 ∷ pos 8013 ∷ pos 13000 ∷ pos 7701 ∷ pos 4289 ∷ pos 3575 ∷ pos 2847 ∷ pos 2536 ∷ pos 2164 ∷ pos 1972 ∷
    pos 1726 ∷ pos 1547 ∷ pos 1399 ∷ pos 1091 ∷ pos 911 ∷ pos 792 ∷ pos 668 ∷ pos 581 ∷ pos 494 ∷ pos 426 ∷ pos 365 ∷ []

unfoldable Sound : Type 0
unfolding Run Shown pulses loud quarter half four loud_1 loud_2 shrunk_2 half_1 half_2 layout.b30 op.overflow op.l_mult_overflow op.l_msu_overflow op.l_shl3_overflow op.round_overflow adaptive.phase adaptive.lag adaptive.interpolate adaptive.adaptive_vector synth.excite synth.excitation synth.divide_by_4 synth.reconstruct_exc synth.reconstruct_speech filter.synth_sum filter.synth_sample filter.synth_sum_overflow filter.synth_overflow filter.samples filter.synthesis filter.overflow_at filter.any filter.saturates decoder.frame_buffers decoder.subframe_signal decoder.frame_signal
Sound = Unit {0}

-- the far decoder's signal, and what the shrunk frame leaves of it
unfoldable buzz : Signal
buzz = record { past = four loud loud loud loud; tail = drop 30 loud_2 }

unfoldable shrunk_buzz : Signal
shrunk_buzz = record { past = four quarter quarter quarter half; tail = drop 30 shrunk_2 }

-- ---- one frame of the far decoder

unfoldable buffers : (exc speech : List ℤ) → Buffers
buffers exc speech = record { exc = exc; speech = speech }

-- a subframe, from its excitation and whether its synthesis saturates
subframe_is : (second flag : Bool) (v : Subframe) (b : Buffers) (u e y : List ℤ)
    → synth.excitation second v.code v.gp v.gc (adaptive.adaptive_vector (layout.b30 tables) second v.delay.integer v.delay.fraction b.exc) ≡ u
    → filter.saturates second v.a u b.speech ≡ flag → shrunk flag u ≡ e → filter.synthesis second v.a e b.speech ≡ y
    → decoder.subframe_signal tables second v b ≡ buffers e y
unfolding buffers decoder.subframe_signal synth.reconstruct_exc synth.reconstruct_speech shrunk
subframe_is second flag v b u e y p q r z = rw (p, q, r) (λ i. record { exc = e; speech = z i })

vector_room : (second : Bool) (t0 frac : ℤ) (exc : List ℤ) → exc_start second + 40 ≤ length exc → exc_start second + 40 ≤ length (adaptive.adaptive_vector (layout.b30 tables) second t0 frac exc)
unfolding adaptive.adaptive_vector
vector_room second t0 frac exc h = rw (loops.length_run) h

-- one that is not shrunk, as its samples are inside their range
quiet_subframe : (second : Bool) (v : Subframe) (b : Buffers) (u y : List ℤ) → bounded v.a ≡ true → exc_start second + 40 ≤ length b.exc → speech_start second + 40 ≤ length b.speech
    → inside b.speech 90 ≡ true → inside (drop (speech_start second) y) 40 ≡ true
    → synth.excitation second v.code v.gp v.gc (adaptive.adaptive_vector (layout.b30 tables) second v.delay.integer v.delay.fraction b.exc) ≡ u
    → filter.synthesis second v.a u b.speech ≡ y → decoder.subframe_signal tables second v b ≡ buffers u y
unfolding shrunk
quiet_subframe second v b u y bound room_exc room before clean p z = subframe_is second false v b u u y p (quiet second v.a u b.speech bound room in_16 heard (rw z clean)) refl z
  where
    in_16 : (k : ℕ) → k < 40 → mag (at u (exc_start second + k)) < 32768
    in_16 k h =
        subst (λ (w : List ℤ). mag (at w (exc_start second + k)) < 32768) p
        (excitation_words second v.code v.gp v.gc _ (vector_room second v.delay.integer v.delay.fraction b.exc room_exc) k h)

    heard : (j : ℕ) → j < 90 → mag (at b.speech j) < 32768
    heard j h = let r = inside_each b.speech 90 before j h in omega arith

unfoldable plain : List ℤ → Subframe
plain a = subframe_of (pos 16384) a

unfoldable doubled : List ℤ → Subframe
doubled a = subframe_of (pos 32767) a

unfoldable Frames : Type 0
unfolding Sound buzz shrunk_buzz buffers plain doubled shrunk fast.size fast.size_sum inverse.bounded inverse.inside loops.nowhere
Frames = Unit {0}

unfoldable half_way : Buffers
half_way = buffers (four loud loud loud loud ++ (loud ++ zeros 40)) (drop 30 loud_2 ++ (loud_1 ++ zeros 40))

sound_first : decoder.subframe_signal tables false (plain first_filter) (decoder.frame_buffers buzz) ≡ half_way
unfolding Frames half_way
sound_first = quiet_subframe false (plain first_filter) (decoder.frame_buffers buzz) (four loud loud loud loud ++ (loud ++ zeros 40)) (drop 30 loud_2 ++ (loud_1 ++ zeros 40)) refl (lit≤ tt) (lit≤ tt) refl refl refl refl

sound_second : decoder.subframe_signal tables true (plain second_filter) half_way ≡ buffers (four loud loud loud loud ++ (loud ++ loud)) (drop 30 loud_2 ++ (loud_1 ++ loud_2))
unfolding Frames half_way
sound_second = quiet_subframe true (plain second_filter) half_way (four loud loud loud loud ++ (loud ++ loud)) (drop 30 loud_2 ++ (loud_1 ++ loud_2)) refl (lit≤ tt) (lit≤ tt) refl refl refl refl

-- twice the pulses saturate
sound_shrunk : decoder.subframe_signal tables true (doubled second_filter) half_way ≡ buffers (four quarter quarter quarter quarter ++ (quarter ++ half)) (drop 30 loud_2 ++ (loud_1 ++ shrunk_2))
unfolding Frames half_way
sound_shrunk =
    subframe_is true true (doubled second_filter) half_way (four loud loud loud loud ++ (loud ++ pulses (pos 31999) (pos 23999))) (four quarter quarter quarter quarter ++ (quarter ++ half))
    (drop 30 loud_2 ++ (loud_1 ++ shrunk_2)) refl refl refl refl

unfoldable next_half_way : Buffers
next_half_way = buffers (four quarter quarter quarter half ++ (half ++ zeros 40)) (drop 30 shrunk_2 ++ (half_1 ++ zeros 40))

sound_third : decoder.subframe_signal tables false (plain first_filter) (decoder.frame_buffers shrunk_buzz) ≡ next_half_way
unfolding Frames next_half_way
sound_third = quiet_subframe false (plain first_filter) (decoder.frame_buffers shrunk_buzz) (four quarter quarter quarter half ++ (half ++ zeros 40)) (drop 30 shrunk_2 ++ (half_1 ++ zeros 40)) refl (lit≤ tt) (lit≤ tt) refl refl refl refl

sound_fourth : decoder.subframe_signal tables true (plain second_filter) next_half_way ≡ buffers (four quarter quarter quarter half ++ (half ++ half)) (drop 30 shrunk_2 ++ (half_1 ++ half_2))
unfolding Frames next_half_way
sound_fourth = quiet_subframe true (plain second_filter) next_half_way (four quarter quarter quarter half ++ (half ++ half)) (drop 30 shrunk_2 ++ (half_1 ++ half_2)) refl (lit≤ tt) (lit≤ tt) refl refl refl refl

-- the frame, from the parameters that it decodes and the buffers that it leaves
unfoldable framed : (v : Decoded) (x : Buffers) → Frame
framed v x =
    record {
      decoded = v;
      samples = drop 10 x.speech;
      state = record { params = v.params; signal = record { past = drop 80 x.exc; tail = drop 80 x.speech } };
    }

frame_is : (c : Call) → c.tables ≡ tables → (s : State) (v : Decoded) (x y : Buffers) → (frame_of c s).decoded ≡ v
    → decoder.subframe_signal tables false v.first (decoder.frame_buffers s.signal) ≡ x → decoder.subframe_signal tables true v.second x ≡ y → frame_of c s ≡ framed v y
unfolding frame_of framed decoder.decode decoder.frame_signal
frame_is c h s v x y e f g =
    ap (λ (d : Decoded). framed d (decoder.subframe_signal c.tables true d.second (decoder.subframe_signal c.tables false d.first (decoder.frame_buffers s.signal)))) e
    ∙ rw (h, f, g)

-- the far decoder
unfoldable far_state : State
far_state = record { params = settled (pos 0) (pos 16384); signal = buzz }

unfoldable shrunk_state : State
shrunk_state = record { params = settled (pos 0) (pos 32767); signal = shrunk_buzz }

unfoldable last_state : State
last_state = record { params = settled (pos 0) (pos 16384); signal = record { past = four quarter half half half; tail = drop 30 half_2 } }

unfoldable States : Type 0
unfolding Frames framed far_state shrunk_state last_state
States = Unit {0}

-- a frame leaves it as it was
far_frame : frame_of call far_state ≡ record { decoded = decoded_of (pos 0) (pos 16384); samples = loud_1 ++ loud_2; state = far_state }
unfolding States
far_frame = frame_is call refl far_state (decoded_of (pos 0) (pos 16384)) half_way _ (decoded_call (pos 0) far_state refl) sound_first sound_second

shrunk_frame : frame_of doubling far_state ≡ record { decoded = decoded_of (pos 0) (pos 32767); samples = loud_1 ++ shrunk_2; state = shrunk_state }
unfolding States
shrunk_frame = frame_is doubling refl far_state (decoded_of (pos 0) (pos 32767)) half_way _ (decoded_doubling (pos 0) far_state refl) sound_first sound_shrunk

next_frame : frame_of call shrunk_state ≡ record { decoded = decoded_of (pos 0) (pos 16384); samples = half_1 ++ half_2; state = last_state }
unfolding States
next_frame = frame_is call refl shrunk_state (decoded_of (pos 0) (pos 16384)) next_half_way _ (decoded_after (pos 0) shrunk_state refl) sound_third sound_fourth

-- ---- the lists of calls

-- all three calls that are made are frames
call_taken : code call ≡ 0
unfolding Run Shown
call_taken = refl

doubling_taken : code doubling ≡ 0
unfolding Run Shown
doubling_taken = refl

all_taken : (n : ℕ) → taken (replicate n call) ≡ replicate n call
unfolding taken
all_taken zero = refl
all_taken (suc n) = rw call_taken (ap (λ (l : List Call). call ∷ l) (all_taken n))

two_taken : (c : Call) → code c ≡ 0 → taken (c ∷ call ∷ []) ≡ c ∷ call ∷ []
unfolding taken
two_taken c h = rw (h, call_taken)

-- n frames of a block x that holds s, then the calls cs
module _ (n : ℕ) (x : List ℤ) (s : State) (ok : T (accepted_state x)) (e : read x ≡ s) where
  first_frames : frames (replicate n call) x ≡ run (replicate n call) s
  first_frames = frames_are (replicate n call) x ok ∙ ap (λ (l : List Call). run l (read x)) (all_taken n) ∙ ap (run (replicate n call)) e

  first_left : read (block_after (replicate n call) x) ≡ state_after (replicate n call) s
  first_left = read_left (replicate n call) x ok ∙ ap (λ (l : List Call). state_after l (read x)) (all_taken n) ∙ ap (state_after (replicate n call)) e

  module _ (cs : List Call) (h : taken cs ≡ cs) where
    then_frames : frames cs (block_after (replicate n call) x) ≡ run cs (state_after (replicate n call) s)
    then_frames =
        frames_are cs (block_after (replicate n call) x) (accepted_left (replicate n call) x ok) ∙ ap (λ (l : List Call). run l (read (block_after (replicate n call) x))) h ∙ ap (run cs) first_left

    then_left : read (block_after cs (block_after (replicate n call) x)) ≡ state_after cs (state_after (replicate n call) s)
    then_left =
        read_left cs (block_after (replicate n call) x) (accepted_left (replicate n call) x ok) ∙ ap (λ (l : List Call). state_after l (read (block_after (replicate n call) x))) h ∙ ap (state_after cs) first_left

voice_run : (n : ℕ) (s : State) → All (VoiceWith tables) (run (replicate n call) s)
unfolding run values_of call
voice_run zero s = tt
voice_run (suc n) s = ((refl, refl), voice_run n (frame_of call s).state)

parity_run : (n : ℕ) (s : State) → All PassesParity (take 1 (run (replicate n call) s))
unfolding run values_of call Run
parity_run zero s = tt
parity_run (suc n) s = (tt, tt)

length_run : (n : ℕ) (s : State) → length (run (replicate n call) s) ≡ n
unfolding run
length_run zero s = refl
length_run (suc n) s = ap suc (length_run n (frame_of call s).state)

-- ---- the far decoder's run

far_still : (n : ℕ) → state_after (replicate n call) far_state ≡ far_state
unfolding state_after
far_still zero = refl
far_still (suc n) = ap (λ (f : Frame). state_after (replicate n call) f.state) far_frame ∙ far_still n

-- the ten samples before the window
far_ten : (n : ℕ) (ten : List ℤ) → last_ten ten (map samples (run (replicate (suc n) call) far_state)) ≡ drop 30 loud_2
unfolding last_ten run values_of loud_1 loud_2
far_ten n ten =
    ap (λ (f : Frame). last_ten (drop 70 f.samples) (map samples (run (replicate n call) f.state))) far_frame ∙ later n
  where
    later : (n : ℕ) → last_ten (drop 70 (loud_1 ++ loud_2)) (map samples (run (replicate n call) far_state)) ≡ drop 30 loud_2
    later zero = refl
    later (suc n) = ap (λ (f : Frame). last_ten (drop 70 f.samples) (map samples (run (replicate n call) f.state))) far_frame ∙ later n

-- ---- a decoder without excitation

-- the fixed gain is 0 whatever was predicted: the correction factor is
no_gain : (m e : ℤ) → op.extract_h (op.l_shr (op.l_mult m (pos 0)) e) ≡ pos 0
unfolding op.extract_h op.l_shr op.l_mult op.by_sign op.sat
no_gain m (pos k) = rw (*ℤ-zero m) (ap (λ (n : ℕ). pos (n / 2 ^ 16)) (div-eq_of_lt (pow_pos k)))
no_gain m (negsuc k) = rw (*ℤ-zero m, zero-mul)

no_fixed_gain : (code mem : List ℤ) → gain.fixed_gain tables 0 0 code mem ≡ pos 0
unfolding Run Shown
no_fixed_gain code mem = no_gain (gain.predict tables code mem).mantissa (op.sub (gain.predict tables code mem).exponent (pos 4))

-- a subframe by its values
plain_is : (v : Subframe) → v.delay ≡ record { integer = pos 40; fraction = pos 0 } → v.gp ≡ pos 16384 → v.gc ≡ pos 0 → v.code ≡ (plain []).code → v ≡ plain v.a
unfolding plain subframe_of
plain_is v d p c k = λ i. record { delay = d i; gp = p i; gc = c i; code = k i; a = v.a }

-- the definitions that hand a gain up, but not its own
unfoldable Handed : Type 0
unfolding call frame_of plc.decide decoder.decode Parts gain.decode kind.payload_length bitstream.number bitstream.bits bitstream.widths bitstream.sum bitstream.cut bitstream.fields bitstream.unpack
Handed = Unit {0}

first_delay : (s : State) → (frame_of call s).decoded.first.delay ≡ record { integer = pos 40; fraction = pos 0 }
unfolding Run Shown
first_delay s = refl

first_gp : (s : State) → (frame_of call s).decoded.first.gp ≡ pos 16384
unfolding Run Shown
first_gp s = refl

first_gc : (s : State) → (frame_of call s).decoded.first.gc ≡ pos 0
unfolding Handed
first_gc s = no_fixed_gain _ _

first_code : (s : State) → (frame_of call s).decoded.first.code ≡ (plain []).code
unfolding Run Shown plain
first_code s = refl

first_silent : (s : State) → (frame_of call s).decoded.first ≡ plain (frame_of call s).decoded.first.a
first_silent s = plain_is (frame_of call s).decoded.first (first_delay s) (first_gp s) (first_gc s) (first_code s)

second_delay : (s : State) → (frame_of call s).decoded.second.delay ≡ record { integer = pos 40; fraction = pos 0 }
unfolding Run Shown
second_delay s = refl

second_gp : (s : State) → (frame_of call s).decoded.second.gp ≡ pos 16384
unfolding Run Shown
second_gp s = refl

second_gc : (s : State) → (frame_of call s).decoded.second.gc ≡ pos 0
unfolding Handed
second_gc s = no_fixed_gain _ _

second_code : (s : State) → (frame_of call s).decoded.second.code ≡ (plain []).code
unfolding Run Shown plain
second_code s = refl

second_silent : (s : State) → (frame_of call s).decoded.second ≡ plain (frame_of call s).decoded.second.a
second_silent s = plain_is (frame_of call s).decoded.second (second_delay s) (second_gp s) (second_gc s) (second_code s)

-- where the past excitation is 0, so is that of the subframe, shrunk or not
silent_words : (second : Bool) → synth.excitation second (plain []).code (pos 16384) (pos 0) (adaptive.adaptive_vector (layout.b30 tables) second (pos 40) (pos 0) (zeros 234)) ≡ zeros 234
unfolding Frames
silent_words true = refl
silent_words false = refl

silent_shrunk : (flag : Bool) → shrunk flag (zeros 234) ≡ zeros 234
unfolding Frames
silent_shrunk true = refl
silent_shrunk false = refl

silent_subframe : (second : Bool) (v : Subframe) (b : Buffers) → v ≡ plain v.a → b.exc ≡ zeros 234 → (decoder.subframe_signal tables second v b).exc ≡ zeros 234
unfolding buffers plain subframe_of shrunk decoder.subframe_signal synth.reconstruct_exc
silent_subframe second v b e h =
    ap (λ (x : Subframe). (decoder.subframe_signal tables second x b).exc) e ∙ ap (λ (x : List ℤ). (decoder.subframe_signal tables second (plain v.a) (buffers x b.speech)).exc) h
    ∙ (ap (λ (u : List ℤ). shrunk (filter.saturates second v.a u b.speech) u) (silent_words second) ∙ silent_shrunk (filter.saturates second v.a (zeros 234) b.speech))

silent_buffers : (s : Signal) → s.past ≡ zeros 154 → (decoder.frame_buffers s).exc ≡ zeros 234
unfolding zeros decoder.frame_buffers
silent_buffers s h = ap (λ (l : List ℤ). l ++ replicate 80 (pos 0)) h

silent_frame : (s : State) → s.signal.past ≡ zeros 154 → (frame_of call s).state.signal.past ≡ zeros 154
unfolding call zeros frame_of decoder.decode decoder.frame_signal
silent_frame s h =
    ap (drop 80)
    (silent_subframe true (frame_of call s).decoded.second (decoder.subframe_signal tables false (frame_of call s).decoded.first (decoder.frame_buffers s.signal)) (second_silent s)
    (silent_subframe false (frame_of call s).decoded.first (decoder.frame_buffers s.signal) (first_silent s) (silent_buffers s.signal h)))

silent_run : (n : ℕ) (s : State) → s.signal.past ≡ zeros 154 → (state_after (replicate n call) s).signal.past ≡ zeros 154
unfolding state_after
silent_run zero s h = h
silent_run (suc n) s h = silent_run n (frame_of call s).state (silent_frame s h)

-- ---- windows: n frames, then a call c and a call

unfoldable own_block : List ℤ
own_block = write (fresh tables)

unfoldable far_block : List ℤ
far_block = write far_state

-- the fresh state, and what a block holds and how long it is
unfoldable Blocks : Type 0
unfolding States own_block far_block state.write state.write_params state.lsp_params state.excitation_params state.fresh state.fresh_params formula.lsp_quantizer_initial_memory formula.gain_predictor_initial_memory state_after
Blocks = Unit {0}

accepted_here : layout.AcceptedTables tables
unfolding Run Shown
accepted_here = refl

own_ok : T (accepted_state own_block)
unfolding own_block
own_ok = accepted_fresh tables accepted_here

own_read : read own_block ≡ fresh tables
unfolding own_block
own_read = read_write (fresh tables) (fresh_sized tables)

far_ok : T (accepted_state far_block)
unfolding Blocks
far_ok = tt

far_read : read far_block ≡ far_state
unfolding Blocks
far_read = refl

blocks_real : T (words tables) × (T (words own_block) × T (words far_block))
unfolding words Blocks
blocks_real = (tt, (tt, tt))

payloads : (n : ℕ) (cs : List Call) → All (λ c. T (octets c.payload)) cs → All (λ c. T (octets c.payload)) (replicate n call ++ cs)
unfolding octets call
payloads zero cs h = h
payloads (suc n) cs h = (tt, payloads n cs h)

-- the own decoder's state when the window begins
unfoldable own_state : ℕ → State
own_state n = state_after (replicate n call) (fresh tables)

module _ (n : ℕ) (c : Call) (frame : code c ≡ 0) (bytes : T (octets c.payload)) (kind : VoiceWith tables (values_of c (own_state n)))
    (bound : BoundedFilters (values_of c (own_state n)) × BoundedFilters (values_of call (frame_of c (own_state n)).state))
    (clean : InsideSamples (values_of c far_state) × InsideSamples (values_of call (frame_of c far_state).state)) where
  abbrev during : List Call
  during = c ∷ call ∷ []

  last_payloads : All (λ x. T (octets x.payload)) during
  unfolding octets call
  last_payloads = (bytes, (tt, tt))

  call_voice : VoiceWith tables (values_of call (frame_of c (own_state n)).state)
  unfolding values_of call
  call_voice = (refl, refl)

  own_frames : frames during (block_after (replicate n call) own_block) ≡ values_of c (own_state n) ∷ values_of call (frame_of c (own_state n)).state ∷ []
  unfolding run own_state
  own_frames = then_frames n own_block (fresh tables) own_ok own_read during (two_taken c frame)

  far_frames : frames during (block_after (replicate n call) far_block) ≡ values_of c far_state ∷ values_of call (frame_of c far_state).state ∷ []
  unfolding run
  far_frames = then_frames n far_block far_state far_ok far_read during (two_taken c frame) ∙ ap (run during) (far_still n)

  window : WindowAfter n
  window =
      record {
        t = tables;
        before = replicate n call;
        during = during;
        a = own_block;
        b = far_block;
        real = record { tables = blocks_real.0; state_a = blocks_real.1.0; state_b = blocks_real.1.1; payloads = payloads n during last_payloads };
        alike =
            record {
              handed = record { tables = accepted_here; start_a = own_ok; start_b = far_ok; voice = rw (first_frames n own_block (fresh tables) own_ok own_read) (voice_run n (fresh tables)) };
              parity = rw (first_frames n own_block (fresh tables) own_ok own_read) (parity_run n (fresh tables));
            };
        settled = rw (first_frames n own_block (fresh tables) own_ok own_read, length_run n (fresh tables)) (le_refl n);
        own_1 = values_of c (own_state n);
        own_2 = values_of call (frame_of c (own_state n)).state;
        far_1 = values_of c far_state;
        far_2 = values_of call (frame_of c far_state).state;
        own = own_frames;
        far = far_frames;
        voice = (kind, call_voice);
        filters_bounded = bound;
        samples_inside = clean;
      }

  -- the signal that the far decoder holds behind it
  far_left : far_signal window ≡ (frame_of call (frame_of c far_state).state).state.signal
  unfolding window read state_after
  far_left = ap (λ (s : State). s.signal) (then_left n far_block far_state far_ok far_read during (two_taken c frame) ∙ ap (state_after during) (far_still n))

-- ---- filters and samples of the windows

-- the own filter of frame 5's first subframe, halfway from frequencies that frame 4 still had from before frame 1
unfoldable fifth_filter : List ℤ
fifth_filter = pos 4096 ∷ negsuc 3472 ∷ pos 1589 ∷ negsuc 1327 ∷ pos 585 ∷ negsuc 386 ∷ pos 10 ∷ pos 30 ∷ negsuc 146 ∷ pos 70 ∷ negsuc 55 ∷ []

filters_5 : filters (values_of call (own_state 4)) ≡ (fifth_filter, second_filter)
unfolding Blocks own_state fifth_filter
filters_5 = refl

-- from frame 6 on its parameters are the far decoder's, but for the seed
own_settled : (own_state 5).params ≡ settled (pos 21845) (pos 16384)
unfolding Blocks own_state
own_settled = refl

filters_of : (c : Call) (s : State) (v : Decoded) → (frame_of c s).decoded ≡ v → filters (values_of c s) ≡ (v.first.a, v.second.a)
unfolding values_of
filters_of c s v e = ap (λ (d : Decoded). (d.first.a, d.second.a)) e

params_of : (c : Call) (s : State) (v : Decoded) → (frame_of c s).decoded ≡ v → (frame_of c s).state.params ≡ v.params
unfolding frame_of decoder.decode
params_of c s v e = ap (λ (d : Decoded). d.params) e

filters_6 : filters (values_of call (own_state 5)) ≡ (first_filter, second_filter)
unfolding decoded_of subframe_of
filters_6 = filters_of call (own_state 5) _ (decoded_call (pos 21845) (own_state 5) own_settled)

filters_7 : filters (values_of call (frame_of call (own_state 5)).state) ≡ (first_filter, second_filter)
unfolding decoded_of subframe_of
filters_7 =
    let h = params_of call (own_state 5) _ (decoded_call (pos 21845) (own_state 5) own_settled) in
    filters_of call (frame_of call (own_state 5)).state _ (decoded_call (pos 21845) (frame_of call (own_state 5)).state h)

filters_doubling : filters (values_of doubling (own_state 5)) ≡ (first_filter, second_filter)
unfolding decoded_of subframe_of
filters_doubling = filters_of doubling (own_state 5) _ (decoded_doubling (pos 21845) (own_state 5) own_settled)

filters_after : filters (values_of call (frame_of doubling (own_state 5)).state) ≡ (first_filter, second_filter)
unfolding decoded_of subframe_of
filters_after =
    let h = params_of doubling (own_state 5) _ (decoded_doubling (pos 21845) (own_state 5) own_settled) in
    filters_of call (frame_of doubling (own_state 5)).state _ (decoded_after (pos 21845) (frame_of doubling (own_state 5)).state h)

unfoldable Told : Type 0
unfolding Blocks own_state fifth_filter fast.size fast.size_sum inverse.bounded inverse.inside inverse.past_sum inverse.inverse inverse.subframe_words inverse.frame_words inverse.shrunk_before inverse.window_words loops.nowhere recovered_signal
Told = Unit {0}

bounded_all : (bounded fifth_filter ≡ true) × ((bounded first_filter ≡ true) × (bounded second_filter ≡ true))
unfolding Told
bounded_all = (refl, (refl, refl))

inside_all : (inside (loud_1 ++ loud_2) 80 ≡ true) × ((inside (loud_1 ++ shrunk_2) 80 ≡ true) × (inside (half_1 ++ half_2) 80 ≡ true))
unfolding Told
inside_all = (refl, (refl, refl))

bounded_filters : (c : Call) (s : State) (f g : List ℤ) → filters (values_of c s) ≡ (f, g) → bounded f ≡ true → bounded g ≡ true → BoundedFilters (values_of c s)
bounded_filters c s f g e h k = subst (λ (p : List ℤ × List ℤ). (bounded p.0 ≡ true) × (bounded p.1 ≡ true)) (sym e) (h, k)

inside_samples : (c : Call) (s : State) (f : Frame) → frame_of c s ≡ f → inside f.samples 80 ≡ true → InsideSamples (values_of c s)
unfolding values_of
inside_samples c s f e h = subst (λ (x : Frame). inside x.samples 80 ≡ true) (sym e) h

-- a second frame, behind a first that is known
second_frame : (c : Call) (f g : Frame) → frame_of c far_state ≡ f → frame_of call f.state ≡ g → frame_of call (frame_of c far_state).state ≡ g
second_frame c f g e h = ap (λ (x : Frame). frame_of call x.state) e ∙ h

unfoldable plain_frame : Frame
plain_frame = record { decoded = decoded_of (pos 0) (pos 16384); samples = loud_1 ++ loud_2; state = far_state }

unfoldable shrinking_frame : Frame
shrinking_frame = record { decoded = decoded_of (pos 0) (pos 32767); samples = loud_1 ++ shrunk_2; state = shrunk_state }

unfoldable quiet_frame : Frame
quiet_frame = record { decoded = decoded_of (pos 0) (pos 16384); samples = half_1 ++ half_2; state = last_state }

plain_second : frame_of call (frame_of call far_state).state ≡ plain_frame
unfolding plain_frame
plain_second = second_frame call plain_frame plain_frame far_frame far_frame

quiet_second : frame_of call (frame_of doubling far_state).state ≡ quiet_frame
unfolding shrinking_frame quiet_frame
quiet_second = second_frame doubling shrinking_frame quiet_frame shrunk_frame next_frame

octets_call : T (octets call.payload) × T (octets doubling.payload)
unfolding octets call doubling
octets_call = (tt, tt)

voice_call : (s : State) → VoiceWith tables (values_of call s) × VoiceWith tables (values_of doubling s)
unfolding values_of call doubling
voice_call s = ((refl, refl), (refl, refl))

inside_plain : InsideSamples (values_of call far_state) × InsideSamples (values_of call (frame_of call far_state).state)
unfolding plain_frame
inside_plain = (inside_samples call far_state plain_frame far_frame inside_all.0, inside_samples call (frame_of call far_state).state plain_frame plain_second inside_all.0)

inside_shrunk : InsideSamples (values_of doubling far_state) × InsideSamples (values_of call (frame_of doubling far_state).state)
unfolding shrinking_frame quiet_frame
inside_shrunk = (inside_samples doubling far_state shrinking_frame shrunk_frame inside_all.1.0, inside_samples call (frame_of doubling far_state).state quiet_frame quiet_second inside_all.1.1)

-- ---- the three windows

filters_5_6 : filters (values_of call (frame_of call (own_state 4)).state) ≡ (first_filter, second_filter)
unfolding own_state state_after
filters_5_6 = filters_6

-- the bound on both frames
bounded_both : (n : ℕ) (c : Call) (f : List ℤ) → bounded f ≡ true → filters (values_of c (own_state n)) ≡ (f, second_filter)
    → filters (values_of call (frame_of c (own_state n)).state) ≡ (first_filter, second_filter)
    → BoundedFilters (values_of c (own_state n)) × BoundedFilters (values_of call (frame_of c (own_state n)).state)
bounded_both n c f h e g =
    (bounded_filters c (own_state n) f second_filter e h bounded_all.1.1, bounded_filters call (frame_of c (own_state n)).state first_filter second_filter g bounded_all.1.0 bounded_all.1.1)

unfoldable window_met : WindowAfter 5
window_met = window 5 call call_taken octets_call.0 (voice_call (own_state 5)).0 (bounded_both 5 call first_filter bounded_all.1.0 filters_6 filters_7) inside_plain

unfoldable window_four : WindowAfter 4
window_four = window 4 call call_taken octets_call.0 (voice_call (own_state 4)).0 (bounded_both 4 call fifth_filter bounded_all.0 filters_5 filters_5_6) inside_plain

unfoldable window_shrunk : WindowAfter 5
window_shrunk = window 5 doubling doubling_taken octets_call.1 (voice_call (own_state 5)).1 (bounded_both 5 doubling first_filter bounded_all.1.0 filters_doubling filters_after) inside_shrunk

-- what its samples tell, by filters and samples
told_is : (second third fourth : Bool) (f g x y : List ℤ × List ℤ) (ten ten' u u' v v' : List ℤ) → f ≡ x → g ≡ y → ten ≡ ten' → u ≡ u' → v ≡ v'
    → recovered_signal second third fourth f g ten u v ≡ recovered_signal second third fourth x y ten' u' v'
told_is second third fourth f g x y ten ten' u u' v v' p q r m n = λ i. recovered_signal second third fourth (p i) (q i) (r i) (m i) (n i)

ten_before : (n : ℕ) → last_ten [] (map samples (frames (replicate (suc n) call) far_block)) ≡ drop 30 loud_2
ten_before n = ap (λ (l : List FrameValues). last_ten [] (map samples l)) (first_frames (suc n) far_block far_state far_ok far_read) ∙ far_ten n []

samples_of : (c : Call) (s : State) (f : Frame) → frame_of c s ≡ f → samples (values_of c s) ≡ f.samples
unfolding values_of
samples_of c s f e = ap (λ (x : Frame). x.samples) e

-- ---- five frames

unfoldable told_four : (second third fourth : Bool) → Signal
told_four second third fourth = recovered_signal second third fourth (fifth_filter, second_filter) (first_filter, second_filter) (drop 30 loud_2) (loud_1 ++ loud_2) (loud_1 ++ loud_2)

told_four_is : (second third fourth : Bool) → told window_four second third fourth ≡ told_four second third fourth
unfolding window_four window plain_frame told_four
told_four_is second third fourth =
    told_is second third fourth _ _ _ _ _ _ _ _ _ _ filters_5 filters_5_6 (ten_before 3) (samples_of call far_state plain_frame far_frame) (samples_of call (frame_of call far_state).state plain_frame plain_second)

far_four : far_signal window_four ≡ buzz
unfolding window_four plain_frame far_state
far_four = far_left 4 call call_taken octets_call.0 (voice_call (own_state 4)).0 (bounded_both 4 call fifth_filter bounded_all.0 filters_5 filters_5_6) inside_plain ∙ ap (λ (f : Frame). f.state.signal) plain_second

-- word 16 of the past excitation is 0, and is told as -440, or shifted right by 2, 4 or 6
word_16 : (second third fourth : Bool) → is 0 (at (told_four second third fourth).past 16) ≡ false
unfolding Told told_four is
word_16 false false false = refl
word_16 false false true = refl
word_16 false true false = refl
word_16 false true true = refl
word_16 true false false = refl
word_16 true false true = refl
word_16 true true false = refl
word_16 true true true = refl

buzz_16 : T (is 0 (at buzz.past 16))
unfolding Told is
buzz_16 = tt

four_frames : length (frames window_four.before window_four.a) ≡ 4
unfolding window_four window
four_frames = rw (first_frames 4 own_block (fresh tables) own_ok own_read) (length_run 4 (fresh tables))

five_frames : FiveFrames
five_frames =
    record {
      window = window_four;
      four = four_frames;
      none = λ second third fourth. apart (λ (x : Signal). is 0 (at x.past 16)) far_four (told_four_is second third fourth) buzz_16 (word_16 second third fourth);
    }

-- ---- the conditions met

far_met : far_signal window_met ≡ buzz
unfolding window_met plain_frame far_state
far_met =
    far_left 5 call call_taken octets_call.0 (voice_call (own_state 5)).0 (bounded_both 5 call first_filter bounded_all.1.0 filters_6 filters_7) inside_plain
    ∙ ap (λ (f : Frame). f.state.signal) plain_second

word_14 : (T (is 0 (at (zeros 154) 14)) × (is 0 (at buzz.past 14) ≡ false)) × ((at buzz.past 14 ≡ pos 16000) × (at (loud_1 ++ loud_2) 61 ≡ pos 26004))
unfolding Told is
word_14 = ((tt, refl), (refl, refl))

fresh_silent : (fresh tables).signal.past ≡ zeros 154
unfolding zeros state.fresh
fresh_silent = refl

own_after : (n : ℕ) → (read_signal (block_after (replicate n call) own_block)).past ≡ zeros 154
unfolding read
own_after n = ap (λ (s : State). s.signal.past) (first_left n own_block (fresh tables) own_ok own_read) ∙ silent_run n (fresh tables) fresh_silent

far_after : (n : ℕ) → read_signal (block_after (replicate n call) far_block) ≡ buzz
unfolding read far_state
far_after n = ap (λ (s : State). s.signal) (first_left n far_block far_state far_ok far_read ∙ far_still n)

met : Met
unfolding window_met window plain_frame
met =
    record {
      window = window_met;
      far_pulse = ap (λ (x : Signal). at x.past 14) far_met ∙ word_14.1.0;
      far_sample = ap (λ (l : List ℤ). at l 61) (samples_of call far_state plain_frame far_frame) ∙ word_14.1.1;
      call = call;
      repeated = (refl, refl);
      apart = λ n e. apart (λ (l : List ℤ). is 0 (at l 14)) (own_after n) (ap (λ (x : Signal). x.past) (far_after n)) word_14.0.0 word_14.0.1 (ap (λ (x : Signal). x.past) e);
    }

-- ---- the eight

unfoldable told_shrunk : (second third fourth : Bool) → Signal
told_shrunk second third fourth = recovered_signal second third fourth (first_filter, second_filter) (first_filter, second_filter) (drop 30 loud_2) (loud_1 ++ shrunk_2) (half_1 ++ half_2)

told_shrunk_is : (second third fourth : Bool) → told window_shrunk second third fourth ≡ told_shrunk second third fourth
unfolding window_shrunk window shrinking_frame quiet_frame told_shrunk
told_shrunk_is second third fourth =
    told_is second third fourth _ _ _ _ _ _ _ _ _ _ filters_doubling filters_after (ten_before 4) (samples_of doubling far_state shrinking_frame shrunk_frame)
    (samples_of call (frame_of doubling far_state).state quiet_frame quiet_second)

far_shrunk : far_signal window_shrunk ≡ last_state.signal
unfolding window_shrunk quiet_frame
far_shrunk =
    far_left 5 doubling doubling_taken octets_call.1 (voice_call (own_state 5)).1 (bounded_both 5 doubling first_filter bounded_all.1.0 filters_doubling filters_after) inside_shrunk
    ∙ ap (λ (f : Frame). f.state.signal) quiet_second

told_right : last_state.signal ≡ told_shrunk true false false
unfolding Told told_shrunk
told_right = refl

-- a pulse of the window's first subframe, 4000, and one of its second, 7999
unfoldable pulses_are : Signal → Bool
pulses_are x = is 4000 (at x.past 14) && is 7999 (at x.past 54)

last_pulses : T (pulses_are last_state.signal)
unfolding Told is pulses_are
last_pulses = tt

other : (second third fourth : Bool) → pulses_are (told_shrunk second third fourth) ≡ false → far_signal window_shrunk ≢ told window_shrunk second third fourth
other second third fourth h = apart pulses_are far_shrunk (told_shrunk_is second third fourth) last_pulses h

only_one : (second third fourth : Bool) → far_signal window_shrunk ≡ told window_shrunk second third fourth → (second ≡ true) × (third ≡ false) × (fourth ≡ false)
unfolding Told told_shrunk is pulses_are
only_one true false false e = (refl, refl, refl)
only_one true false true e = absurd (other true false true refl e)
only_one true true false e = absurd (other true true false refl e)
only_one true true true e = absurd (other true true true refl e)
only_one false false false e = absurd (other false false false refl e)
only_one false false true e = absurd (other false false true refl e)
only_one false true false e = absurd (other false true false refl e)
only_one false true true e = absurd (other false true true refl e)

shrunk_window : Shrunk
shrunk_window = record { window = window_shrunk; right = far_shrunk ∙ told_right ∙ sym (told_shrunk_is true false false); only = only_one }

-- ---- one sample

at_words : (l : List ℤ) → All (λ z. nat_abs z ≤ 32768) l → (k : ℕ) → nat_abs (at l k) ≤ 32768
at_words [] h k = lit≤ tt
at_words (x ∷ l) h zero = h.0
at_words (x ∷ l) h (suc k) = at_words l h.1 k

zeros_words : (n : ℕ) (l : List ℤ) → All (λ z. nat_abs z ≤ 32768) l → All (λ z. nat_abs z ≤ 32768) (zeros n ++ l)
unfolding zeros
zeros_words zero l h = h
zeros_words (suc n) l h = (lit≤ tt, zeros_words n l h)

-- y(n) = x(n) + y(n - 1), behind 1000
unfoldable sum_filter : List ℤ
sum_filter = pos 4096 ∷ negsuc 4095 ∷ zeros 9

unfoldable behind_1000 : List ℤ
behind_1000 = zeros 9 ++ (pos 1000 ∷ [])

-- a1 is -28673 and a2 28673, behind two samples of -32768
unfoldable steep_filter : List ℤ
steep_filter = pos 4096 ∷ negsuc 28672 ∷ pos 28673 ∷ zeros 8

unfoldable behind_two : List ℤ
behind_two = zeros 8 ++ (negsuc 32767 ∷ negsuc 32767 ∷ [])

unfoldable Single : Type 0
unfolding Told sum_filter behind_1000 steep_filter behind_two
Single = Unit {0}

sum_size : fast.size_sum sum_filter 10 ≡ 8192
unfolding Single
sum_size = refl

steep_size : fast.size_sum steep_filter 10 ≡ 61442
unfolding Single
steep_size = refl

full : (filter.synth_sample sum_filter (pos 32767) behind_1000 10 ≡ pos 32767) × (filter.synth_sample sum_filter (pos 32000) behind_1000 10 ≡ pos 32767)
unfolding Single
full = (refl, refl)

full_told : filter.synth_sample sum_filter (pos 32767) behind_1000 10 -ℤ shr_z (inverse.past_sum sum_filter behind_1000 10) (2 ^ 12) ≡ pos 31767
unfolding Single
full_told = refl

steep_told : filter.synth_sample steep_filter (negsuc 32767) behind_two 10 -ℤ shr_z (inverse.past_sum steep_filter behind_two 10) (2 ^ 12) ≡ negsuc 32759
unfolding Single
steep_told = refl

steep_inside : Inside (filter.synth_sample steep_filter (negsuc 32767) behind_two 10)
unfolding Single
steep_inside = lit≤ tt

heads : (at sum_filter 0 ≡ pos 4096) × (at steep_filter 0 ≡ pos 4096)
unfolding Single
heads = (refl, refl)

past_1000 : fast.Past behind_1000 10 0
unfolding behind_1000
past_1000 i h k = at_words behind_1000 (zeros_words 9 _ (lit≤ tt, tt)) _

past_two : fast.Past behind_two 10 0
unfolding behind_two
past_two i h k = at_words behind_two (zeros_words 8 _ (lit≤ tt, (lit≤ tt, tt))) _

-- two numbers that are not equal
apart_31767 : pos 31767 ≢ pos 32767
unfolding is
apart_31767 e = apart (is 31767) refl refl tt refl e

apart_32760 : negsuc 32759 ≢ negsuc 32767
unfolding is
apart_32760 e = apart tested refl refl tt refl e
  where
    tested : ℤ → Bool
    tested (pos m) = false
    tested (negsuc m) = is 32759 (pos m)

one_sample : OneSample
one_sample =
    record {
      holds = λ a x y n bound fits past head i. recovered a x y n bound fits past head i;
      not_at_an_end = λ all. apart_31767 (sym full_told ∙ all sum_filter (pos 32767) behind_1000 10 (rw sum_size (lit≤ tt)) (lit≤ tt) past_1000 heads.0 tt);
      not_with_61442 = λ all. apart_32760 (sym steep_told ∙ all steep_filter (negsuc 32767) behind_two 10 (rw steep_size (le_refl 61442)) (lit≤ tt) past_two heads.1 steep_inside);
    }

apart_32000 : pos 32767 ≢ pos 32000
unfolding is
apart_32000 e = apart (is 32767) refl refl tt refl e

full_scale : FullScale
full_scale =
    record {
      a = sum_filter;
      y = behind_1000;
      n = 10;
      x = pos 32767;
      z = pos 32000;
      bound = rw sum_size (lit≤ tt);
      head = heads.0;
      past = past_1000;
      fits = (lit≤ tt, lit≤ tt);
      full = full.0;
      same = full.0 ∙ sym full.1;
      other = apart_32000;
    }

pub needed : Needed
needed = record { met = met; five_frames = five_frames; shrunk = shrunk_window; one_sample = one_sample; full_scale = full_scale }

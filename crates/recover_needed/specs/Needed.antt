-- The conditions of Recovery.antt can be met together, by a far decoder that is heard and that no waiting makes equal to the own one. Three of them can't be left out. Five frames before the window: with four, the rest holding,
-- the far signal is none of the eight. Samples inside their range, and the bound on the coefficients: shown for one sample and any coefficients, not for a decoder's window. And one signal in place of the eight is too few: with a
-- shrunk subframe. proofs/Witness.antt computes these. Parity isn't treated here; `ParityNeeded` of agreement shows that without it the delays of frame 1 may differ.
use Rattle.std.specs.Prelude.{ℕ, ◌^◌, ◌≤◌, ◌≡◌, Bool, true, false, List, [], ◌∷◌, ◌++◌, map, ◌≢◌, ℤ, pos, nat_abs, ◌-ℤ◌, length, replicate}
use Rattle.std.proofs.Common.{arith}
use Rattle.std.specs.Int.Signed.{shr_z}
use Rattle.laws.specs.Lists.{at}
use Rattle.synth_filter.specs.Filter.{synth_sample}
use Rattle.synth_filter.specs.Fast.{size_sum, Past}
use Rattle.inverse.specs.Inverse.{past_sum, Inside}
use Rattle.state.specs.State.{Signal, read_signal}
use Rattle.agreement.specs.Demand.{Call, FrameValues, frames, samples, filters, VoiceWith, Alike, Real}
use Rattle.agreement.specs.Run.{block_after}
use Rattle.recover.specs.Recovery.{BoundedFilters, InsideSamples, CleanWindow, last_ten, recovered_signal}

-- ---- a window

-- `CleanWindow` with n frames before it in place of five, every word in 16 bits and every byte in 8
pub record WindowAfter (n : ℕ) : Type 0 where
  pub t : List ℤ
  pub before : List Call
  pub during : List Call
  pub a : List ℤ
  pub b : List ℤ
  pub real : Real t (before ++ during) a b
  pub alike : Alike t before a b
  pub settled : n ≤ length (frames before a)
  pub own_1 : FrameValues
  pub own_2 : FrameValues
  pub far_1 : FrameValues
  pub far_2 : FrameValues
  pub own : frames during (block_after before a) ≡ own_1 ∷ own_2 ∷ []
  pub far : frames during (block_after before b) ≡ far_1 ∷ far_2 ∷ []
  pub voice : VoiceWith t own_1 × VoiceWith t own_2
  pub filters_bounded : BoundedFilters own_1 × BoundedFilters own_2
  pub samples_inside : InsideSamples far_1 × InsideSamples far_2

-- with five it is a clean window
pub clean : (w : WindowAfter 5) → CleanWindow w.t w.before w.during w.a w.b
clean w =
    record {
      alike = w.alike;
      settled = omega (arith, w.settled);
      own_1 = w.own_1;
      own_2 = w.own_2;
      far_1 = w.far_1;
      far_2 = w.far_2;
      own = w.own;
      far = w.far;
      voice = w.voice;
      filters_bounded = w.filters_bounded;
      samples_inside = w.samples_inside;
    }

module _ {n : ℕ} (w : WindowAfter n) where
  -- the signal that the far decoder holds behind the window
  abbrev pub far_signal : Signal
  far_signal = read_signal (block_after w.during (block_after w.before w.b))

  -- what the own filters and the far samples tell of it: the eight of Recovery.antt
  abbrev pub told : (second third fourth : Bool) → Signal
  told second third fourth =
      recovered_signal second third fourth (filters w.own_1) (filters w.own_2) (last_ten [] (map samples (frames w.before w.b))) (samples w.far_1) (samples w.far_2)

-- ---- the conditions can be met

-- The own decoder begins with the list, from the fresh state. The far one is in the middle of a sound: two pulses, 16000 and 12000, every 40 words of excitation, and its samples reach 26004.
pub record Met : Type 0 where
  pub window : WindowAfter 5
  pub far_pulse : at (far_signal window).past 14 ≡ pos 16000
  pub far_sample : at (samples window.far_1) 61 ≡ pos 26004
  -- all seven frames are one call. It repeats the excitation of 40 words before, and adds nothing
  pub call : Call
  pub repeated : (window.before ≡ replicate 5 call) × (window.during ≡ replicate 2 call)
  -- so that waiting does not help: the own decoder stays silent, and behind no number of frames do the two hold the same signal
  pub apart : (n : ℕ) → read_signal (block_after (replicate n call) window.a) ≢ read_signal (block_after (replicate n call) window.b)

-- ---- five frames

-- With four, the own filter of the window's first subframe still depends on the row from before frame 1, which the far decoder had otherwise. The far signal is none of the eight.
pub record FiveFrames : Type 0 where
  pub window : WindowAfter 4
  pub four : length (frames window.before window.a) ≡ 4
  pub none : (second third fourth : Bool) → far_signal window ≢ told window second third fourth

-- ---- the eight: subframes that were shrunk

-- The first window again, but its first frame doubles the pitch gain of its second subframe. The far decoder's synthesis saturates there and all its excitation is divided by 4. Its signal is told with
-- `second` set, and with no other of the eight: not with none set, which is what the formula alone gives.
pub record Shrunk : Type 0 where
  pub window : WindowAfter 5
  pub right : far_signal window ≡ told window true false false
  pub only : (second third fourth : Bool) → far_signal window ≡ told window second third fourth → (second ≡ true) × (third ≡ false) × (fourth ≡ false)

-- ---- samples inside their range, and the bound on the coefficients: one sample

-- `recovered` of inverse's Laws, for coefficients whose sizes are together at most m, and samples of which P holds
abbrev pub ReadOff : ℕ → (ℤ → Type 0) → Type 0
ReadOff m P =
    (a : List ℤ) (x : ℤ) (y : List ℤ) (n : ℕ) → size_sum a 10 ≤ m → nat_abs x ≤ 32768 → Past y n 0 → at a 0 ≡ pos 4096 → P (synth_sample a x y n)
    → synth_sample a x y n -ℤ shr_z (past_sum a y n) (2 ^ 12) ≡ x

pub record OneSample : Type 0 where
  pub holds : ReadOff 61439 Inside
  -- at an end of its range: y(n) = x(n) + y(n - 1) is 32767 behind y(n - 1) = 1000 for x(n) = 32767, and 31767 is read off
  pub not_at_an_end : ReadOff 61439 (λ z. Unit {0}) → ⊥
  -- a1 = -28673 and a2 = 28673, with a0 a size of 61442: behind two samples of -32768, x(n) = -32768 falls out of 32 bits by the first product, and the second brings it back to -32760, inside the
  -- range. 61440 and 61441 are left open
  pub not_with_61442 : ReadOff 61442 Inside → ⊥

-- and for x(n) = 32000 it is 32767 too: at an end of the range no rule whatever tells the excitation
pub record FullScale : Type 0 where
  pub a : List ℤ
  pub y : List ℤ
  pub n : ℕ
  pub x : ℤ
  pub z : ℤ
  pub bound : size_sum a 10 ≤ 61439
  pub head : at a 0 ≡ pos 4096
  pub past : Past y n 0
  pub fits : (nat_abs x ≤ 32768) × (nat_abs z ≤ 32768)
  pub full : synth_sample a x y n ≡ pos 32767
  pub same : synth_sample a x y n ≡ synth_sample a z y n
  pub other : x ≢ z

-- ---- all of it

pub record Needed : Type 0 where
  pub met : Met
  pub five_frames : FiveFrames
  pub shrunk : Shrunk
  pub one_sample : OneSample
  pub full_scale : FullScale

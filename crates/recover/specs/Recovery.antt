-- The far decoder's state, read off its samples. Two decoders on one list of calls, as in demand 3: an own one, block a, and a far one, block b, of which only the samples are
-- seen. After a clean window of two frames the far one holds one of eight signals, computed from the own filters and the far one's last 170 samples, whatever it held before.
use Rattle.std.specs.Prelude.{◌≤◌, ◌≡◌, Bool, true, List, [], ◌∷◌, ◌++◌, map, ◌≢◌, ℤ, length, drop}
use Rattle.block.specs.Places.{frame_length, state_length}
use Rattle.inverse.specs.Inverse.{inside, bounded, frame_words, window_words}
use Rattle.state.specs.State.{Signal, read_params, write}
use Rattle.agree.specs.Laws.{Equal}
use Rattle.agreement.specs.Demand.{Call, FrameValues, frames, samples, filters, All, VoiceWith, Alike}
use Rattle.agreement.specs.Run.{block_after}

-- ---- the conditions: all of them can be seen, at the own decoder or in the far samples

-- in each filter the sizes of the coefficients are together at most 61439, and none is -32768: then only a sample at an end of its range was limited
abbrev pub BoundedFilters : FrameValues → Type 0
BoundedFilters v = (bounded v.decoded.first.a ≡ true) × (bounded v.decoded.second.a ≡ true)

-- none of the 80 samples is at an end of its range
abbrev pub InsideSamples : FrameValues → Type 0
InsideSamples v = inside v.samples frame_length ≡ true

-- `before` has at least five frames, the first of them passing parity: from the sixth on the filters of both are equal (demand 3). `during` has the two of the window.
-- All are common voice frames, and refused calls may stand between them. The ten samples before the window may be at an end of their range
pub record CleanWindow (t : List ℤ) (before during : List Call) (a b : List ℤ) : Type 0 where
  pub alike : Alike t before a b
  pub settled : 5 ≤ length (frames before a)
  -- the own decoder's two frames, and the far one's
  pub own_1 : FrameValues
  pub own_2 : FrameValues
  pub far_1 : FrameValues
  pub far_2 : FrameValues
  pub own : frames during (block_after before a) ≡ own_1 ∷ own_2 ∷ []
  pub far : frames during (block_after before b) ≡ far_1 ∷ far_2 ∷ []
  pub voice : VoiceWith t own_1 × VoiceWith t own_2
  pub filters_bounded : BoundedFilters own_1 × BoundedFilters own_2
  pub samples_inside : InsideSamples far_1 × InsideSamples far_2

-- ---- the eight signals

-- the last ten of the samples of these frames; `ten` where there is no frame
unfoldable pub last_ten : List ℤ → List (List ℤ) → List ℤ
last_ten ten [] = ten
last_ten ten (y ∷ l) = last_ten (drop 70 y) l

-- what two frames leave whose second, third and fourth subframe were shrunk, or not: f and g are the filters of their subframes, y and z their samples, behind the samples `ten`
unfoldable pub recovered_signal : (second third fourth : Bool) (f g : List ℤ × List ℤ) (ten y z : List ℤ) → Signal
recovered_signal second third fourth f g ten y z =
    record {
      past = window_words second third fourth (frame_words f.0 f.1 (ten ++ y) ++ frame_words g.0 g.1 (drop 70 y ++ z));
      tail = drop 70 z;
    }

module _ {t : List ℤ} {before during : List Call} {a b : List ℤ} (w : CleanWindow t before during a b) where
  -- both blocks behind the window
  abbrev pub own_block : List ℤ
  own_block = block_after during (block_after before a)

  abbrev pub far_block : List ℤ
  far_block = block_after during (block_after before b)

  -- the own parameters with one of the eight signals. It reads the own filters and the far samples, and nothing else of the far decoder
  abbrev pub candidate : (second third fourth : Bool) → List ℤ
  candidate second third fourth =
      write
      (record {
        params = read_params own_block;
        signal = recovered_signal second third fourth (filters w.own_1) (filters w.own_2) (last_ten [] (map samples (frames before b))) (samples w.far_1) (samples w.far_2);
      })

  -- ---- what is known of the far decoder

  pub record Known : Type 0 where
    -- which subframes of its window were shrunk. This is fixed before any later frame: one candidate does for all of them
    pub second : Bool
    pub third : Bool
    pub fourth : Bool
    -- its block is the candidate, but for word 62, the seed, which no voice frame reads or changes
    pub words : Equal far_block (candidate second third fourth) 0 62 × Equal far_block (candidate second third fourth) 63 state_length
    -- and its samples of later common voice frames, however many, are the candidate's. A concealed frame reads the seed, and ends the claim
    pub later : (cs : List Call) → All (VoiceWith t) (frames cs own_block) → map samples (frames cs far_block) ≡ map samples (frames cs (candidate second third fourth))

-- ---- the theorem

pub record Recovery : Type 0 where
  pub known : (t : List ℤ) (before during : List Call) (a b : List ℤ) (w : CleanWindow t before during a b) → Known w
  -- what was recorded of later common voice frames and none of the eight gives, no decoder of these frames with these samples in the window gave, whatever it held before
  pub refuted : (t : List ℤ) (before during : List Call) (a b : List ℤ) (w : CleanWindow t before during a b) (cs : List Call) → All (VoiceWith t) (frames cs (own_block w))
      → (recorded : List (List ℤ)) → ((second third fourth : Bool) → map samples (frames cs (candidate w second third fourth)) ≢ recorded) → map samples (frames cs (far_block w)) ≢ recorded

-- Lengths and places of a frame's buffers (ITU-T G.729: clause 3, a frame of 80 samples in two subframes of 40; clause 3.7.1, the past that equation (40)
-- reaches; clause 4.1.6, the ten past samples of 1/A(z)) and of a state block's parts (01; their order is added). Each computes wherever it stands.
use Rattle.std.specs.Prelude.{ℕ, ◌+◌, Bool, cond}

-- samples of a subframe, and of a frame
abbrev pub subframe_length : ℕ
subframe_length = 40

abbrev pub frame_length : ℕ
frame_length = 80

-- words of past excitation: the greatest delay, 144, and the ten words before it that equation (40) reads
abbrev pub past_length : ℕ
past_length = 154

-- the last samples before the frame: the order of 1/A(z)
abbrev pub tail_length : ℕ
tail_length = 10

-- a frame's excitation and its speech: what is kept, then the frame's own words
abbrev pub exc_length : ℕ
exc_length = past_length + frame_length

abbrev pub speech_length : ℕ
speech_length = tail_length + frame_length

-- the place of the subframe's first word in each
abbrev pub exc_start : Bool → ℕ
exc_start second = cond second (past_length + subframe_length) past_length

abbrev pub speech_start : Bool → ℕ
speech_start second = cond second (tail_length + subframe_length) tail_length

-- the state block: 70 words of parameters, then what is kept of the two
abbrev pub past_place : ℕ
past_place = 70

abbrev pub tail_place : ℕ
tail_place = past_place + past_length

abbrev pub state_length : ℕ
state_length = tail_place + tail_length

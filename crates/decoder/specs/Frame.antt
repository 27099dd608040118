-- A frame of the voice path, G.729 clauses 4.1 and 4.4: first its parameters, which never read the signal, then its signal, which
-- reads the parameters of its two subframes and nothing else of them.
use Rattle.std.specs.Prelude.{Bool, true, false, List, ◌++◌, ℤ, pos, drop, replicate}
use Rattle.block.specs.Places.{frame_length, tail_length}
use Rattle.tables.specs.Layout.{b30}
use Rattle.adaptive.specs.Adaptive as adaptive
use Rattle.synth.specs.Synth.{excitation, reconstruct_exc, reconstruct_speech}
use Rattle.plc.specs.declared.Decision.{Decision}
use Rattle.state.specs.State.{Signal, State}
use Rattle.parameters.specs.declared.Subframe.{Subframe}
use Rattle.parameters.specs.declared.Decoded.{Decoded}
use Rattle.parameters.specs.Parameters.{parameters}
use Rattle.decoder.specs.declared.Buffers.{Buffers}

-- ---- signal

-- the frame's 234 words of excitation and 90 of speech (clause 4.1.6)
abbrev pub buffers : (exc speech : List ℤ) → Buffers
buffers exc speech = record { exc = exc; speech = speech }

-- the words kept from the frame before, and zeros for this frame's 80
unfoldable pub frame_buffers : Signal → Buffers
frame_buffers s = record { exc = s.past ++ replicate frame_length (pos 0); speech = s.tail ++ replicate frame_length (pos 0) }

-- equations (40) and (75), then (77) with its second run
unfoldable pub subframe_signal : List ℤ → Bool → Subframe → Buffers → Buffers
subframe_signal t second v b =
    let adaptive_part = adaptive.adaptive_vector (b30 t) second v.delay.integer v.delay.fraction b.exc in
    let u = excitation second v.code v.gp v.gc adaptive_part in
    record { exc = reconstruct_exc second v.a u b.speech; speech = reconstruct_speech second v.a u b.speech }

unfoldable pub frame_signal : List ℤ → Subframe → Subframe → Signal → Buffers
frame_signal t first second s = subframe_signal t true second (subframe_signal t false first (frame_buffers s))

-- ---- the frame

pub record Frame : Type 0 where
  pub decoded : Decoded
  pub samples : List ℤ
  pub state : State

-- the last 154 words of excitation and the last ten samples are kept
unfoldable pub decode : List ℤ → Decision → State → Frame
decode t d s =
    let v = parameters t d s.params in
    let b = frame_signal t v.first v.second s.signal in
    record {
      decoded = v;
      samples = drop tail_length b.speech;
      state = record { params = v.params; signal = record { past = drop frame_length b.exc; tail = drop frame_length b.speech } };
    }

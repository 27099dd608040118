-- Laws of a frame's signal and of the frame call, from what the calls inside them give.
use Prim.Native.Nat.{ℕ, zero, suc, ◌<◌}
use Rattle.std.specs.Prelude.{◌≡◌, Bool, true, false, cond, Result, Ok, Err, List, ◌++◌, eqb, ℤ, length}
use Rattle.std.proofs.Math.Path.{refl, ap}
use Rattle.std.proofs.Common.{sym, ◌∙◌, arith}
use borrow.Author.Tests.{eqb-true, eqb-false, eq-eqb, ne_eqb}
use Rattle.std.proofs.Math.Dec.{eqb-suc-zero}
use Rattle.std.proofs.Math.ListN.{drop}
use Rattle.refusal.specs.declared.Refusal.{Refusal}
use Rattle.refusal.specs.Refusal.{number as number_of, code as code_of, numbered}
use Rattle.refusal.specs.Laws.{nonzero}
use Rattle.block.specs.Block.{part}
use Rattle.block.specs.Laws.{last_part}
use Rattle.block.specs.Places.{frame_length, tail_length, speech_length, state_length}
use Rattle.tables.specs.Layout.{table_check}
use Rattle.plc.specs.declared.Decision.{Decision}
use Rattle.kind.specs.Kind.{known, payload_length}
use Rattle.plc.specs.Kinds.{decide}
use Rattle.rule.specs.declared.Report.{Report}
use Rattle.state.specs.State.{read_params, read_signal, read, write_params, write, state_check}
use Rattle.state.specs.declared.Params.{Params}
use Rattle.state.specs.Laws.{accepted_of_check, accepted_parts}
use Rattle.parameters.specs.declared.Decoded.{Decoded}
use Rattle.parameters.specs.Parameters.{parameters}
use Rattle.decoder.specs.declared.Buffers.{Buffers}
use Rattle.decoder.specs.Frame.{subframe_signal, frame_buffers, frame_signal, decode}
use Rattle.decoder.specs.Call.{first_of, input_check, refusal, report, code, answer, number, block, output, handed, frame}

-- ---- signal

-- the block and the samples of a frame from what the calls give: the parameters p before it and v of it, and the buffers, w as they are opened
-- and u as the two subframes leave them
module _ (t : List ℤ) (d : Decision) (b : List ℤ) {p : Params} {v : Decoded} {w u : Buffers} (hp : p ≡ read_params b) (hv : v ≡ parameters t d p)
    (hw : w ≡ frame_buffers (read_signal b)) (h : u ≡ subframe_signal t true v.second (subframe_signal t false v.first w)) where
  parameters_are : v ≡ parameters t d (read_params b)
  parameters_are = rw hp at hv

  signal_is : u ≡ frame_signal t (parameters t d (read_params b)).first (parameters t d (read_params b)).second (read_signal b)
  unfolding frame_signal
  signal_is = rw (hw, parameters_are) at h

  pub samples_are : drop tail_length u.speech ≡ (decode t d (read b)).samples
  unfolding decode read
  samples_are = ap (λ (x : Buffers). drop tail_length x.speech) signal_is

  pub report_is : {r : Report} → r ≡ report d v → r ≡ report d (decode t d (read b)).decoded
  unfolding decode read
  report_is q = q ∙ ap (report d) parameters_are

  pub block_is : {block : List ℤ} → block ≡ write_params v.params ++ (drop frame_length u.exc ++ drop frame_length u.speech) → block ≡ write (decode t d (read b)).state
  unfolding decode read write
  block_is q =
      q ∙ (λ i. write_params (parameters_are i).params ++ (drop frame_length (signal_is i).exc ++ drop frame_length (signal_is i).speech))

-- ---- the call

-- the number of an answer is that of its numbered form
pub code_numbered : (a : Result Report Refusal) → code_of a ≡ code (numbered a)
code_numbered (Ok r) = refl
code_numbered (Err e) = refl

-- what a number that is 0 says of the tests that it was picked by
when : (x : Bool) (m n : ℕ) → 0 < n → cond x m n ≡ 0 → (x ≡ true) × (m ≡ 0)
when true m n h q = (refl, q)
when false m n h q = absurd (omega arith)

pub both : (k m : ℕ) → first_of k m ≡ 0 → (k ≡ 0) × (m ≡ 0)
unfolding first_of
both zero m q = (refl, q)
both (suc k) m q = absurd (omega (arith, rw eqb-suc-zero at q))

pub room_is : (kind : ℕ) (payload : List ℕ) (room : ℕ) → input_check kind payload room ≡ 0 → room ≡ frame_length
unfolding input_check
room_is kind payload room q =
    let p = (when (known kind) (cond (eqb (length payload) (payload_length kind)) (cond (eqb room frame_length) 0 7) 6) 5 (omega arith) q).1 in
    let r = (when (eqb (length payload) (payload_length kind)) (cond (eqb room frame_length) 0 7) 6 (omega arith) p).1 in
    eqb-true room frame_length (when (eqb room frame_length) 0 7 (omega arith) r).0

pub checked : (t b : List ℤ) (kind : ℕ) (payload : List ℕ) (room : ℕ) → refusal t b kind payload room ≡ 0 → (state_check b ≡ 0) × (input_check kind payload room ≡ 0)
unfolding refusal
checked t b kind payload room q = both (state_check b) (input_check kind payload room) (both (table_check t) _ q).1

-- what the number of a call says
module _ (t b : List ℤ) (kind : ℕ) (payload : List ℕ) (out : List ℤ) where
  pub frame_number : number (frame t b kind payload out) ≡ refusal t b kind payload (length out)
  unfolding frame
  frame_number = go (refusal t b kind payload (length out)) refl
    where
      go : (k : ℕ) → refusal t b kind payload (length out) ≡ k → number (frame t b kind payload out) ≡ refusal t b kind payload (length out)
      go zero e = rw e
      go (suc k) e = rw (e, eqb-suc-zero)

  pub frame_done : number (frame t b kind payload out) ≡ 0
      → (block (frame t b kind payload out) ≡ write (decode t (decide kind payload) (read b)).state) × (output (frame t b kind payload out) ≡ (decode t (decide kind payload) (read b)).samples)
  unfolding frame
  frame_done e = rw (sym frame_number ∙ e) (refl, refl)

  pub frame_handed : number (frame t b kind payload out) ≡ 0
      → handed (frame t b kind payload out) ≡ Ok (report (decide kind payload) (parameters t (decide kind payload) (read_params b)))
  unfolding frame decode read
  frame_handed e = rw (sym frame_number ∙ e)

  pub frame_refused : (number (frame t b kind payload out) ≡ 0 → ⊥) → (block (frame t b kind payload out) ≡ b) × (output (frame t b kind payload out) ≡ out)
  unfolding frame
  frame_refused q = rw (ne_eqb _ 0 (λ e. q (frame_number ∙ e))) (refl, refl)

-- the answer from what the calls inside give: n is the number that refuses it
module _ (t b : List ℤ) (kind : ℕ) (payload : List ℕ) (out : List ℤ) {n : ℕ} (h : n ≡ refusal t b kind payload (length out)) where
  pub refused : (n ≡ 0 → ⊥) → answer (Err n) b out ≡ frame t b kind payload out
  unfolding frame
  refused q = rw (← h, ne_eqb n 0 q)

-- the same by the refusal's name
pub refused_by : (t b : List ℤ) (kind : ℕ) (payload : List ℕ) (out : List ℤ) (e : Refusal) → number_of e ≡ refusal t b kind payload (length out)
    → answer (Err (number_of e)) b out ≡ frame t b kind payload out
refused_by t b kind payload out e h = refused t b kind payload out h (eqb-false (number_of e) 0 (nonzero e))

module _ (t b : List ℤ) (kind : ℕ) (payload : List ℕ) (out : List ℤ) (h : 0 ≡ refusal t b kind payload (length out)) where
  -- a frame that is not refused has a whole state block and room for its samples
  pub accepted : (length b ≡ state_length) × (length out ≡ frame_length)
  accepted =
      let c = checked t b kind payload (length out) (sym h) in
      ((accepted_parts b (accepted_of_check b c.0)).0, room_is kind payload (length out) c.1)

  pub done : (speech : List ℤ) {d : Decision} {r : Report} {block samples b' : List ℤ} → d ≡ decide kind payload → block ≡ write (decode t d (read b)).state
      → length speech ≡ speech_length → drop tail_length speech ≡ (decode t d (read b)).samples → samples ≡ part speech tail_length (length out)
      → r ≡ report d (decode t d (read b)).decoded → b' ≡ cond (eqb (length b) state_length) block b → answer (Ok r) b' samples ≡ frame t b kind payload out
  unfolding frame
  done speech q hb hl hd hs hr eb =
      let s = hs ∙ ap (part speech tail_length) accepted.1 ∙ last_part tail_length frame_length speech hl ∙ hd in
      rw (← h, eb, eq-eqb (length b) state_length accepted.0, hb, s, hr, q)

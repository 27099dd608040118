-- The scan hands up what the frame call does and carries the same delay on (change request 12): for each call, and over every list of frames. Assumes nothing.
use Rattle.std.specs.Prelude.{ℕ, ◌≡◌, refl, Result, Ok, Err, Bool, true, false, cond, List, [], ◌∷◌, eqb, ℤ, pos, length, replicate}
use Rattle.std.proofs.Common.{ap, sym, ◌∙◌}
use Rattle.std.specs.Float.Ieee.Bits.{is_true}
use Rattle.std.proofs.lemmas.List.{length-replicate}
use Rattle.laws.specs.Lists.{at}
use Rattle.block.specs.Places.{frame_length}
use Rattle.bitstream.specs.declared.SpeechParams.{SpeechParams}
use Rattle.tables.specs.declared.Scalar.TheVariants.{InitialPreviousPitchDelay}
use Rattle.tables.specs.Layout.{scalar, table_check}
use Rattle.plc.specs.declared.Decision.{Decision}
use Rattle.plc.specs.declared.Decision.TheVariants.{Voice, Concealment}
use Rattle.plc.specs.Kinds.{decide}
use Rattle.rule.specs.declared.Report.{Report}
use Rattle.rule.specs.Rule as rule
use Rattle.rule.specs.Determined.{of_rule, given, fields, carried_second, second_determined}
use Rattle.rule.proofs.Determined.{first_determined}
use Rattle.state.specs.declared.Params.{Params}
use Rattle.state.specs.State.{State, read_params, read, write, fresh_params, fresh, delay_in_range, state_check}
use Rattle.state.specs.Laws.{read_sized, read_write, fresh_sized, fresh_accepted, accepted_of_check, check_of_accepted, accepted_parts}
use Rattle.parameters.specs.Parameters.{parameters}
use Rattle.parameters.specs.Parts.{Parts}
use Rattle.decoder.specs.Frame.{Frame, decode}
use Rattle.decoder.specs.Call as Call
use Rattle.decoder.specs.Laws.{frame_handed}
use Rattle.accepted.specs.Lengths.{sized_after}
use Rattle.accepted.specs.Accepted.{carried_delay, frame_accepted}
use Rattle.frame_delays.specs.Delays.{refusal, answer, handed, left, frame_delays}

-- the delay that a state block carries
abbrev pub carried : List ℤ → ℤ
carried b = at b 61

-- ---- the delays are parameters that read neither spectrum nor gains

same_delays : (t : List ℤ) (d : Decision) (p : Params)
    → (rule.report d (parameters t d p).first.delay (parameters t d p).second.delay ≡ rule.report d (rule.delays d p.pitch.old).first (rule.delays d p.pitch.old).second)
    × ((parameters t d p).params.pitch.old ≡ (rule.delays d p.pitch.old).state.old)
unfolding Parts rule.delays
same_delays t (Voice f) p = (refl, refl)
same_delays t Concealment p = (refl, refl)

-- ---- one call

-- the carried delay of a state block is in range where the block is taken
carried_range : (b : List ℤ) → state_check b ≡ 0 → delay_in_range (carried b) ≡ true
unfolding read_params
carried_range b h = is_true (delay_in_range (carried b)) (carried_delay (read_params b) (rw (accepted_parts b (accepted_of_check b h)).1 tt))

carried_is : (b : List ℤ) → carried b ≡ (read b).params.pitch.old
unfolding read read_params
carried_is b = refl

left_params : (t : List ℤ) (d : Decision) (b : List ℤ) → (decode t d (read b)).state.params.pitch.old ≡ (parameters t d (read_params b)).params.pitch.old
unfolding decode read
left_params t d b = refl

-- the delay that a frame leaves in the block
carried_write : (t : List ℤ) (d : Decision) (b : List ℤ) → carried (write (decode t d (read b)).state) ≡ (parameters t d (read_params b)).params.pitch.old
carried_write t d b =
    let s : State = (decode t d (read b)).state in
    let e : read (write s) ≡ s = read_write s (sized_after t (read b) (read_sized b) d) in
    carried_is (write s) ∙ ap (λ (x : State). x.params.pitch.old) e ∙ left_params t d b

-- what both hand up, and the delay that they carry on
done_same : (t : List ℤ) (d : Decision) (b : List ℤ)
    → answer (Ok (rule.report d (rule.delays d (carried b)).first (rule.delays d (carried b)).second)) (rule.delays d (carried b)).state.old
    ≡ answer (Ok (Call.report d (decode t d (read b)).decoded)) (parameters t d (read_params b)).params.pitch.old
unfolding decode read read_params
done_same t d b =
    let e = same_delays t d (read_params b) in
    λ i. answer (Ok (sym e.0 i)) (sym e.1 i)

-- for tables and a state that are taken and room for 80 samples, whatever the kind and the payload: the same answer, refused or not, and the same carried delay
pub same : (t b : List ℤ) (kind : ℕ) (payload : List ℕ) (out : List ℤ) → table_check t ≡ 0 → state_check b ≡ 0 → length out ≡ frame_length
    → frame_delays (carried b) kind payload ≡ answer (Call.handed (Call.frame t b kind payload out)) (carried (Call.block (Call.frame t b kind payload out)))
unfolding frame_delays refusal Call.frame Call.refusal Call.first_of
same t b kind payload out ht hb ho =
    rw (ht, hb, ho, carried_range b hb) (by (eqb (Call.input_check kind payload frame_length) 0))
  where
    d : Decision
    d = decide kind payload

    n : ℕ
    n = Call.input_check kind payload frame_length

    f : Frame
    f = decode t d (read b)

    by : (p : Bool)
        → cond p (answer (Ok (rule.report d (rule.delays d (carried b)).first (rule.delays d (carried b)).second)) (rule.delays d (carried b)).state.old) (answer (Err n) (carried b))
        ≡ (let a = cond p (Call.answer (Ok (Call.report d f.decoded)) (write f.state) f.samples) (Call.answer (Err n) b out) in
        answer (Call.handed a) (carried (Call.block a)))
    by true = rw (carried_write t d b) (done_same t d b)
    by false = refl

-- ---- the rules are known before the frame is decoded

-- so that a line is counted with the rules that the frame call will hand up, and a refused count changes nothing (crate line_step)
pub same_rules : (t b : List ℤ) (kind : ℕ) (payload : List ℕ) (out : List ℤ) (r : Report) → Call.number (Call.frame t b kind payload out) ≡ 0
    → Call.handed (Call.frame t b kind payload out) ≡ Ok r → r.rules ≡ rule.rules (decide kind payload)
same_rules t b kind payload out r e h =
    let k : Ok r ≡ Ok (Call.report (decide kind payload) (parameters t (decide kind payload) (read_params b))) = sym h ∙ frame_handed t b kind payload out e in
    let q : r ≡ Call.report (decide kind payload) (parameters t (decide kind payload) (read_params b)) = cc in
    ap (λ (x : Report). x.rules) q

-- ---- over a list of frames

pub record Input : Type 0 where
  pub kind : ℕ
  pub payload : List ℕ

-- what the scan answers, each frame on the delay that the one before left
unfoldable pub scanned : List Input → ℤ → List (Result Report ℕ)
scanned [] old = []
scanned (x ∷ xs) old =
    let a = frame_delays old x.kind x.payload in
    handed a ∷ scanned xs (left a)

-- what the frame call answers, each frame on the block that the one before left
unfoldable pub called : List ℤ → List Input → List ℤ → List (Result Report ℕ)
called t [] b = []
called t (x ∷ xs) b =
    let a = Call.frame t b x.kind x.payload (replicate frame_length (pos 0)) in
    Call.handed a ∷ called t xs (Call.block a)

-- from any state that is taken, refused frames among them
pub all_same : (t : List ℤ) → table_check t ≡ 0 → (xs : List Input) (b : List ℤ) → state_check b ≡ 0 → called t xs b ≡ scanned xs (carried b)
unfolding called scanned
all_same t ht [] b hb = refl
all_same t ht (x ∷ xs) b hb =
    let a = Call.frame t b x.kind x.payload (replicate frame_length (pos 0)) in
    let e = same t b x.kind x.payload (replicate frame_length (pos 0)) ht hb (length-replicate frame_length (pos 0)) in
    rw e (ap (Call.handed a ∷◌) (all_same t ht xs (Call.block a) (frame_accepted t b x.kind x.payload (replicate frame_length (pos 0)) hb)))

initial : (t : List ℤ) → (fresh t).params.pitch.old ≡ scalar t InitialPreviousPitchDelay
unfolding fresh fresh_params
initial t = refl

-- and the delay that is carried on behind the last
unfoldable pub scanned_left : List Input → ℤ → ℤ
scanned_left [] old = old
scanned_left (x ∷ xs) old = scanned_left xs (left (frame_delays old x.kind x.payload))

unfoldable pub block_left : List ℤ → List Input → List ℤ → List ℤ
block_left t [] b = b
block_left t (x ∷ xs) b = block_left t xs (Call.block (Call.frame t b x.kind x.payload (replicate frame_length (pos 0))))

pub all_carried : (t : List ℤ) → table_check t ≡ 0 → (xs : List Input) (b : List ℤ) → state_check b ≡ 0 → carried (block_left t xs b) ≡ scanned_left xs (carried b)
unfolding block_left scanned_left
all_carried t ht [] b hb = refl
all_carried t ht (x ∷ xs) b hb =
    let a = Call.frame t b x.kind x.payload (replicate frame_length (pos 0)) in
    let e = same t b x.kind x.payload (replicate frame_length (pos 0)) ht hb (length-replicate frame_length (pos 0)) in
    rw e (all_carried t ht xs (Call.block a) (frame_accepted t b x.kind x.payload (replicate frame_length (pos 0)) hb))

-- from the fresh state: the scan begins with the initial delay of the tables
pub from_fresh : (t : List ℤ) → table_check t ≡ 0 → (xs : List Input) → called t xs (write (fresh t)) ≡ scanned xs (scalar t InitialPreviousPitchDelay)
from_fresh t ht xs =
    all_same t ht xs (write (fresh t)) (check_of_accepted (write (fresh t)) (fresh_accepted t ht)) ∙ ap (scanned xs) (fresh_carried t)
  where
    fresh_carried : (t : List ℤ) → carried (write (fresh t)) ≡ scalar t InitialPreviousPitchDelay
    fresh_carried t = carried_is (write (fresh t)) ∙ ap (λ (x : State). x.params.pitch.old) (read_write (fresh t) (fresh_sized t)) ∙ initial t

-- ---- the delays that are handed up are those by their rules (change request 12)

by_rules : (d : Decision) (any : SpeechParams) (old n : ℤ)
    → let r = rule.rules d in
    let first = of_rule r.first (fields d any) (given r.first old n) in
    rule.report d (rule.delays d old).first (rule.delays d old).second
    ≡ record { first = first; second = of_rule r.second (fields d any) (given r.second (carried_second d old) first.integer); rules = r }
by_rules d any old n = rw (second_determined d any old, first_determined d any old n)

-- of every call that is not refused: by the rule, the fields and the delay carried into the subframe or, for rule 3, the first subframe's. `any` are the fields of a concealed
-- frame, which has none, and `n` the number that a first subframe's rule never reads: both are free
pub by_rule : (t b : List ℤ) (kind : ℕ) (payload : List ℕ) (out : List ℤ) (any : SpeechParams) (n : ℤ) → Call.number (Call.frame t b kind payload out) ≡ 0
    → let d = decide kind payload in
    let r = rule.rules d in
    let old = carried b in
    let first = of_rule r.first (fields d any) (given r.first old n) in
    Call.handed (Call.frame t b kind payload out)
    ≡ Ok record { first = first; second = of_rule r.second (fields d any) (given r.second (carried_second d old) first.integer); rules = r }
unfolding read_params
by_rule t b kind payload out any n e =
    let d = decide kind payload in
    frame_handed t b kind payload out e ∙ ap Ok ((same_delays t d (read_params b)).0 ∙ by_rules d any (carried b) n)

-- The table of a call's delays has what the frame call hands up (change request 12): over every list of lines, with the refused one, from every state that is taken and from the fresh one. Assumes nothing.
use Prim.Native.Nat.{ℕ}
use Rattle.std.specs.Prelude.{◌≡◌, Bool, true, false, cond, eqb, ℤ, pos, replicate, Result, Ok, Err}
use Rattle.std.proofs.Math.Path.{refl}
use Rattle.std.proofs.Common.{ap, ◌∙◌}
use mathlib.Core.List.{List, [], ◌∷◌}
use Rattle.std.proofs.Math.ListN.{take}
use Rattle.tables.specs.declared.Scalar.TheVariants.{InitialPreviousPitchDelay}
use Rattle.tables.specs.Layout.{scalar, table_check}
use Rattle.kind.specs.Kind.{payload_length}
use Rattle.plc.specs.Kinds.{decide}
use Rattle.rule.specs.Rule.{rules}
use Rattle.state.specs.State.{State, read, read_params, write, fresh, fresh_params, state_check}
use Rattle.state.specs.Laws.{read_write, fresh_sized, fresh_accepted, check_of_accepted}
use Rattle.decoder.specs.Frame.{decode}
use Rattle.decoder.specs.Call as Call
use Rattle.accepted.specs.Accepted.{frame_accepted}
use Rattle.frame_delays.specs.Delays as Scan
use Rattle.same_delays.specs.Same.{carried, same}
use Rattle.line.specs.Line as Line
use Rattle.count.specs.declared.Counts.{Counts}
use Rattle.count.specs.Count.{count}
use Rattle.line_step.specs.Step as LineStep
use Rattle.line_step.specs.Step.{one_more}
use Rattle.call.specs.Call.{start, fresh_job}
use Rattle.delay_step.specs.Step as Step
use Rattle.delay_step.specs.Step.{kept, delay_step}
use Rattle.whole_delays.specs.Whole.{handed_row, counted_row, frame_row, taken_row, line_row, scan_job, Alike, rows, call_rows, kept_after, call_after}

module _ (t : List ℤ) (job : LineStep.Job) (ht : table_check t ≡ 0) (hb : state_check job.block ≡ 0) where
  stopped : (code : ℕ) → Alike (Step.stop (scan_job job) code) [] (LineStep.stop job code)
  unfolding Step.stop LineStep.stop
  stopped code = (refl, (refl, hb))

  abbrev called : ℕ → List ℕ → Call.Answer
  called kind payload = Call.frame t job.block kind payload (replicate 80 (pos 0))

  framed : (next : Counts) (kind : ℕ) (payload : List ℕ)
      → let a = called kind payload in
      Alike (Step.scanned job.progress next (Scan.answer (Call.handed a) (carried (Call.block a)))) (handed_row (one_more job.progress.lines) (Call.handed a))
      (LineStep.framed job next a)
  unfolding Call.frame Step.scanned Step.stop Step.done handed_row LineStep.framed LineStep.stop LineStep.done
  framed next kind payload = by (eqb n 0) refl (frame_accepted t job.block kind payload (replicate 80 (pos 0)) hb)
    where
      n : ℕ
      n = Call.refusal t job.block kind payload 80

      by : (p : Bool) → eqb n 0 ≡ p
          → let f = decode t (decide kind payload) (read job.block) in
          let a = cond p (Call.answer (Ok (Call.report (decide kind payload) f.decoded)) (write f.state) f.samples) (Call.answer (Err n) job.block (replicate 80 (pos 0))) in
          state_check (Call.block a) ≡ 0
          → Alike (Step.scanned job.progress next (Scan.answer (Call.handed a) (carried (Call.block a)))) (handed_row (one_more job.progress.lines) (Call.handed a))
          (LineStep.framed job next a)
      by true e h = (refl, (refl, h))
      by false e h = rw e (refl, (refl, h))

  counted : (kind : ℕ) (payload : List ℕ) (c : Result Counts ℕ)
      → Alike (Step.counted (scan_job job) kind payload c) (counted_row t job kind payload c) (LineStep.counted t job kind payload c)
  unfolding Step.counted counted_row LineStep.counted
  counted kind payload (Err code) = stopped code
  counted kind payload (Ok next) = rw (same t job.block kind payload (replicate 80 (pos 0)) ht hb refl) (framed next kind payload)

  taken : (a : Line.Answer) → Alike (Step.taken (scan_job job) a) (taken_row t job a) (LineStep.taken t job a)
  unfolding Step.taken taken_row LineStep.taken Step.frame_step frame_row LineStep.frame_step
  taken (Line.answer (Err code) bytes) = stopped code
  taken (Line.answer (Ok kind) bytes) =
      let payload : List ℕ = take (payload_length kind) bytes in
      counted kind payload (count kind (rules (decide kind payload)) job.progress.counts)

  pub one_line : (l : List ℕ) → Alike (delay_step (scan_job job) l) (line_row t job l) (LineStep.line_step t job l)
  unfolding delay_step line_row LineStep.line_step
  one_line l = taken (Line.line l (replicate 10 0))

-- from any state that is taken
pub all_rows : (t : List ℤ) → table_check t ≡ 0 → (ls : List (List ℕ)) (job : LineStep.Job) → state_check job.block ≡ 0 → rows (scan_job job) ls ≡ call_rows t job ls
unfolding rows call_rows
all_rows t ht [] job hb = refl
all_rows t ht (l ∷ ls) job hb =
    let a = one_line t job ht hb l in
    rw (a.0, a.1.0, all_rows t ht ls (LineStep.line_step t job l).job a.1.1)

pub all_kept : (t : List ℤ) → table_check t ≡ 0 → (ls : List (List ℕ)) (job : LineStep.Job) → state_check job.block ≡ 0 → kept_after (scan_job job) ls ≡ scan_job (call_after t job ls)
unfolding kept_after call_after
all_kept t ht [] job hb = refl
all_kept t ht (l ∷ ls) job hb =
    let a = one_line t job ht hb l in
    rw (a.1.0, all_kept t ht ls (LineStep.line_step t job l).job a.1.1) (by (eqb job.progress.code 0))
  where
    by : (p : Bool) → cond p (scan_job (call_after t (LineStep.line_step t job l).job ls)) (scan_job job) ≡ scan_job (cond p (call_after t (LineStep.line_step t job l).job ls) job)
    by true = refl
    by false = refl

carried_is : (b : List ℤ) → carried b ≡ (read b).params.pitch.old
unfolding read read_params
carried_is b = refl

initial : (t : List ℤ) → (fresh t).params.pitch.old ≡ scalar t InitialPreviousPitchDelay
unfolding fresh fresh_params
initial t = refl

fresh_carried : (t : List ℤ) → carried (write (fresh t)) ≡ scalar t InitialPreviousPitchDelay
fresh_carried t = carried_is (write (fresh t)) ∙ ap (λ (x : State). x.params.pitch.old) (read_write (fresh t) (fresh_sized t)) ∙ initial t

-- the program's first line gets the initial delay
pub program : (t : List ℤ) → table_check t ≡ 0 → (ls : List (List ℕ))
    → (rows (kept (scalar t InitialPreviousPitchDelay) start) ls ≡ call_rows t (fresh_job t) ls)
    × (kept_after (kept (scalar t InitialPreviousPitchDelay) start) ls ≡ scan_job (call_after t (fresh_job t) ls))
unfolding fresh_job
program t ht ls =
    let hb = check_of_accepted (write (fresh t)) (fresh_accepted t ht) in
    rw (← fresh_carried t) (all_rows t ht ls (fresh_job t) hb, all_kept t ht ls (fresh_job t) hb)

-- The table of a call's delays has what the frame call hands up (change request 12): over every list of lines, with the refused one, from every state that is taken and from the fresh one. Proved in proofs/Whole.antt. Assumes nothing.
use Prim.Native.Nat.{ℕ}
use Rattle.std.specs.Prelude.{◌≡◌, cond, eqb, ℤ, pos, replicate, Result, Ok, Err}
use mathlib.Core.List.{List, [], ◌∷◌, ◌++◌}
use Rattle.std.proofs.Math.ListN.{take}
use Rattle.kind.specs.Kind.{payload_length}
use Rattle.plc.specs.Kinds.{decide}
use Rattle.rule.specs.Rule.{rules}
use Rattle.state.specs.State.{state_check}
use Rattle.decoder.specs.Call as Call
use Rattle.same_delays.specs.Same.{carried}
use Rattle.line.specs.Line as Line
use Rattle.count.specs.declared.Counts.{Counts}
use Rattle.count.specs.Count.{count}
use Rattle.line_step.specs.Step as LineStep
use Rattle.rule.specs.declared.Report.{Report}
use Rattle.line_step.specs.Step.{one_more}
use Rattle.delay_step.specs.Step as Step
use Rattle.delay_step.specs.Step.{kept, report_row, delay_step}

-- ---- the row of a line, by the frame call

-- what the frame call hands up
unfoldable pub handed_row : ℕ → Result Report ℕ → List ℕ
handed_row n (Err code) = []
handed_row n (Ok r) = report_row n r

unfoldable pub counted_row : List ℤ → LineStep.Job → ℕ → List ℕ → Result Counts ℕ → List ℕ
counted_row t job kind payload (Err code) = []
counted_row t job kind payload (Ok next) = handed_row (one_more job.progress.lines) (Call.handed (Call.frame t job.block kind payload (replicate 80 (pos 0))))

unfoldable pub frame_row : List ℤ → LineStep.Job → ℕ → List ℕ → List ℕ
frame_row t job kind payload = counted_row t job kind payload (count kind (rules (decide kind payload)) job.progress.counts)

unfoldable pub taken_row : List ℤ → LineStep.Job → Line.Answer → List ℕ
taken_row t job (Line.answer (Err code) bytes) = []
taken_row t job (Line.answer (Ok kind) bytes) = frame_row t job kind (take (payload_length kind) bytes)

unfoldable pub line_row : List ℤ → LineStep.Job → List ℕ → List ℕ
line_row t job l = taken_row t job (Line.line l (replicate 10 0))

-- ---- one line

-- what a table keeps, of what a decoder keeps: the delay in its state block
abbrev pub scan_job : LineStep.Job → Step.Job
scan_job job = kept (carried job.block) job.progress

-- a step of a table prints this row, goes with a step of a decoder, and that leaves a state that is taken
abbrev pub Alike : Step.Step → List ℕ → LineStep.Step → Type 0
Alike d row s = (d.text ≡ row) × ((d.job ≡ scan_job s.job) × (state_check s.job.block ≡ 0))

-- ---- all lines, up to one that is refused

unfoldable pub rows : Step.Job → List (List ℕ) → List ℕ
rows job [] = []
rows job (l ∷ ls) = cond (eqb job.progress.code 0) ((delay_step job l).text ++ rows (delay_step job l).job ls) []

unfoldable pub call_rows : List ℤ → LineStep.Job → List (List ℕ) → List ℕ
call_rows t job [] = []
call_rows t job (l ∷ ls) = cond (eqb job.progress.code 0) (line_row t job l ++ call_rows t (LineStep.line_step t job l).job ls) []

-- and what is kept behind them: so the counts at the end are those of the call that is decoded
unfoldable pub kept_after : Step.Job → List (List ℕ) → Step.Job
kept_after job [] = job
kept_after job (l ∷ ls) = cond (eqb job.progress.code 0) (kept_after (delay_step job l).job ls) job

unfoldable pub call_after : List ℤ → LineStep.Job → List (List ℕ) → LineStep.Job
call_after t job [] = job
call_after t job (l ∷ ls) = cond (eqb job.progress.code 0) (call_after t (LineStep.line_step t job l).job ls) job

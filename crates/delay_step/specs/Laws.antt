-- Laws of one line for a table of delays: what each operation's answer makes of it. Assumes nothing.
use Rattle.std.specs.Prelude.{◌≡◌, List, ℕ, ℤ, length, take, replicate, Result, Ok, Err}
use Rattle.count.specs.declared.Counts.{Counts}
use Rattle.count.specs.Count.{count}
use Rattle.line.specs.Line as Line
use Rattle.kind.specs.Kind.{payload_length}
use Rattle.plc.specs.Kinds.{decide}
use Rattle.rule.specs.declared.Report.{Report}
use Rattle.rule.specs.Rule.{rules}
use Rattle.print.specs.Print.{over}
use Rattle.line_step.specs.declared.Progress.{Progress}
use Rattle.line_step.specs.Step.{one_more, with_code}
use Rattle.frame_delays.specs.Delays as Scan
use Rattle.delay_step.specs.Step.{Job, kept, stop, report_row, done, scanned, counted, frame_step, taken, delay_step, answer, given}

pub stop_given : (d : ℤ) (from : Progress) (code : ℕ) (out : List ℕ) {p : Progress} {w : ℕ} → p ≡ with_code from code → w ≡ 0
    → answer (kept d p) w out ≡ given (stop (kept d from) code) out
unfolding stop given over
stop_given d from code out e h = rw (e, h)

-- what the scan answers
module _ (d : ℤ) (from : Progress) (next : Counts) (kind : ℕ) (payload : List ℕ) {s : Result Report ℕ} {d' : ℤ} (hs : Scan.answer s d' ≡ Scan.frame_delays d kind payload) where
  pub not_scanned : (out : List ℕ) {code : ℕ} {p : Progress} {w : ℕ} → s ≡ Err code → p ≡ with_code from code → w ≡ 0
      → answer (kept d' p) w out ≡ given (scanned from next (Scan.frame_delays d kind payload)) out
  unfolding scanned
  not_scanned out {code} h e w = rw (← hs, h) (stop_given d' from code out e w)

  pub is_scanned : (out₀ : List ℕ) {r : Report} {p : Progress} {w : ℕ} {out : List ℕ} → s ≡ Ok r → p ≡ record { code = 0; lines = one_more from.lines; counts = next }
      → w ≡ length (report_row (one_more from.lines) r) → out ≡ over (report_row (one_more from.lines) r) out₀
      → answer (kept d' p) w out ≡ given (scanned from next (Scan.frame_delays d kind payload)) out₀
  unfolding scanned done given
  is_scanned out₀ h e w o = rw (← hs, h, e, w, o)

-- the operation Count
module _ (job : Job) (kind : ℕ) (payload : List ℕ) {c : Result Counts ℕ} (hc : c ≡ count kind (rules (decide kind payload)) job.progress.counts) where
  pub not_counted : {code : ℕ} → c ≡ Err code → frame_step job kind payload ≡ stop job code
  unfolding frame_step counted
  not_counted e = rw (← hc, e)

  pub is_counted : {next : Counts} → c ≡ Ok next → frame_step job kind payload ≡ scanned job.progress next (Scan.frame_delays job.carried kind payload)
  unfolding frame_step counted
  is_counted e = rw (← hc, e)

-- the operation Line
module _ (job : Job) (l : List ℕ) {r : Result ℕ ℕ} {bytes : List ℕ} where
  pub not_line : {code : ℕ} → r ≡ Err code → Line.answer r bytes ≡ Line.line l (replicate 10 0) → delay_step job l ≡ stop job code
  unfolding delay_step taken
  not_line h e = rw (← e, h)

  pub is_line : {kind n : ℕ} → r ≡ Ok kind → Line.answer r bytes ≡ Line.line l (replicate 10 0) → n ≡ payload_length kind
      → delay_step job l ≡ frame_step job kind (take n bytes)
  unfolding delay_step taken
  is_line h e k = rw (← e, h, ← k)

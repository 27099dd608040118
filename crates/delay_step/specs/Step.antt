-- One line of a call for a table of delays (change request 12): the operations Line and Count, the delays of the frame, in this order, and the row that is printed for it.
use Rattle.std.specs.Prelude.{List, [], ℕ, ℤ, length, take, replicate, Result, Ok, Err}
use Rattle.count.specs.declared.Counts.{Counts}
use Rattle.count.specs.Count.{count}
use Rattle.line.specs.Line as Line
use Rattle.kind.specs.Kind.{payload_length}
use Rattle.plc.specs.Kinds.{decide}
use Rattle.rule.specs.declared.Report.{Report}
use Rattle.rule.specs.Rule.{number, rules}
use Rattle.print.specs.Print.{over}
use Rattle.delay_line.specs.DelayLine.{thirds, row}
use Rattle.line_step.specs.declared.Progress.{Progress}
use Rattle.line_step.specs.Step.{one_more, with_code}
use Rattle.frame_delays.specs.Delays as Scan

-- what is kept between lines: the carried delay; and 0 while the call goes on, else the number of the refusal that ended it, with the lines taken and the counts
pub record Job : Type 0 where
  pub carried : ℤ
  pub progress : Progress

abbrev pub kept : ℤ → Progress → Job
kept d p = record { carried = d; progress = p }

-- what a line prints, and what is kept after it
pub record Step : Type 0 where
  pub text : List ℕ
  pub job : Job

-- a line that is refused prints nothing, and is neither taken nor counted
unfoldable pub stop : Job → ℕ → Step
stop job code = record { text = []; job = kept job.carried (with_code job.progress code) }

-- the row of what a frame hands up
unfoldable pub report_row : ℕ → Report → List ℕ
report_row n r = row n (thirds r.first) (number r.rules.first) (thirds r.second) (number r.rules.second)

-- a frame whose delays are known: its row, with the number of its line, a line more, and the counts with it in them
unfoldable pub done : Progress → Counts → Report → ℤ → Step
done p next r carried = record { text = report_row (one_more p.lines) r; job = kept carried (record { code = 0; lines = one_more p.lines; counts = next }) }

-- what the scan answers, with the carried delay as it leaves it
unfoldable pub scanned : Progress → Counts → Scan.Answer → Step
scanned p next (Scan.answer (Err code) carried) = stop (kept carried p) code
scanned p next (Scan.answer (Ok r) carried) = done p next r carried

-- Count's answer, for a frame of this kind and payload
unfoldable pub counted : Job → ℕ → List ℕ → Result Counts ℕ → Step
counted job kind payload (Err code) = stop job code
counted job kind payload (Ok next) = scanned job.progress next (Scan.frame_delays job.carried kind payload)

unfoldable pub frame_step : Job → ℕ → List ℕ → Step
frame_step job kind payload = counted job kind payload (count kind (rules (decide kind payload)) job.progress.counts)

-- Line's answer, with the payload at the front of ten bytes
unfoldable pub taken : Job → Line.Answer → Step
taken job (Line.answer (Err code) bytes) = stop job code
taken job (Line.answer (Ok kind) bytes) = frame_step job kind (take (payload_length kind) bytes)

-- one line, without its line feed
unfoldable pub delay_step : Job → List ℕ → Step
delay_step job l = taken job (Line.line l (replicate 10 0))

-- ---- in lent memory

-- what is kept, how many bytes are printed, and the lent bytes with these at their front
pub data Answer : Type 0 where
  answer : Job → ℕ → List ℕ → Answer

unfoldable pub given : Step → List ℕ → Answer
given s lent = answer s.job (length s.text) (over s.text lent)

-- One line of a call (01, "The call text and the program"): the operations Line, Count and Frame, in this order, and what is printed for it.
use Rattle.std.specs.Prelude.{cond, List, [], ℕ, ◌+◌, eqb, ltb, ℤ, pos, length, take, replicate, Result, Ok, Err}
use Rattle.count.specs.declared.Counts.{Counts}
use Rattle.count.specs.Count.{count}
use Rattle.line.specs.Line as Line
use Rattle.kind.specs.Kind.{payload_length}
use Rattle.plc.specs.Kinds.{decide}
use Rattle.rule.specs.Rule.{rules}
use Rattle.decoder.specs.Call as Frame
use Rattle.print.specs.Print.{pcm, over}
use Rattle.line_step.specs.declared.Progress.{Progress}

-- what is kept between lines: the state block; and 0 while the call goes on, else the number of the refusal that ended it, with the lines taken and the counts
pub record Job : Type 0 where
  pub block : List ℤ
  pub progress : Progress

abbrev pub kept : List ℤ → Progress → Job
kept b p = record { block = b; progress = p }

-- what a line prints, and what is kept after it
pub record Step : Type 0 where
  pub text : List ℕ
  pub job : Job

-- the number behind n, in 32 bits: the last has none
unfoldable pub one_more : ℕ → ℕ
one_more n = cond (ltb n 4294967295) (n + 1) n

abbrev pub with_code : Progress → ℕ → Progress
with_code p code = record { code = code; lines = p.lines; counts = p.counts }

-- a line that is refused prints nothing, and is neither taken nor counted
unfoldable pub stop : Job → ℕ → Step
stop job code = record { text = []; job = kept job.block (with_code job.progress code) }

-- a frame that is decoded: `(pcm H)` of its samples, a line more, and the counts with it in them
unfoldable pub done : Job → Counts → Frame.Answer → Step
done job next a =
    record { text = pcm (Frame.output a); job = kept (Frame.block a) (record { code = 0; lines = one_more job.progress.lines; counts = next }) }

-- Frame's answer
unfoldable pub framed : Job → Counts → Frame.Answer → Step
framed job next a = cond (eqb (Frame.number a) 0) (done job next a) (stop job (Frame.number a))

-- Count's answer, for a frame of this kind and payload
unfoldable pub counted : List ℤ → Job → ℕ → List ℕ → Result Counts ℕ → Step
counted t job kind payload (Err code) = stop job code
counted t job kind payload (Ok next) = framed job next (Frame.frame t job.block kind payload (replicate 80 (pos 0)))

-- the rules are a function of kind and payload, so that a frame is counted before it is decoded; Frame hands up the same (`same_rules` of crate same_delays)
unfoldable pub frame_step : List ℤ → Job → ℕ → List ℕ → Step
frame_step t job kind payload = counted t job kind payload (count kind (rules (decide kind payload)) job.progress.counts)

-- Line's answer, with the payload at the front of ten bytes
unfoldable pub taken : List ℤ → Job → Line.Answer → Step
taken t job (Line.answer (Err code) bytes) = stop job code
taken t job (Line.answer (Ok kind) bytes) = frame_step t job kind (take (payload_length kind) bytes)

-- one line, without its line feed
unfoldable pub line_step : List ℤ → Job → List ℕ → Step
line_step t job l = taken t job (Line.line l (replicate 10 0))

-- ---- in lent memory

-- what is kept, how many bytes are printed, and the lent bytes with these at their front
pub data Answer : Type 0 where
  answer : Job → ℕ → List ℕ → Answer

unfoldable pub given : Step → List ℕ → Answer
given s lent = answer s.job (length s.text) (over s.text lent)

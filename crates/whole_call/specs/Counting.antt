-- What a line does to the progress of a call (01, Line and Count): a line that is taken is one line and one frame more, one that is refused leaves lines and counts as they were. Assumes nothing.
use Rattle.std.specs.Prelude.{◌≡◌, refl, true, List, ℕ, ◌+◌, ◌≤◌, ◌<◌, ℤ, Ok}
use Rattle.std.proofs.Common.{◌∙◌, arith, lt-ltb}
use Rattle.count.specs.declared.Counts.{Counts}
use Rattle.count.specs.Count.{most, count, frames_are}
use Rattle.count.specs.Laws.{frames_none, frames_more}
use Rattle.decoder.specs.Call as Frame
use Rattle.rule.specs.declared.Rules.{Rules}
use Rattle.line_step.specs.declared.Progress.{Progress}
use Rattle.line_step.specs.Step.{Job, Step, one_more, with_code, stop, done, line_step}
use Rattle.line_step.specs.Laws.{by_step}
use Rattle.call.specs.Call.{start}

-- a line more, which Count counted
pub record More (p q : Progress) : Type 0 where
  pub kind : ℕ
  pub rules : Rules
  pub frame : count kind rules p.counts ≡ Ok q.counts
  pub line : q.lines ≡ one_more p.lines

pub record Counting (p : Progress) (s : Step) : Type 0 where
  pub more : s.job.progress.code ≡ 0 → More p s.job.progress
  pub as_was : (s.job.progress.code ≡ 0 → ⊥) → s.job.progress ≡ with_code p s.job.progress.code

counting_stop : (job : Job) (n : ℕ) → (n ≡ 0 → ⊥) → Counting job.progress (stop job n)
unfolding stop
counting_stop job n h = record { more = λ e. absurd (h e); as_was = λ e. refl }

counting_done : (job : Job) (kind : ℕ) (r : Rules) (next : Counts) (a : Frame.Answer) → count kind r job.progress.counts ≡ Ok next → Counting job.progress (done job next a)
unfolding done
counting_done job kind r next a h = record { more = λ e. record { kind = kind; rules = r; frame = h; line = refl }; as_was = λ e. absurd (e refl) }

pub counting : (t : List ℤ) (job : Job) (l : List ℕ) → Counting job.progress (line_step t job l)
counting t job l = by_step (Counting job.progress) t job l (counting_stop job) (λ kind payload next h. counting_done job kind _ next _ h)

-- below the last number of 32 bits a line more is a number more
pub next_line : (n : ℕ) → n < 4294967295 → one_more n ≡ n + 1
unfolding one_more
next_line n h = rw (lt-ltb n 4294967295 h)

-- so from a call's start on the frames are the lines, and none is the last number
pub record LinesAreFrames (p : Progress) : Type 0 where
  pub frames : frames_are p.lines p.counts ≡ true
  pub few : p.lines ≤ most

pub lines_start : LinesAreFrames start
unfolding start
lines_start = record { frames = frames_none; few = omega arith }

pub lines_more : (p q : Progress) → LinesAreFrames p → More p q → (q.lines ≡ p.lines + 1) × LinesAreFrames q
lines_more p q l m =
    let c = frames_more m.kind p.lines m.rules p.counts q.counts m.frame l.frames in
    let e : q.lines ≡ p.lines + 1 = m.line ∙ next_line p.lines (omega arith) in
    (e, record { frames = rw e c.0; few = omega arith })

-- Laws of one line: what each operation's answer makes of it, how many bytes it prints, and how many lines it adds. Assumes nothing.
use Rattle.std.specs.Prelude.{◌≡◌, refl, Bool, true, false, cond, List, [], ℕ, ◌+◌, ◌≤◌, min, eqb, ltb, ℤ, pos, length, take, replicate, Result, Ok, Err}
use Rattle.std.proofs.Math.Path.{ap, sym}
use Rattle.std.proofs.Common.{◌∙◌, arith}
use borrow.Author.Tests.{eq-eqb, ne_eqb, eqb-true, eqb-false, ltb-true, ltb-false}
use Rattle.rule.specs.declared.Report.{Report}
use Rattle.count.specs.declared.Counts.{Counts}
use Rattle.count.specs.Count.{count}
use Rattle.count.specs.Laws.{refused_some}
use Rattle.line.specs.Line as Line
use Rattle.line.specs.Laws as LineLaws
use Rattle.kind.specs.Kind.{payload_length}
use Rattle.plc.specs.Kinds.{decide}
use Rattle.rule.specs.Rule.{rules}
use Rattle.decoder.specs.Call as Frame
use Rattle.decoder.specs.Laws.{frame_refused}
use Rattle.print.specs.Print.{pcm, over, frame_least, frame_room}
use Rattle.print.specs.Laws.{pcm_least, pcm_room}
use Rattle.line_step.specs.declared.Progress.{Progress}
use Rattle.line_step.specs.Step.{Job, Step, kept, one_more, with_code, stop, done, framed, counted, frame_step, taken, line_step, answer, given}

-- ---- what each operation's answer makes of a line, and of lent memory

pub stop_given : (b : List ℤ) (from : Progress) (code : ℕ) (out : List ℕ) {p : Progress} {w : ℕ} → p ≡ with_code from code → w ≡ 0
    → answer (kept b p) w out ≡ given (stop (kept b from) code) out
unfolding stop given over
stop_given b from code out e h = rw (e, h)

-- a frame that is counted
module _ (t b : List ℤ) (from : Progress) (next : Counts) (kind : ℕ) (payload : List ℕ) {f : Result Report ℕ} {b' samples : List ℤ}
    (hf : Frame.answer f b' samples ≡ Frame.frame t b kind payload (replicate 80 (pos 0))) {code : ℕ} (hc : code ≡ Frame.code f) where
  pub step_refused : (out : List ℕ) {p : Progress} {w : ℕ} → (code ≡ 0 → ⊥) → p ≡ with_code from code → w ≡ 0
      → answer (kept b' p) w out ≡ given (framed (kept b from) next (Frame.frame t b kind payload (replicate 80 (pos 0)))) out
  unfolding framed
  step_refused out h e w =
      let z : Frame.number (Frame.frame t b kind payload (replicate 80 (pos 0))) ≡ code = ap Frame.number (sym hf) ∙ sym hc in
      let q : b' ≡ b = ap Frame.block hf ∙ (frame_refused t b kind payload (replicate 80 (pos 0)) (λ k. h (sym z ∙ k))).0 in
      rw (z, ne_eqb code 0 h, q) (stop_given b from code out e w)

  pub step_done : (out₀ : List ℕ) {p : Progress} {w : ℕ} {out : List ℕ} → code ≡ 0 → p ≡ record { code = 0; lines = one_more from.lines; counts = next }
      → w ≡ length (pcm samples) → out ≡ over (pcm samples) out₀
      → answer (kept b' p) w out ≡ given (framed (kept b from) next (Frame.frame t b kind payload (replicate 80 (pos 0)))) out₀
  unfolding framed done given
  step_done out₀ h e w o = rw (← hf, ← hc, eq-eqb code 0 h, e, w, o)

-- the operation Count
module _ (t : List ℤ) (job : Job) (kind : ℕ) (payload : List ℕ) {c : Result Counts ℕ} (hc : c ≡ count kind (rules (decide kind payload)) job.progress.counts) where
  pub not_counted : {code : ℕ} → c ≡ Err code → frame_step t job kind payload ≡ stop job code
  unfolding frame_step counted
  not_counted e = rw (← hc, e)

  pub is_counted : {next : Counts} → c ≡ Ok next → frame_step t job kind payload ≡ framed job next (Frame.frame t job.block kind payload (replicate 80 (pos 0)))
  unfolding frame_step counted
  is_counted e = rw (← hc, e)

-- the operation Line
module _ (t : List ℤ) (job : Job) (l : List ℕ) {r : Result ℕ ℕ} {bytes : List ℕ} where
  pub not_line : {code : ℕ} → r ≡ Err code → Line.answer r bytes ≡ Line.line l (replicate 10 0) → line_step t job l ≡ stop job code
  unfolding line_step taken
  not_line h e = rw (← e, h)

  pub is_line : {kind n : ℕ} → r ≡ Ok kind → Line.answer r bytes ≡ Line.line l (replicate 10 0) → n ≡ payload_length kind
      → line_step t job l ≡ frame_step t job kind (take n bytes)
  unfolding line_step taken
  is_line h e k = rw (← e, h, ← k)

-- a number more, in the library's words
pub saturated : (n : ℕ) → n ≤ 4294967295 → min (n + 1) 4294967295 ≡ one_more n
unfolding one_more
saturated n h = by (ltb n 4294967295) refl
  where
    by : (p : Bool) → ltb n 4294967295 ≡ p → min (n + 1) 4294967295 ≡ cond p (n + 1) n
    by true e = omega (arith, ltb-true n 4294967295 e)
    by false e = omega (arith, ltb-false n 4294967295 e)

-- ---- what holds of a line, by the ways in which it ends

pub by_framed : (P : Step → Type 0) (job : Job) (next : Counts) (a : Frame.Answer) → ((Frame.number a ≡ 0 → ⊥) → P (stop job (Frame.number a)))
    → (Frame.number a ≡ 0 → P (done job next a)) → P (framed job next a)
unfolding framed
by_framed P job next a f g = by (eqb (Frame.number a) 0) refl
  where
    by : (p : Bool) → eqb (Frame.number a) 0 ≡ p → P (cond p (done job next a) (stop job (Frame.number a)))
    by true e = g (eqb-true (Frame.number a) 0 e)
    by false e = f (eqb-false (Frame.number a) 0 e)

pub by_counted : (P : Step → Type 0) (t : List ℤ) (job : Job) (kind : ℕ) (payload : List ℕ) → ((n : ℕ) → count kind (rules (decide kind payload)) job.progress.counts ≡ Err n → P (stop job n))
    → ((next : Counts) → count kind (rules (decide kind payload)) job.progress.counts ≡ Ok next → P (framed job next (Frame.frame t job.block kind payload (replicate 80 (pos 0)))))
    → P (frame_step t job kind payload)
unfolding frame_step counted
by_counted P t job kind payload f g = by (count kind (rules (decide kind payload)) job.progress.counts) refl
  where
    by : (c : Result Counts ℕ) → count kind (rules (decide kind payload)) job.progress.counts ≡ c → P (counted t job kind payload c)
    by (Err n) e = f n e
    by (Ok next) e = g next e

pub by_line : (P : Step → Type 0) (t : List ℤ) (job : Job) (l : List ℕ) → ((n : ℕ) (bytes : List ℕ) → Line.line l (replicate 10 0) ≡ Line.answer (Err n) bytes → P (stop job n))
    → ((kind : ℕ) (bytes : List ℕ) → Line.line l (replicate 10 0) ≡ Line.answer (Ok kind) bytes → P (frame_step t job kind (take (payload_length kind) bytes)))
    → P (line_step t job l)
unfolding line_step taken
by_line P t job l f g = by (Line.line l (replicate 10 0)) refl
  where
    by : (a : Line.Answer) → Line.line l (replicate 10 0) ≡ a → P (taken t job a)
    by (Line.answer (Err n) bytes) e = f n bytes e
    by (Line.answer (Ok kind) bytes) e = g kind bytes e

-- refused with a number that is not 0, or done
pub by_step : (P : Step → Type 0) (t : List ℤ) (job : Job) (l : List ℕ) → ((n : ℕ) → (n ≡ 0 → ⊥) → P (stop job n))
    → ((kind : ℕ) (payload : List ℕ) (next : Counts) → count kind (rules (decide kind payload)) job.progress.counts ≡ Ok next → P (done job next (Frame.frame t job.block kind payload (replicate 80 (pos 0)))))
    → P (line_step t job l)
by_step P t job l f g =
    by_line P t job l
    (λ n bytes e. f n (λ z. omega (arith, LineLaws.refused_some l (replicate 10 0) bytes n e)))
    (λ kind bytes e. by_counted P t job kind _
    (λ n h. f n (λ z. omega (arith, refused_some kind n _ job.progress.counts h)))
    (λ next h. by_framed P job next _ (f _) (λ z. g kind _ next h)))

-- ---- a line that is done prints at least the least, one that is refused nothing, and none more than has room

pub record Sized (s : Step) : Type 0 where
  pub printed : s.job.progress.code ≡ 0 → frame_least ≤ length s.text
  pub silent : (s.job.progress.code ≡ 0 → ⊥) → s.text ≡ []
  pub fits : length s.text ≤ frame_room

sized_stop : (job : Job) (n : ℕ) → (n ≡ 0 → ⊥) → Sized (stop job n)
unfolding stop
sized_stop job n h = record { printed = λ e. absurd (h e); silent = λ e. refl; fits = omega arith }

sized_done : (job : Job) (next : Counts) (a : Frame.Answer) → Sized (done job next a)
unfolding done
sized_done job next a = record { printed = λ e. pcm_least (Frame.output a); silent = λ e. absurd (e refl); fits = pcm_room (Frame.output a) }

pub sized : (t : List ℤ) (job : Job) (l : List ℕ) → Sized (line_step t job l)
sized t job l = by_step Sized t job l (sized_stop job) (λ kind payload next e. sized_done job next _)

-- ---- a line is one line more where it is taken, else none

pub more_one : (n : ℕ) → (n ≤ one_more n) × (one_more n ≤ n + 1)
unfolding one_more
more_one n = by (ltb n 4294967295)
  where
    by : (p : Bool) → (n ≤ cond p (n + 1) n) × (cond p (n + 1) n ≤ n + 1)
    by true = (omega arith, omega arith)
    by false = (omega arith, omega arith)

abbrev pub Lines : Job → Step → Type 0
Lines job s = (job.progress.lines ≤ s.job.progress.lines) × (s.job.progress.lines ≤ job.progress.lines + 1)

pub step_lines : (t : List ℤ) (job : Job) (l : List ℕ) → Lines job (line_step t job l)
unfolding stop done
step_lines t job l = by_step (Lines job) t job l (λ n h. (omega arith, omega arith)) (λ kind payload next e. more_one job.progress.lines)

-- With an accepted table block and an accepted state a line is refused with 9, Line's number, or 10, Count's, alone (01, "The call text and the program"). Assumes nothing.
use Rattle.std.specs.Prelude.{◌≡◌, refl, true, List, ℕ, ◌≤◌, ℤ, pos, length, take, replicate}
use Rattle.std.proofs.Common.{◌∙◌, arith, length-take, eq-eqb}
use Rattle.tables.specs.Layout.{table_check}
use Rattle.state.specs.State.{state_check}
use Rattle.kind.specs.Kind.{payload_length}
use Rattle.kind.specs.Laws.{low_known, payload_few}
use Rattle.decoder.specs.Call as Frame
use Rattle.decoder.specs.Laws.{frame_number}
use Rattle.line.specs.Laws.{refused_line, frame_line}
use Rattle.count.specs.Laws.{refused_full}
use Rattle.line_step.specs.Step.{Job, Step, stop, done, line_step}
use Rattle.line_step.specs.Laws.{by_line, by_counted, by_framed}
use Rattle.whole_call.specs.Codes.{refuses}

abbrev Refuses : Step → Type 0
Refuses s = (s.job.progress.code ≡ 0 → ⊥) → refuses s.job.progress.code ≡ true

stop_refuses : (job : Job) (n : ℕ) → refuses n ≡ true → Refuses (stop job n)
unfolding stop
stop_refuses job n e h = e

done_refuses : (job : Job) (a : Frame.Answer) (next : _) → Refuses (done job next a)
unfolding done
done_refuses job a next h = absurd (h refl)

-- Frame refuses no line whose payload is as long as its kind says
not_refused : (t b : List ℤ) (k : ℕ) (payload : List ℕ) → table_check t ≡ 0 → state_check b ≡ 0 → k ≤ 3 → length payload ≡ payload_length k
    → Frame.number (Frame.frame t b k payload (replicate 80 (pos 0))) ≡ 0
unfolding Frame.refusal Frame.first_of Frame.input_check
not_refused t b k payload ht hb h e =
    frame_number t b k payload (replicate 80 (pos 0)) ∙ rw (ht, hb, low_known k h, eq-eqb (length payload) (payload_length k) e)

pub refused_with : (t : List ℤ) (job : Job) (l : List ℕ) → table_check t ≡ 0 → state_check job.block ≡ 0 → Refuses (line_step t job l)
unfolding refuses
refused_with t job l ht hb =
    by_line Refuses t job l
    (λ n bytes e. stop_refuses job n (rw (refused_line l (replicate 10 0) bytes n refl e)))
    (λ kind bytes e.
    let f = frame_line l (replicate 10 0) bytes kind e in
    let n : length (take (payload_length kind) bytes) ≡ payload_length kind = rw length-take (omega (arith, payload_few kind, f.1)) in
    by_counted Refuses t job kind _
    (λ n h. stop_refuses job n (rw (refused_full kind n _ job.progress.counts f.0 h)))
    (λ next h. by_framed Refuses job next _ (λ z. absurd (z (not_refused t job.block kind _ ht hb f.0 n))) (λ z. done_refuses job _ next)))

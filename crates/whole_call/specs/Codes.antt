-- With an accepted table block and an accepted state a line is refused with 9, Line's number, or 10, Count's, alone (01, "The call text and the program"): Frame never refuses it
-- (proofs/Codes.antt). The state that a line leaves is accepted too, so this holds of every line of a call. Assumes nothing.
use Rattle.std.specs.Prelude.{◌≡◌, Bool, ◌||◌, List, ℕ, eqb, ℤ, pos, replicate}
use Rattle.state.specs.State.{state_check}
use Rattle.decoder.specs.Call as Frame
use Rattle.accepted.specs.Accepted.{frame_accepted}
use Rattle.line_step.specs.Step.{Job, Step, stop, done, line_step}
use Rattle.line_step.specs.Laws.{by_step}

-- the numbers that refuse a line
unfoldable pub refuses : ℕ → Bool
refuses n = eqb n 9 || eqb n 10

-- ---- the state that a line leaves

abbrev Accepted : Step → Type 0
Accepted s = state_check s.job.block ≡ 0

accepted_done : (t : List ℤ) (job : Job) (next : _) (k : ℕ) (payload : List ℕ) → state_check job.block ≡ 0
    → Accepted (done job next (Frame.frame t job.block k payload (replicate 80 (pos 0))))
unfolding done
accepted_done t job next k payload h = frame_accepted t job.block k payload (replicate 80 (pos 0)) h

pub line_accepted : (t : List ℤ) (job : Job) (l : List ℕ) → state_check job.block ≡ 0 → state_check (line_step t job l).job.block ≡ 0
unfolding stop
line_accepted t job l h = by_step Accepted t job l (λ n z. h) (λ kind payload next e. accepted_done t job next kind payload h)

-- Laws of the scan of one frame, from what the calls inside it give. Assumes nothing.
use Rattle.std.specs.Prelude.{ℕ, ◌≡◌, Ok, Err, List, ℤ}
use borrow.Author.Tests.{eqb-false, ne_eqb}
use Rattle.refusal.specs.declared.Refusal.{Refusal}
use Rattle.refusal.specs.Refusal.{number}
use Rattle.refusal.specs.Laws.{nonzero}
use Rattle.pitch.specs.declared.Delays.{Delays}
use Rattle.plc.specs.declared.Decision.{Decision}
use Rattle.plc.specs.Kinds.{decide}
use Rattle.rule.specs.declared.Report.{Report}
use Rattle.rule.specs.Rule.{delays, report}
use Rattle.frame_delays.specs.Delays.{refusal, answer, frame_delays}

-- n is the number that refuses it
module _ (carried : ℤ) (kind : ℕ) (payload : List ℕ) {n : ℕ} (h : n ≡ refusal carried kind payload) where
  pub refused : (n ≡ 0 → ⊥) → answer (Err n) carried ≡ frame_delays carried kind payload
  unfolding frame_delays
  refused q = rw (← h, ne_eqb n 0 q)

-- the same by the refusal's name
pub refused_by : (carried : ℤ) (kind : ℕ) (payload : List ℕ) (e : Refusal) → number e ≡ refusal carried kind payload
    → answer (Err (number e)) carried ≡ frame_delays carried kind payload
refused_by carried kind payload e h = refused carried kind payload h (eqb-false (number e) 0 (nonzero e))

-- `next` is what the carried delay is set to
pub done : (carried : ℤ) (kind : ℕ) (payload : List ℕ) → 0 ≡ refusal carried kind payload → {d : Decision} → d ≡ decide kind payload → (x : Delays) {r : Report} {next : ℤ}
    → x ≡ delays d carried → r ≡ report d x.first x.second → next ≡ x.state.old → answer (Ok r) next ≡ frame_delays carried kind payload
unfolding frame_delays
done carried kind payload h q x hx hr hn = rw (← h, hn, hr, hx, q)

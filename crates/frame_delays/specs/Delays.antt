-- The delays of a frame with their rules (change request 12), from its kind, its payload and the carried delay alone: a call added for those who read only delays.
use Rattle.std.specs.Prelude.{ℕ, cond, Result, Ok, Err, List, eqb, ℤ}
use Rattle.block.specs.Places.{frame_length}
use Rattle.tables.specs.Layout.{delay_in_range}
use Rattle.plc.specs.Kinds.{decide}
use Rattle.rule.specs.Rule.{delays, report}
use Rattle.decoder.specs.Call.{first_of, input_check}
use Rattle.rule.specs.declared.Report.{Report}

-- 4: the carried delay is out of range (01: a state block's word 61). 5, 6: the kind and the payload's length, as of the frame call;
-- 7 can't apply, since no samples are asked for.
unfoldable pub refusal : ℤ → ℕ → List ℕ → ℕ
refusal carried kind payload = first_of (cond (delay_in_range carried) 0 4) (input_check kind payload frame_length)

-- what is answered, and the carried delay as the call leaves it
pub data Answer : Type 0 where
  answer : Result Report ℕ → ℤ → Answer

abbrev pub handed : Answer → Result Report ℕ
handed (answer r carried) = r

abbrev pub left : Answer → ℤ
left (answer r carried) = carried

-- success leaves the delay that the frame carries on; a refusal leaves the carried one as it was
unfoldable pub frame_delays : ℤ → ℕ → List ℕ → Answer
frame_delays carried kind payload =
    let d = decide kind payload in
    let found = delays d carried in
    let n = refusal carried kind payload in
    cond (eqb n 0) (answer (Ok (report d found.first found.second)) found.state.old) (answer (Err n) carried)

-- The frame call (01, "Operations and their refusals", Frame): a table block, a state block, a kind, a payload and room for the samples.
use Rattle.std.specs.Prelude.{ℕ, cond, List, eqb, ℤ, length, Result, Ok, Err}
use Rattle.block.specs.Places.{frame_length}
use Rattle.tables.specs.Layout.{table_check}
use Rattle.kind.specs.Kind.{known, payload_length}
use Rattle.plc.specs.Kinds.{decide}
use Rattle.plc.specs.declared.Decision.{Decision}
use Rattle.rule.specs.declared.Report.{Report}
use Rattle.rule.specs.Rule as rule
use Rattle.state.specs.State.{read, write, state_check}
use Rattle.parameters.specs.declared.Decoded.{Decoded}
use Rattle.decoder.specs.Frame.{decode}

-- ---- refusals

-- of two numbers the first that refuses, or 0
unfoldable pub first_of : ℕ → ℕ → ℕ
first_of m n = cond (eqb m 0) n m

-- 5: kind above 3. 6: the payload's length isn't that of the kind. 7: not 80 words of output
unfoldable pub input_check : ℕ → List ℕ → ℕ → ℕ
input_check kind payload room = cond (known kind) (cond (eqb (length payload) (payload_length kind)) (cond (eqb room frame_length) 0 7) 6) 5

-- the first number of 1 to 7 that applies, or 0; `room` is the length of the output
unfoldable pub refusal : List ℤ → List ℤ → ℕ → List ℕ → ℕ → ℕ
refusal t b kind payload room = first_of (table_check t) (first_of (state_check b) (input_check kind payload room))

-- ---- the answer

-- what a frame hands up (change request 12): the delay that each subframe used, and its rule
abbrev pub report : Decision → Decoded → Report
report d v = rule.report d v.first.delay v.second.delay

-- 01's number for each case
abbrev pub code : Result Report ℕ → ℕ
code (Err n) = n
code (Ok r) = 0

-- what the call answers, and the state block and the output as it leaves them
pub data Answer : Type 0 where
  answer : Result Report ℕ → List ℤ → List ℤ → Answer

-- the number that a call returns, and the state block and the output that it leaves
abbrev pub number : Answer → ℕ
number (answer r b out) = code r

abbrev pub block : Answer → List ℤ
block (answer r b out) = b

abbrev pub output : Answer → List ℤ
output (answer r b out) = out

-- the refusal, or what was handed up
abbrev pub handed : Answer → Result Report ℕ
handed (answer r b out) = r

-- ---- the call

-- success writes the state and 80 samples; a refusal leaves both as they were
unfoldable pub frame : List ℤ → List ℤ → ℕ → List ℕ → List ℤ → Answer
frame t b kind payload out =
    let f = decode t (decide kind payload) (read b) in
    let n = refusal t b kind payload (length out) in
    cond (eqb n 0) (answer (Ok (report (decide kind payload) f.decoded)) (write f.state) f.samples) (answer (Err n) b out)

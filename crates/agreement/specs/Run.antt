-- Demand 2 on a whole call: what a list of frame calls gives is what the stages' definitions give, run over its frames from the starting
-- state (01, "Two decoders on one list": "what the stages give, run over frames 1 to n from its starting block"). A call is of any of the four kinds.
use Rattle.std.specs.Prelude.{ℕ, ◌≡◌, cond, List, [], ◌∷◌, map, T, eqb, ℤ}
use Rattle.tables.specs.Layout.{table_check, AcceptedTables}
use Rattle.plc.specs.Kinds.{decide}
use Rattle.state.specs.State.{State, read, write, fresh, accepted_state}
use Rattle.decoder.specs.Frame.{Frame, decode}
use Rattle.decoder.specs.Call.{first_of, input_check, block}
use Rattle.agreement.specs.Demand.{Call, made, answers, FrameValues, frames}

-- ---- the calls that are frames

-- what a call returns in every accepted state: the refusals but 3 and 4
unfoldable pub code : Call → ℕ
code c = first_of (table_check c.tables) (input_check c.kind c.payload c.room)

-- the calls that return 0
unfoldable pub taken : List Call → List Call
taken [] = []
taken (c ∷ cs) = cond (eqb (code c) 0) (c ∷ taken cs) (taken cs)

-- ---- the stages, run over a list of frames

-- the frame that the call is, by the definitions of the stages, and the state that it leaves
unfoldable pub frame_of : Call → State → Frame
frame_of c s = decode c.tables (decide c.kind c.payload) s

unfoldable pub values_of : Call → State → FrameValues
values_of c s = record { call = c; decoded = (frame_of c s).decoded; before = s.signal; samples = (frame_of c s).samples }

-- the values of frame 1, frame 2 and so on, each from the state that the frame before left
unfoldable pub run : List Call → State → List FrameValues
run [] s = []
run (c ∷ cs) s = values_of c s ∷ run cs (frame_of c s).state

-- the state that the last frame leaves; with no frame, the state before it
unfoldable pub state_after : List Call → State → State
state_after [] s = s
state_after (c ∷ cs) s = state_after cs (frame_of c s).state

-- ---- demand 2

-- the block that the calls leave, each call on the block that the call before left
unfoldable pub block_after : List Call → List ℤ → List ℤ
block_after [] b = b
block_after (c ∷ cs) b = block_after cs (block (made c b))

pub record Demand2 : Type 0 where
  -- on an accepted state block, whatever it holds, a call returns a number that the call alone decides, refusals 3 and 4 being excluded
  pub answered : (cs : List Call) (b : List ℤ) → T (accepted_state b) → answers cs b ≡ map code cs
  -- and the frames are the run from what the block holds
  pub from_block : (cs : List Call) (b : List ℤ) → T (accepted_state b) → frames cs b ≡ run (taken cs) (read b)
  -- and the block that the calls leave holds the state that the run leaves
  pub block_left : (cs : List Call) (b : List ℤ) → T (accepted_state b) → block_after cs b ≡ write (state_after (taken cs) (read b))
  -- from the fresh state: for an accepted table block, over every list of calls
  pub answered_from_fresh : (t : List ℤ) → AcceptedTables t → (cs : List Call) → answers cs (write (fresh t)) ≡ map code cs
  pub from_fresh : (t : List ℤ) → AcceptedTables t → (cs : List Call) → frames cs (write (fresh t)) ≡ run (taken cs) (fresh t)
  pub block_left_from_fresh : (t : List ℤ) → AcceptedTables t → (cs : List Call) → block_after cs (write (fresh t)) ≡ write (state_after (taken cs) (fresh t))

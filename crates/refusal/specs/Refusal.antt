-- The numbers of refusals (01, "Operations and their refusals"; the change requests from 12 on): 0 is success.
use Rattle.std.specs.Prelude.{ℕ, Result, Ok, Err}
use Rattle.refusal.specs.declared.Refusal.{Refusal}
use Rattle.refusal.specs.declared.Refusal.TheVariants.{TableLength, TableDelay, StateLength, StateValues, Kind, PayloadLength, OutputLength, ReceiverLength, LineForm, CountLimit, LineRoom, PayloadRemainder, FrameIndex, FieldWidth, OtherLaw, NoTableValue, LegsLength, PlayoutLimit, ArrivalNumber, Damaged, OtherTables, NoRule, OtherVersion, OtherCall, OtherOutput, Names}

abbrev pub number : Refusal → ℕ
number TableLength = 1
number TableDelay = 2
number StateLength = 3
number StateValues = 4
number Kind = 5
number PayloadLength = 6
number OutputLength = 7
number ReceiverLength = 8
number LineForm = 9
number CountLimit = 10
number LineRoom = 11
number PayloadRemainder = 12
number FrameIndex = 13
number FieldWidth = 15
number OtherLaw = 16
number NoTableValue = 17
number LegsLength = 19
number PlayoutLimit = 20
number ArrivalNumber = 21
number Damaged = 22
number OtherTables = 23
number NoRule = 24
number OtherVersion = 25
number OtherCall = 26
number OtherOutput = 27
number Names = 28

-- of an answer
abbrev pub code : {A : Type 0} → Result A Refusal → ℕ
code (Ok a) = 0
code (Err r) = number r

-- an answer with 01's number in place of the name
abbrev pub numbered : {A : Type 0} → Result A Refusal → Result A ℕ
numbered (Ok a) = Ok a
numbered (Err r) = Err (number r)

-- Laws of the numbers of refusals. Assumes nothing.
use Rattle.std.specs.Prelude.{◌≡◌, refl, false, eqb}
use Rattle.refusal.specs.declared.Refusal.{Refusal}
use Rattle.refusal.specs.declared.Refusal.TheVariants.{TableLength, TableDelay, StateLength, StateValues, Kind, PayloadLength, OutputLength, ReceiverLength, LineForm, CountLimit, LineRoom, PayloadRemainder, FrameIndex, FieldWidth, OtherLaw, NoTableValue, LegsLength, PlayoutLimit, ArrivalNumber, Damaged, OtherTables, NoRule, OtherVersion, OtherCall, OtherOutput, Names}
use Rattle.refusal.specs.Refusal.{number}

-- no refusal has the number of success
pub nonzero : (r : Refusal) → eqb (number r) 0 ≡ false
nonzero TableLength = refl
nonzero TableDelay = refl
nonzero StateLength = refl
nonzero StateValues = refl
nonzero Kind = refl
nonzero PayloadLength = refl
nonzero OutputLength = refl
nonzero ReceiverLength = refl
nonzero LineForm = refl
nonzero CountLimit = refl
nonzero LineRoom = refl
nonzero PayloadRemainder = refl
nonzero FrameIndex = refl
nonzero FieldWidth = refl
nonzero OtherLaw = refl
nonzero NoTableValue = refl
nonzero LegsLength = refl
nonzero PlayoutLimit = refl
nonzero ArrivalNumber = refl
nonzero Damaged = refl
nonzero OtherTables = refl
nonzero NoRule = refl
nonzero OtherVersion = refl
nonzero OtherCall = refl
nonzero OtherOutput = refl
nonzero Names = refl

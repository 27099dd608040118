-- Delays and fractions of a voice frame stay in range.
use Prim.Native.Nat.{ℕ}
use mathlib.Core.Bool.{Bool, true, false}
use mathlib.Core.List.{List}
use lib.Dec.{T}
use lib.IntN.{ℤ}
use Rattle.bitstream.specs.declared.SpeechParams.{SpeechParams}
use Rattle.pitch.specs.Pitch.{first, second}
use Rattle.pitch.specs.Laws.{t1_fraction_range, t2_integer_range, t2_fraction_range, first_range}
use Rattle.state.specs.declared.Params.{Params}
use Rattle.state.specs.State.{delay_in_range, accepted}
use Rattle.parameters.specs.Parameters.{voice}
use Rattle.parameters.specs.Parts.{Parts}
use Rattle.accepted.specs.Accepted.{carried_delay}
use Rattle.agreement.specs.Demand.{fraction_in_range, InRange}

first_good : (old : ℤ) (p1 : ℕ) (ok : Bool) → T (delay_in_range old) → InRange (first old p1 ok).delay
unfolding delay_in_range fraction_in_range first
first_good old p1 true h = record { integer = first_range old p1 true h; fraction = t1_fraction_range p1 }
first_good old p1 false h = record { integer = h; fraction = tt }

second_good : (p2 : ℕ) (t1 : ℤ) → InRange (second p2 t1).delay
unfolding delay_in_range fraction_in_range second
second_good p2 t1 = record { integer = t2_integer_range p2 t1; fraction = t2_fraction_range p2 t1 }

-- the delays of a voice frame
pub delays_good : (p : Params) → T (accepted p) → (t : List ℤ) (f : SpeechParams) → InRange (voice t f p).first.delay × InRange (voice t f p).second.delay
unfolding Parts
delays_good p ok t f = (first_good p.pitch.old f.p1 _ (carried_delay p ok), second_good f.p2 _)

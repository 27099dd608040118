-- The rule and the fields together determine the delay, given the one carried into that subframe or, for rule 3, the first subframe's (change request 12): one
-- function, for all numbers. The first subframe's part is proved in proofs/Determined.antt. Assumes nothing.
use Rattle.std.specs.Prelude.{◌+◌, ◌-◌, ◌*◌, ◌/◌, ◌%◌, ◌≡◌, refl, ℤ, pos, ◌+ℤ◌, ◌-ℤ◌}
use Rattle.bitstream.specs.declared.SpeechParams.{SpeechParams}
use Rattle.pitch.specs.declared.Delay.{Delay}
use Rattle.pitch.specs.Pitch.{decode_t2, carried, increased, first, second, erased, voice_delays, concealed_delays}
use Rattle.plc.specs.declared.Decision.{Decision}
use Rattle.plc.specs.declared.Decision.TheVariants.{Voice, Concealment}
use Rattle.rule.specs.declared.Rule.{Rule}
use Rattle.rule.specs.declared.Rule.TheVariants.{Thirds, Whole, Relative, BadParity, Concealed}
use Rattle.rule.specs.Rule.{rules, delays}

-- the delay by a rule, from the fields and one number: P1 in thirds or whole (clause 4.1.3, each without the test on P1), P2 relative to the number, or the number itself
unfoldable pub of_rule : Rule → SpeechParams → ℤ → Delay
of_rule Thirds f n =
    let p = f.p1 % 256 in
    let whole = (p + 2) / 3 + 19 in
    record { integer = pos whole; fraction = pos p -ℤ pos (3 * whole) +ℤ pos 58 }
of_rule Whole f n = record { integer = pos (f.p1 % 256 - 112); fraction = pos 0 }
of_rule Relative f n = decode_t2 f.p2 n
of_rule BadParity f n = carried n
of_rule Concealed f n = carried n

-- which number that is: for rule 3 the first subframe's, for the others the one carried into the subframe
unfoldable pub given : Rule → (carried_in first_delay : ℤ) → ℤ
given Thirds c t1 = c
given Whole c t1 = c
given Relative c t1 = t1
given BadParity c t1 = c
given Concealed c t1 = c

-- the fields of a frame; one that is concealed has none, and any will do
unfoldable pub fields : Decision → SpeechParams → SpeechParams
fields (Voice f) any = f
fields Concealment any = any

-- the delay carried into the second subframe: the first's, or in concealment one more than the carried one, at most 143
unfoldable pub carried_second : Decision → ℤ → ℤ
carried_second (Voice f) old = (delays (Voice f) old).first.integer
carried_second Concealment old = (increased old).old

pub second_determined : (d : Decision) (any : SpeechParams) (old : ℤ)
    → (delays d old).second ≡ of_rule (rules d).second (fields d any) (given (rules d).second (carried_second d old) (delays d old).first.integer)
unfolding rules fields carried_second delays voice_delays second concealed_delays erased of_rule given
second_determined (Voice f) any old = refl
second_determined Concealment any old = refl

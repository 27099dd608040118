-- The first subframe's rule and fields determine its delay, given the one carried into it; the second's are in specs/Determined.antt. Assumes nothing.
use Rattle.std.specs.Prelude.{◌%◌, ◌≡◌, refl, Bool, true, false, ltb, ℤ}
use Rattle.bitstream.specs.declared.SpeechParams.{SpeechParams}
use Rattle.pitch.specs.Pitch.{parity_ok, decode_t1, first, erased, voice_delays, concealed_delays}
use Rattle.plc.specs.declared.Decision.{Decision}
use Rattle.plc.specs.declared.Decision.TheVariants.{Voice, Concealment}
use Rattle.rule.specs.Rule.{first_rule, rules, delays}
use Rattle.rule.specs.Determined.{of_rule, given, fields}

first_voice : (f : SpeechParams) (old t1 : ℤ) → (ok thirds : Bool) → parity_ok f.p1 f.p0 ≡ ok → ltb (f.p1 % 256) 197 ≡ thirds
    → (delays (Voice f) old).first ≡ of_rule (first_rule f.p1 f.p0) f (given (first_rule f.p1 f.p0) old t1)
unfolding delays voice_delays first first_rule decode_t1 of_rule given
first_voice f old t1 true true e h = rw (e, h)
first_voice f old t1 true false e h = rw (e, h)
first_voice f old t1 false thirds e h = rw e

-- t1 is any number here: the first subframe's rule is never 3
pub first_determined : (d : Decision) (any : SpeechParams) (old t1 : ℤ) → (delays d old).first ≡ of_rule (rules d).first (fields d any) (given (rules d).first old t1)
unfolding rules fields delays concealed_delays erased of_rule given
first_determined (Voice f) any old t1 = first_voice f old t1 (parity_ok f.p1 f.p0) (ltb (f.p1 % 256) 197) refl refl
first_determined Concealment any old t1 = refl

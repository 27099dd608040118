-- Laws of the rules: each has its number and comes back from it; which rules there are in each subframe; the values at the border of thirds and whole. Assumes nothing.
use Rattle.std.specs.Prelude.{ℕ, zero, suc, ◌≤◌, ◌≡◌, refl, true, false, T, leb, pos, negsuc}
use Rattle.std.proofs.Common.{sym, subst, arith}
use Rattle.std.proofs.Math.Facts.{and_yes, leb_yes}
use Rattle.laws.specs.Loops.{steps}
use Rattle.basic_op.specs.Ops.{lesser}
use Rattle.bitstream.specs.declared.SpeechParams.{SpeechParams}
use Rattle.pitch.specs.Pitch.{parity_ok, decode_t1, increased, erased, first, concealed_delays}
use Rattle.plc.specs.declared.Decision.TheVariants.{Voice, Concealment}
use Rattle.rule.specs.declared.Rule.{Rule}
use Rattle.rule.specs.declared.Rule.TheVariants.{Thirds, Whole, Relative, BadParity, Concealed}
use Rattle.rule.specs.Rule.{number, known, of_number, first_rule, rules, delays}

-- ---- numbers

pub number_known : (r : Rule) → known (number r) ≡ true
unfolding number
number_known Thirds = refl
number_known Whole = refl
number_known Relative = refl
number_known BadParity = refl
number_known Concealed = refl

pub of_number_number : (r : Rule) → of_number (number r) ≡ r
unfolding number of_number
of_number_number Thirds = refl
of_number_number Whole = refl
of_number_number Relative = refl
of_number_number BadParity = refl
of_number_number Concealed = refl

known_few : (n : ℕ) → known n ≡ true → n ≤ 5
known_few n h = leb_yes (and_yes (leb 1 n) (leb n 5) (subst T (sym h) tt)).1

pub number_of_number : (n : ℕ) → known n ≡ true → number (of_number n) ≡ n
unfolding number of_number
number_of_number zero h = absurd (subst T (sym h) tt)
number_of_number (suc zero) h = refl
number_of_number (suc (suc zero)) h = refl
number_of_number (suc (suc (suc zero))) h = refl
number_of_number (suc (suc (suc (suc zero)))) h = refl
number_of_number (suc (suc (suc (suc (suc zero))))) h = refl
number_of_number (suc (suc (suc (suc (suc (suc n)))))) h = absurd (omega (arith, known_few (suc (suc (suc (suc (suc (suc n)))))) h))

-- ---- a received frame

-- where the parity fails P1 is not read; the second subframe is relative to the first all the same
pub bad_parity : (f : SpeechParams) → parity_ok f.p1 f.p0 ≡ false → rules (Voice f) ≡ record { first = BadParity; second = Relative }
unfolding rules first_rule
bad_parity f e = rw e

-- 196 is the last in thirds, 85 - 1/3; 197 the first whole, 85
pub thirds_196 : (first_rule 196 0 ≡ Thirds) × ((first (pos 60) 196 true).delay ≡ record { integer = pos 85; fraction = negsuc 0 })
unfolding first_rule parity_ok steps first decode_t1
thirds_196 = (refl, refl)

pub whole_197 : (first_rule 197 0 ≡ Whole) × ((first (pos 60) 197 true).delay ≡ record { integer = pos 85; fraction = pos 0 })
unfolding first_rule parity_ok steps first decode_t1
whole_197 = (refl, refl)

-- the same P1 with the other P0
pub parity_196 : first_rule 196 1 ≡ BadParity
unfolding first_rule parity_ok steps
parity_196 = refl

-- ---- concealment

pub concealed_rules : rules Concealment ≡ record { first = Concealed; second = Concealed }
unfolding rules
concealed_rules = refl

-- 144 is used, 143 is carried and used in the second
pub concealed_144 : delays Concealment (pos 144)
    ≡ record { first = record { integer = pos 144; fraction = pos 0 }; second = record { integer = pos 143; fraction = pos 0 }; state = record { old = pos 143 } }
unfolding delays concealed_delays erased increased lesser
concealed_144 = refl

-- How each subframe's delay was found (change request 12), and the delays themselves (G.729 clauses 4.1.2, 4.1.3 and 4.4.4).
use Rattle.std.specs.Prelude.{ℕ, ◌%◌, Bool, cond, ◌&&◌, eqb, leb, ltb, ℤ}
use Rattle.pitch.specs.declared.Delay.{Delay}
use Rattle.pitch.specs.declared.Delays.{Delays}
use Rattle.pitch.specs.Pitch.{parity_ok, voice_delays, concealed_delays}
use Rattle.plc.specs.declared.Decision.{Decision}
use Rattle.plc.specs.declared.Decision.TheVariants.{Voice, Concealment}
use Rattle.rule.specs.declared.Rule.{Rule}
use Rattle.rule.specs.declared.Rule.TheVariants.{Thirds, Whole, Relative, BadParity, Concealed}
use Rattle.rule.specs.declared.Rules.{Rules}
use Rattle.rule.specs.declared.Report.{Report}

-- ---- the numbers of change request 12

unfoldable pub number : Rule → ℕ
number Thirds = 1
number Whole = 2
number Relative = 3
number BadParity = 4
number Concealed = 5

-- the numbers that are a rule's
abbrev pub known : ℕ → Bool
known n = leb 1 n && leb n 5

-- the rule with this number; a number that is no rule's gives the last
unfoldable pub of_number : ℕ → Rule
of_number n = cond (eqb n 1) Thirds (cond (eqb n 2) Whole (cond (eqb n 3) Relative (cond (eqb n 4) BadParity Concealed)))

-- ---- the rules of a frame

-- of a received frame's first subframe: the parity comes first, then the eight low bits of P1
unfoldable pub first_rule : (p1 p0 : ℕ) → Rule
first_rule p1 p0 = cond (parity_ok p1 p0) (cond (ltb (p1 % 256) 197) Thirds Whole) BadParity

-- the second of a received frame is coded relative to the first, after bad parity too
unfoldable pub rules : Decision → Rules
rules (Voice f) = record { first = first_rule f.p1 f.p0; second = Relative }
rules Concealment = record { first = Concealed; second = Concealed }

-- ---- its delays, and what it hands up

-- both delays, and the one that is carried on, from the one carried into the frame
unfoldable pub delays : Decision → ℤ → Delays
delays (Voice f) old = voice_delays old f.p1 f.p0 f.p2
delays Concealment old = concealed_delays old

abbrev pub report : Decision → (first second : Delay) → Report
report d first second = record { first = first; second = second; rules = rules d }

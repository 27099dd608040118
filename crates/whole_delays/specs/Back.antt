-- A row of a table of delays tells all that the frame hands up (change request 12): its number, both delays with their fractions, and both rules. Assumes nothing.
use Rattle.std.specs.Prelude.{ℕ, ◌+◌, ◌≤◌, ◌≡◌, refl, Bool, true, false, cond, List, T, leb, ltb, ℤ, pos, negsuc, get_or}
use Rattle.std.proofs.Common.{arith, ltb-false}
use Rattle.std.proofs.Math.Facts.{and_yes, leb_yes}
use Rattle.basic_op.specs.Ops.{lesser}
use Rattle.pitch.specs.declared.Delay.{Delay}
use Rattle.pitch.specs.Pitch.{parity_ok, decode_t1, decode_t2, increased, first, second, erased, voice_delays, concealed_delays}
use Rattle.pitch.specs.Laws.{between, between_pos, t1_integer_range, t1_fraction_range, t2_integer_range, t2_fraction_range}
use Rattle.plc.specs.declared.Decision.{Decision}
use Rattle.plc.specs.declared.Decision.TheVariants.{Voice, Concealment}
use Rattle.rule.specs.declared.Rule.{Rule}
use Rattle.rule.specs.declared.Rule.TheVariants.{Thirds, Whole, Relative, BadParity, Concealed}
use Rattle.rule.specs.declared.Report.{Report}
use Rattle.rule.specs.Rule.{number, of_number, delays, report}
use Rattle.delay_line.specs.DelayLine.{thirds}
use Rattle.delay_line.specs.Undo.{numbers, row_back, of_thirds}
use Rattle.delay_line.proofs.Undo.{thirds_tell}
use Rattle.delay_step.specs.Step.{report_row}

-- ---- the numbers of the rules are told apart

pub rule_back : (r : Rule) → of_number (number r) ≡ r
unfolding of_number number
rule_back Thirds = refl
rule_back Whole = refl
rule_back Relative = refl
rule_back BadParity = refl
rule_back Concealed = refl

-- ---- the delays of a frame

-- one that a frame can have
abbrev pub Told : Delay → Type 0
Told d = of_thirds (thirds d) ≡ d

abbrev pub Range : ℤ → Type 0
Range z = T (between (pos 19) (pos 144) z)

carried_told : (old : ℤ) → Range old → Told (record { integer = old; fraction = pos 0 })
carried_told old h = thirds_tell (record { integer = old; fraction = pos 0 }) h tt

wider : (z : ℤ) → T (between (pos 19) (pos 143) z) → Range z
wider (pos n) h =
    let p = and_yes (leb 19 n) (leb n 143) h in
    between_pos 19 144 n (leb_yes p.0) (omega (arith, leb_yes {a = n} {b = 143} p.1))
wider (negsuc n) h = absurd h

t1_told : (p1 : ℕ) → Told (decode_t1 p1)
t1_told p1 = thirds_tell (decode_t1 p1) (wider (decode_t1 p1).integer (t1_integer_range p1)) (t1_fraction_range p1)

t2_told : (p2 : ℕ) (t1 : ℤ) → Told (decode_t2 p2 t1)
t2_told p2 t1 = thirds_tell (decode_t2 p2 t1) (t2_integer_range p2 t1) (t2_fraction_range p2 t1)

first_told : (old : ℤ) (p1 : ℕ) (ok : Bool) → Range old → Told (first old p1 ok).delay
unfolding first
first_told old p1 true h = t1_told p1
first_told old p1 false h = carried_told old h

one_more : (n : ℕ) (p : Bool) → ltb 143 (n + 1) ≡ p → 19 ≤ n → Range (cond p (pos 143) (pos (n + 1)))
one_more n true e h = tt
one_more n false e h = between_pos 19 144 (n + 1) (omega arith) (omega (arith, ltb-false 143 (n + 1) e))

increased_range : (old : ℤ) → Range old → Range (increased old).old
unfolding increased lesser
increased_range (pos n) h = one_more n (ltb 143 (n + 1)) refl (leb_yes (and_yes (leb 19 n) (leb n 144) h).0)
increased_range (negsuc n) h = absurd h

pub first_back : (d : Decision) (old : ℤ) → Range old → Told (delays d old).first
unfolding delays voice_delays concealed_delays erased
first_back (Voice f) old h = first_told old f.p1 (parity_ok f.p1 f.p0) h
first_back Concealment old h = carried_told old h

pub second_back : (d : Decision) (old : ℤ) → Range old → Told (delays d old).second
unfolding delays voice_delays second concealed_delays erased
second_back (Voice f) old h = t2_told f.p2 _
second_back Concealment old h = carried_told (increased old).old (increased_range old h)

-- ---- a row

-- a frame's number, and what it hands up
pub record Row : Type 0 where
  pub frame : ℕ
  pub report : Report

-- as five numbers tell them
unfoldable pub of_numbers : List ℕ → Row
of_numbers l =
    record {
      frame = get_or l 0 0;
      report =
          record { first = of_thirds (get_or l 1 0); second = of_thirds (get_or l 3 0); rules = record { first = of_number (get_or l 2 0); second = of_number (get_or l 4 0) } };
    }

-- of every frame, and every delay from 19 to 144 that is carried into it
pub row_tells : (n : ℕ) (d : Decision) (old : ℤ) → Range old
    → let r = report d (delays d old).first (delays d old).second in
    of_numbers (numbers 0 (report_row n r)) ≡ record { frame = n; report = r }
unfolding of_numbers report_row
row_tells n d old h =
    let r = report d (delays d old).first (delays d old).second in
    rw (
      row_back n (thirds r.first) (number r.rules.first) (thirds r.second) (number r.rules.second),
      first_back d old h,
      second_back d old h,
      rule_back r.rules.first,
      rule_back r.rules.second,
    )

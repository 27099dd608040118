-- The operations that answer more than a number, as C functions have them: the number is returned, and what is answered beside it goes to lent memory, which a refusal leaves as it was
-- (01, "Operations and their refusals").
use Rattle.std.specs.Prelude.{ℕ, Bool, cond, ◌&&◌, List, [], ◌∷◌, ℤ, pos, get_or, Result, Ok, Err}
use Rattle.kind.specs.Kind as Kind
use Rattle.rule.specs.declared.Rules.{Rules}
use Rattle.rule.specs.declared.Report.{Report}
use Rattle.rule.specs.Rule as Rule
use Rattle.agree.specs.declared.Agreement.{Agreement}
use Rattle.agree.specs.declared.Agreement.TheVariants as agreed
use Rattle.decoder.specs.Call as Frame
use Rattle.frame_delays.specs.Delays as Scan
use Rattle.count.specs.declared.Counts.{Counts}
use Rattle.count.specs.Count.{count}
use Rattle.line.specs.Line as Line
use Rattle.line.specs.Write as Write
use Rattle.playout.specs.Playout as Playout
use Rattle.compare_step.specs.declared.Class.TheVariants as compared
use Rattle.compare_step.specs.Compare as Compare

-- ---- what a frame hands up (change request 12): four numbers of its delays and two of their rules

-- integer and fraction of the first subframe's delay, then of the second's
abbrev pub delays_of : Report → List ℤ
delays_of r = r.first.integer ∷ r.first.fraction ∷ r.second.integer ∷ r.second.fraction ∷ []

abbrev pub rules_of : Report → List ℕ
rules_of r = Rule.number r.rules.first ∷ Rule.number r.rules.second ∷ []

-- ---- Frame: its number, the state block and the samples, the delays and the rules

pub data LentFrame : Type 0 where
  framed : ℕ → List ℤ → List ℤ → List ℤ → List ℕ → LentFrame

-- a refusal leaves the delays and the rules as they were
unfoldable pub lend_frame : List ℤ → List ℕ → Frame.Answer → LentFrame
lend_frame delays rules (Frame.answer (Err n) b out) = framed n b out delays rules
lend_frame delays rules (Frame.answer (Ok r) b out) = framed 0 b out (delays_of r) (rules_of r)

-- ---- the delays of a frame without its samples: the number, the delay that is carried on, the delays and the rules

pub data LentDelays : Type 0 where
  scanned : ℕ → ℤ → List ℤ → List ℕ → LentDelays

-- a refusal leaves the delays and the rules as they were
unfoldable pub lend_delays : List ℤ → List ℕ → Scan.Answer → LentDelays
lend_delays delays rules (Scan.answer (Err n) carried) = scanned n carried delays rules
lend_delays delays rules (Scan.answer (Ok r) carried) = scanned 0 carried (delays_of r) (rules_of r)

-- ---- Line and the writing of a line: the number, the kind or the length, and the bytes

pub data Lent : Type 0 where
  lent : ℕ → ℕ → List ℕ → Lent

-- a refusal leaves the kind as it was
unfoldable pub lend_line : ℕ → Line.Answer → Lent
lend_line before (Line.answer (Err n) bytes) = lent n before bytes
lend_line before (Line.answer (Ok kind) bytes) = lent 0 kind bytes

-- a refusal leaves the length as it was
unfoldable pub lend_write : ℕ → Write.Answer → Lent
lend_write before (Write.answer (Err n) bytes) = lent n before bytes
lend_write before (Write.answer (Ok length) bytes) = lent 0 length bytes

-- ---- Trying a playout depth: the number, the lost count and the kinds

-- a refusal leaves the lost count as it was
unfoldable pub lend_playout : ℕ → Playout.Answer (Result ℕ ℕ) → Lent
lend_playout before (Playout.answer (Err n) kinds) = lent n before kinds
lend_playout before (Playout.answer (Ok lost) kinds) = lent 0 lost kinds

-- ---- Count: its number and the counts, seven numbers

pub data Counting : Type 0 where
  counting : ℕ → List ℕ → Counting

-- in the order frames, lost, rules 1 to 5
abbrev pub counts_of : List ℕ → Counts
counts_of l =
    record {
      frames = get_or l 0 0;
      lost = get_or l 1 0;
      thirds = get_or l 2 0;
      whole = get_or l 3 0;
      relative = get_or l 4 0;
      parity = get_or l 5 0;
      concealed = get_or l 6 0;
    }

abbrev pub numbers_of : Counts → List ℕ
numbers_of c = c.frames ∷ c.lost ∷ c.thirds ∷ c.whole ∷ c.relative ∷ c.parity ∷ c.concealed ∷ []

-- the rules are handed in as numbers
abbrev pub rules_known : (first second : ℕ) → Bool
rules_known first second = Rule.known first && Rule.known second

abbrev pub rules_of_numbers : (first second : ℕ) → Rules
rules_of_numbers first second = record { first = Rule.of_number first; second = Rule.of_number second }

-- a refusal leaves the counts as they were
unfoldable pub lend_counted : List ℕ → Result Counts ℕ → Counting
lend_counted before (Err n) = counting n before
lend_counted before (Ok c) = counting 0 (numbers_of c)

-- 5: kind above 3. 24: a number that is no rule's. Else what Count answers
unfoldable pub lend_count : (kind first second : ℕ) → List ℕ → Counting
lend_count kind first second l =
    cond
    (Kind.known kind)
    (cond (rules_known first second) (lend_counted l (count kind (rules_of_numbers first second) (counts_of l))) (counting 24 l))
    (counting 5 l)

-- ---- the agreement of two decoders: its number, and how far it goes

pub data Agreeing : Type 0 where
  agreeing : ℕ → ℕ → Agreeing

-- a refusal leaves the answer as it was
unfoldable pub lend_agree : ℕ → Result Agreement ℕ → Agreeing
lend_agree before (Err n) = agreeing n before
lend_agree before (Ok agreed.Nothing) = agreeing 0 0
lend_agree before (Ok agreed.Parameters) = agreeing 0 1
lend_agree before (Ok agreed.Pulses) = agreeing 0 2
lend_agree before (Ok agreed.Samples) = agreeing 0 3

-- ---- the comparison with a far decoder: the number, the memory and the samples, and what the frame is

pub data Comparing : Type 0 where
  comparing : ℕ → List ℤ → List ℤ → ℕ → ℕ → ℤ → Comparing

-- of class, number and rest as they were
unfoldable pub lend_compare : ℕ → ℕ → ℤ → Compare.Answer → Comparing
lend_compare class number rest (Compare.answer (Err n) m out) = comparing n m out class number rest
lend_compare class number rest (Compare.answer (Ok compared.Concealed) m out) = comparing 0 m out 0 0 (pos 0)
lend_compare class number rest (Compare.answer (Ok (compared.Settling n)) m out) = comparing 0 m out 1 n (pos 0)
lend_compare class number rest (Compare.answer (Ok (compared.NotClean n)) m out) = comparing 0 m out 2 n (pos 0)
lend_compare class number rest (Compare.answer (Ok compared.Known) m out) = comparing 0 m out 3 0 (pos 0)
lend_compare class number rest (Compare.answer (Ok (compared.Differs d)) m out) = comparing 0 m out 4 d.sample d.rest

-- The last form of a call (01, "The call text and the program"): the total, whose frames are its lines, or a refusal with 9 or 10 whose L is the number of line feeds before the refused
-- line, and 1. That every call has it is proved in proofs/Ending.antt. Assumes nothing.
use Rattle.std.specs.Prelude.{◌≡◌, Bool, true, false, cond, List, [], ◌∷◌, ◌++◌, ℕ, ◌+◌, ◌≤◌, ◌<◌, eqb, length}
use Rattle.std.proofs.Common.{arith}
use Rattle.count.specs.declared.Counts.{Counts}
use Rattle.count.specs.Count.{frames_are}
use Rattle.print.specs.Print.{total, refused}
use Rattle.tables.specs.Layout.{table_check}
use Rattle.state.specs.State.{state_check}
use Rattle.state.specs.Laws.{fresh_accepted, check_of_accepted}
use Rattle.words.specs.Words.{words}
use Rattle.call.specs.Call.{fresh_job, file_check, output}
use Rattle.whole_call.specs.Codes.{refuses}

-- the number of line feeds
unfoldable pub feeds : List ℕ → ℕ
feeds [] = 0
feeds (b ∷ l) = cond (eqb b 10) 1 0 + feeds l

-- whether the last byte of a text is a line feed; p is the answer for no bytes
unfoldable pub ended : Bool → List ℕ → Bool
ended p [] = p
ended p (b ∷ l) = ended (eqb b 10) l

-- how all that is printed of a text behind n lines ends; what stands before the last form is `printed`'s to say
pub data Ending (n : ℕ) (text out : List ℕ) : Type 0 where
  -- of whole lines: the total, with as many frames as there are lines
  with_total : (samples : List ℕ) (c : Counts) → ended true text ≡ true → frames_are (n + feeds text) c ≡ true → out ≡ samples ++ total c → Ending n text out
  -- or the refusal, with 9 or 10, of the line that stands behind some whole lines
  with_refusal : (samples before rest : List ℕ) (code : ℕ) → refuses code ≡ true → text ≡ before ++ rest → ended true before ≡ true → 0 < length rest
      → out ≡ samples ++ refused code (n + feeds before + 1) → Ending n text out

-- tables that are accepted
pub checked : (file : List ℕ) → file_check file ≡ 0 → table_check (words file) ≡ 0
unfolding file_check
checked file = by (eqb (length file) 3760)
  where
    by : (p : Bool) → cond p (table_check (words file)) 1 ≡ 0 → table_check (words file) ≡ 0
    by true e = e
    by false e = absurd (omega arith)

-- and the state that a call begins in
pub fresh_checked : (file : List ℕ) → file_check file ≡ 0 → state_check (fresh_job (words file)).block ≡ 0
unfolding fresh_job
fresh_checked file e = check_of_accepted _ (fresh_accepted (words file) (checked file e))

-- all that the program prints: samples and a last form, or with tables that are refused code 1 or 2 and line 0 alone
pub record Ends (file text : List ℕ) : Type 0 where
  pub with_tables : file_check file ≡ 0 → Ending 0 text (output file text)
  pub no_tables : (file_check file ≡ 0 → ⊥) → (output file text ≡ refused (file_check file) 0) × (file_check file ≤ 2)

-- Writing and reading a line undo each other (01 has both: the forms are compared and written). Assumes nothing.
use Rattle.std.specs.Prelude.{◌≡◌, refl, Bool, true, false, cond, List, ◌++◌, ℕ, ◌+◌, ◌≤◌, ◌<◌, eqb, length, get_or, take, drop, Ok, Err}
use Rattle.std.proofs.Common.{◌∙◌, arith, length-take, eq-eqb, eqb-true}
use Rattle.std.proofs.Math.Seq.{take-append_seam}
use Rattle.text.specs.Text.{written}
use Rattle.kind.specs.Kind.{known, payload_length}
use Rattle.kind.specs.Laws.{known_low, low_known, payload_few}
use Rattle.line.specs.Line.{longest, text, line}
use Rattle.line.specs.Line as Line
use Rattle.line.specs.Write.{answer, write}
use Rattle.line.specs.Laws.{sound, complete}

-- what is written, and when
pub record Wrote (kind : ℕ) (l lent : List ℕ) (n : ℕ) (out : List ℕ) : Type 0 where
  pub low : kind ≤ 3
  pub size : length l ≡ payload_length kind
  pub room : length lent ≡ longest
  pub line_length : n ≡ length (text kind l)
  pub bytes : out ≡ written (text kind l) 0 lent

pub wrote : (kind : ℕ) (l lent out : List ℕ) (n : ℕ) → write kind l lent ≡ answer (Ok n) out → Wrote kind l lent n out
unfolding write
wrote kind l lent out n = by (known kind) (eqb (length l) (payload_length kind)) (eqb (length lent) longest) refl refl refl
  where
    by : (p q r : Bool) → known kind ≡ p → eqb (length l) (payload_length kind) ≡ q → eqb (length lent) longest ≡ r
        → cond p (cond q (cond r (answer (Ok (length (text kind l))) (written (text kind l) 0 lent)) (answer (Err 7) lent)) (answer (Err 6) lent)) (answer (Err 5) lent) ≡ answer (Ok n) out
        → Wrote kind l lent n out
    by true true true e f g h = record { low = known_low kind e; size = eqb-true _ _ f; room = eqb-true _ _ g; line_length = cc; bytes = cc }
    by true true false e f g h = let z : ◌≡◌ {A = ℕ} 0 1 = cc in absurd (omega arith)
    by true false r e f g h = let z : ◌≡◌ {A = ℕ} 0 1 = cc in absurd (omega arith)
    by false q r e f g h = let z : ◌≡◌ {A = ℕ} 0 1 = cc in absurd (omega arith)

-- what is written is read back
pub read_written : (kind : ℕ) (l lent out ten : List ℕ) (n : ℕ) → ((i : ℕ) → get_or l i 0 < 256) → length ten ≡ 10 → write kind l lent ≡ answer (Ok n) out
    → line (take n out) ten ≡ Line.answer (Ok kind) (l ++ drop (payload_length kind) ten)
unfolding written
read_written kind l lent out ten n b h e =
    let w = wrote kind l lent out n e in
    rw (w.bytes, w.line_length, take-append_seam (text kind l) (drop (0 + length (text kind l)) lent)) (complete kind w.low l ten w.size b h)

-- and what is read is written back
pub written_read : (l ten left lent : List ℕ) (kind : ℕ) → length lent ≡ longest → line l ten ≡ Line.answer (Ok kind) left
    → write kind (take (payload_length kind) left) lent ≡ answer (Ok (length l)) (written l 0 lent)
unfolding write
written_read l ten left lent kind h e =
    let t = sound l ten left kind e in
    let n : length (take (payload_length kind) left) ≡ payload_length kind = length-take (payload_length kind) left ∙ omega (arith, t.ten, payload_few kind) in
    rw (low_known kind t.low, eq-eqb _ _ n, eq-eqb _ _ h, ← t.one_of)

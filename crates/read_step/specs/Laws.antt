-- What the proofs of `read_step` use: a turn of crate call on the front of the input, and its rest moved to the front. Assumes nothing.
use Rattle.std.specs.Prelude.{◌≡◌, refl, List, [], ◌∷◌, ◌++◌, ℕ, zero, suc, ◌+◌, ◌-◌, min, ℤ}
use Rattle.std.proofs.Common.{ap, ◌∙◌, length-take}
use Rattle.std.proofs.Math.Path.{sym}
use Rattle.std.proofs.Math.Nat.{sub-zero}
use Rattle.std.proofs.Math.ListN.{length, take, drop}
use Rattle.std.proofs.Math.Seq.{slice, take-append_seam}
use Rattle.print.specs.Print.{over}
use Rattle.line_step.specs.Step.{Job}
use Rattle.call.specs.Chunk.{Part, part, given, tested, turn}
use Rattle.call.specs.Chunk as Chunk
use Rattle.call.specs.Laws.{turn_are}
use Rattle.read_step.specs.Reading.{full, answer, read_step}

-- the first n bytes, as many as there are
pub front : (n : ℕ) (l : List ℕ) {to : ℕ} → to ≡ min n (length l) → take (to - 0) l ≡ take n l
front n l {to} e = rw (sub-zero to, e, ← length-take n l) (again n l)
  where
    again : (n : ℕ) (l : List ℕ) → take (length (take n l)) l ≡ take n l
    again zero l = refl
    again (suc n) [] = refl
    again (suc n) (x ∷ l) = rw (again n l)

-- the lines of the first n bytes, and the rest behind them moved to the front
pub step_is : (t : List ℤ) (job : Job) (n : ℕ) (input out : List ℕ) {to used written k : ℕ} {next : Job} {input' out' : List ℕ} → to ≡ min n (length input)
    → Chunk.answer next used written out' ≡ turn t job (full + 1) (take (to - 0) input) out → k ≡ length (slice used to input) → input' ≡ over (slice used to input) input
    → answer next k written input' out' ≡ read_step t job n input out
unfolding read_step turn given tested
step_is t job n input out {to} {used} {written} {k} {next} {input'} {out'} ht e hk hi =
    let w : take (to - 0) input ≡ take n input = front n input ht in
    let g : Chunk.answer next used written out' ≡ turn t job (full + 1) (take n input) out = rw w at e in
    let P : Part = part t job (full + 1) (length out) [] (take n input) in
    let f = turn_are t job (full + 1) (take n input) out g in
    let u : slice used to input ≡ P.unused = rw (← sub-zero to, w) f.1.0 in
    let hw : written ≡ length P.text = cc in
    let ho : out' ≡ over P.text out = cc in
    rw (hk, hi, u, hw, ho, f.0)

-- what `read_step` says of an answer and both buffers, in terms of the part
module _ (t : List ℤ) (job : Job) (n : ℕ) (input out : List ℕ) where
  abbrev P : Part
  P = part t job (full + 1) (length out) [] (take n input)

  pub step_are : {next : Job} {held written : ℕ} {input' out' : List ℕ} → answer next held written input' out' ≡ read_step t job n input out
      → (next ≡ (tested P).job) × ((length (take held input') ≡ held) × ((take held input' ≡ P.unused) × (take written out' ≡ P.text)))
  unfolding read_step tested over
  step_are {next} {held} {written} {input'} {out'} e =
      let hn : next ≡ (tested P).job = cc in
      let hh : held ≡ length P.unused = cc in
      let hw : written ≡ length P.text = cc in
      let hi : input' ≡ P.unused ++ drop (length P.unused) input = cc in
      let ho : out' ≡ P.text ++ drop (length P.text) out = cc in
      let u : take held input' ≡ P.unused = rw (hh, hi) (take-append_seam P.unused _) in
      (hn, (ap length u ∙ sym hh, (u, rw (hw, ho) (take-append_seam P.text _))))

-- What the proofs use of a part's definition, and of when a state is due. Assumes nothing.
use Rattle.std.specs.Prelude.{◌≡◌, ℕ, ◌+◌, ◌%◌, ◌^◌, ◌<◌, ◌≤◌, Bool, false, List, [], length, take, ℤ}
use Rattle.std.proofs.Common.{◌∙◌, sym, leb-false, length-take-le}
use Rattle.call.specs.Chunk as Chunk
use Rattle.job.specs.declared.Saved.{Saved}
use Rattle.job.specs.Part.{going, after, taken, part}
use Rattle.job.specs.Part as Part
use Rattle.job_step.specs.Step.{each, due}

-- where no state is due
pub not_due : (p : Saved) (saved : ℕ) (r : Bool) → r ≡ due p saved → r ≡ false → p.lines < saved + each
unfolding due
not_due p saved r e f = leb-false _ _ (sym e ∙ f)

-- the place behind a part counts the forms that were written
pub part_written : (t b b' : List ℤ) (p place : Saved) (most code written left : ℕ) (input out v : List ℕ) → Part.answer b' code place written left v ≡ part t b p most input out
    → place.written ≡ (p.written + written) % 2 ^ 64
unfolding part taken after
part_written t b b' p place most code written left input out v e =
    let q : Chunk.Part = Chunk.part t (going b p) most (length out) [] input in
    let w : written ≡ length q.text = cc in
    let h : place ≡ after p input q = cc in
    rw (h, w)

-- forms of n bytes, put behind the others, end where the place behind them says
pub put_behind : (d a q w n : ℕ) (l : List ℕ) → d ≡ (a + length (take n l)) % 2 ^ 64 → a ≡ q → n ≤ length l → w ≡ (q + n) % 2 ^ 64 → d ≡ w
put_behind d a q w n l e f h g = rw (e, f, g, length-take-le n l h)

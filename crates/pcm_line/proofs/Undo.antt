-- Writing and reading a line of samples undo each other (01 prints such lines; a leg's text is read back). Assumes nothing.
use Rattle.std.specs.Prelude.{◌≡◌, List, ◌++◌, ℕ, ◌-◌, ◌≤◌, ◌<◌, ℤ, length, take, drop}
use Rattle.std.proofs.Common.{arith}
use Rattle.text.specs.Text.{ascii}
use Rattle.print.specs.Print.{over}
use Rattle.pcm_line.specs.PcmLine.{pcm_text, pcm_line, samples, answer, read}
use Rattle.pcm_line.specs.Laws.{text_taken, read_many, read_front}
use Rattle.pcm_line.proofs.Laws.{samples_text, line_samples}
use Rattle.pcm_line.specs.Undo.{Words}

-- what is written of at most 80 samples, without its line feed, is read back
pub read_written : (l : List ℤ) (lent out : List ℕ) (n : ℕ) (back : List ℤ) → length l ≤ 80 → Words l → n ≡ length (pcm_line l) → out ≡ over (pcm_line l) lent
    → read (take (n - 1) out) back ≡ answer (length l) (l ++ drop (length l) back)
unfolding read
read_written l lent out n back h w e f =
    let t : take (n - 1) out ≡ pcm_text l = text_taken l lent e f in
    rw (t, samples_text l h w)

-- and a line that is read is what is written of its samples
pub written_read : (l : List ℕ) (lent left : List ℤ) (n : ℕ) → answer n left ≡ read l lent → 0 < n → pcm_line (take n left) ≡ l ++ ascii "\n"
written_read l lent left n e h =
    let m : n ≡ length (samples l) = read_many l lent e in
    rw (read_front l lent e) (line_samples l (omega arith))

-- The far end's samples as a file has them: in the printed form of `decode`, or as words of 16 bits, low byte first, also in a WAV file.
use Rattle.std.specs.Prelude.{Bool, cond, List, ℕ, ◌+◌, ◌*◌, eqb, ltb, ℤ, length, take, Option, None, Some}
use Rattle.laws.specs.Bytes.{same}
use Rattle.laws.specs.Lists.{tab}
use Rattle.text.specs.Text.{ascii, starts}
use Rattle.print.specs.Print.{pcm}
use Rattle.pcm_line.specs.PcmLine.{sample}
use Rattle.words.specs.Words.{words}
use Rattle.far.specs.declared.Found.{Found}
use Rattle.far.specs.declared.Form.{Form}
use Rattle.far.specs.declared.Form.TheVariants.{Words, Printed, Wav}

-- the form of a file, by its first bytes: a WAV file, printed, or words
unfoldable pub form : List ℕ → Form
form l = cond (starts (ascii "RIFF") l) Wav (cond (starts (ascii "(pcm ") l) Printed Words)

-- the form of a number; another number is that of words
abbrev pub form_of : ℕ → Form
form_of n = cond (eqb n 1) Printed (cond (eqb n 2) Wav Words)

-- the 80 samples of the digits behind `(pcm `
unfoldable pub printed : List ℕ → List ℤ
printed l = tab 80 (λ k. sample l (5 + 4 * k))

-- whether a printed frame is at the front: what is printed of the samples that it has
unfoldable pub is_printed : List ℕ → Bool
is_printed l = same (take 327 l) (pcm (printed (take 327 l)))

-- how many bytes of a file of this form are its next frame; 0 where there is none
unfoldable pub taken : Form → List ℕ → ℕ
taken Words l = cond (ltb (length l) 160) 0 160
taken Printed l = cond (is_printed l) 327 0
taken Wav l = cond (ltb (length l) 160) 0 160

-- the samples of that frame, where there is one
unfoldable pub samples : Form → List ℕ → List ℤ
samples Words l = words (take 160 l)
samples Printed l = printed (take 327 l)
samples Wav l = words (take 160 l)

-- both
unfoldable pub frame : Form → List ℕ → Option Found
frame f l = cond (eqb (taken f l) 0) None (Some (record { bytes = taken f l; samples = samples f l }))

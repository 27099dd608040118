-- What a list of samples is. That writing and reading a line of them undo each other is proved in proofs/Undo.antt. Assumes nothing.
use Rattle.std.specs.Prelude.{List, ℕ, ◌<◌, ℤ}
use Rattle.std.specs.Int.Signed.{mag}
use Rattle.laws.specs.Lists.{at}

-- samples are words of 16 bits
abbrev pub Words : List ℤ → Type 0
Words l = (k : ℕ) → mag (at l k) < 32768

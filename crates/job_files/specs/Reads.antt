-- A call read again from its beginning on, as far as a job has taken it.
use Rattle.std.specs.Prelude.{List, ℕ, ◌≤◌}
use Rattle.std.proofs.Common.{arith}
use Rattle.job.specs.declared.parts.Again.{Again}
use Rattle.job.specs.Part.{read_again}

-- what reads, one behind another, leave of so many bytes
pub data Reads : ℕ → Again → Type 0 where
  none : (at : ℕ) → Reads at (record { sum = 0; left = at })
  more : {at : ℕ} {a : Again} → Reads at a → (l : List ℕ) → Reads at (read_again a l)

-- no more is left than there was
pub reads_left : {at : ℕ} {a : Again} → Reads at a → a.left ≤ at
unfolding read_again
reads_left (none at) = omega arith
reads_left (more r l) = let h = reads_left r in omega arith

-- Names of files beside the state file, as lists of bytes.
use Rattle.std.specs.Prelude.{ℕ, suc, ◌+◌, cond, List, [], ◌∷◌, ◌++◌, length, ◌==◌, nat_le, Option, None, Some}
use Rattle.print.specs.Print.{over}
use Rattle.text.specs.Text.{ascii}

-- `.new` behind it
unfoldable pub new : List ℕ → List ℕ
new path = path ++ ascii ".new"

-- the number of bytes, where they have room, and the lent ones
pub data Answer : Type 0 where
  answer : Option ℕ → List ℕ → Answer

-- `.new` behind the path, in lent bytes; none, and the bytes as they were, where they are too few
unfoldable pub aside : List ℕ → List ℕ → Answer
aside path out = cond (nat_le (length path + 4) (length out)) (answer (Some (length path + 4)) (over (new path) out)) (answer None out)

-- how many bytes of a path stand up to its last `/`, with it; 0 where it has none
unfoldable pub folder : List ℕ → ℕ
folder [] = 0
folder (b ∷ l) = cond (folder l == 0) (cond (b == 47) 1 0) (suc (folder l))

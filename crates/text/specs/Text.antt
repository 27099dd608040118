-- Texts (01, "The call text and the program") as the lists of their bytes in ASCII, and a text written part by part into lent bytes.
use Rattle.std.specs.Prelude.{◌≡◌, Bool, List, [], ◌∷◌, ◌++◌, ℕ, ◌+◌, ◌≤◌, length, take, drop}
use Prim.Native.Char.{code}
use Prim.Native.String.{String, [] as none, ◌∷◌ as ◌then◌}
use Rattle.laws.specs.Bytes.{same}

-- the bytes of a text
abbrev pub ascii : String → List ℕ
ascii none = []
ascii (c then s) = code c ∷ ascii s

-- whether a text begins with s
unfoldable pub starts : List ℕ → List ℕ → Bool
starts s l = same (take (length s) l) s

-- lent bytes with a text at a place
unfoldable pub written : List ℕ → ℕ → List ℕ → List ℕ
written s from lent = take from lent ++ s ++ drop (from + length s) lent

-- a part that is written at a place: it has room, and r is the place behind it
pub record Put (s : List ℕ) (from : ℕ) (lent : List ℕ) (r : ℕ) (out : List ℕ) : Type 0 where
  pub room : from + length s ≤ length lent
  pub place : r ≡ from + length s
  pub bytes : out ≡ written s from lent

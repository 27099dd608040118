-- Blocks of words (01, "The table block and the state block"): a part of a block, and a block in which words are written.
use Rattle.std.specs.Prelude.{cond, List, ◌++◌, ℕ, ◌+◌, eqb, leb, ℤ, length, take, drop}
use Rattle.laws.specs.Lists.{at, tab}

-- the n words of b from place `from` on; a word past the end is 0
unfoldable pub part : List ℤ → ℕ → ℕ → List ℤ
part b from n = tab n (λ k. at b (from + k))

-- b with the words of v from place n on; b itself where it ends before them
unfoldable pub put : List ℤ → ℕ → List ℤ → List ℤ
put b n v = cond (leb (n + length v) (length b)) (take n b ++ v ++ drop (n + length v) b) b

-- v in place of b, where b has its length
unfoldable pub copy : List ℤ → List ℤ → List ℤ
copy b v = cond (eqb (length b) (length v)) v b

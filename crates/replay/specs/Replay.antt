-- What the programs of the gate do with a stored list of answers (oracle/README.md): its hexadecimal words, and the counts of what was compared.
use Rattle.std.specs.Prelude.{Bool, cond, not, List, ℕ, ◌+◌, ◌-◌, ◌*◌, ◌/◌, ◌%◌, min, eqb, ltb, ℤ, pos, length, get_or, set}
use Rattle.std.specs.Int.{w32}
use Rattle.std.proofs.Common.{to_z}
use Rattle.basic_op.specs.Ops.{low16, extract_l}
use Rattle.laws.specs.Digits.{value}
use Rattle.laws.specs.Lists.{at}
use Rattle.laws.specs.Loops.{steps}

-- the number of n digits from place p of a text on, the highest first, in 32 bits; a byte past the end counts as 0
unfoldable pub number : List ℕ → ℕ → ℕ → ℕ
number l p n = steps (λ k v. (16 * v + value (get_or l (p + k) 0)) % 4294967296) n 0

-- the 16 lower bits of a number of 32, in two's complement
unfoldable pub word : ℕ → ℤ
word x = extract_l (to_z w32 x)

-- word k of a text, four digits each; 0 past the last
unfoldable pub word_at : List ℕ → ℕ → ℤ
word_at l k = cond (ltb k (length l / 4)) (word (number l (4 * k) 4)) (pos 0)

-- byte k of a frame's line, a word each
unfoldable pub byte : List ℤ → ℕ → ℕ
byte f k = low16 (at f k) % 256

-- ---- the tally, 32 rows: row r counts the values that were compared at 2 r, and those that differ at 2 r + 1

-- one more at place n, and no more than 32 bits hold
unfoldable pub count_at : ℕ → List ℕ → List ℕ
count_at n l = set l n (min (get_or l n 0 + 1) 4294967295)

-- a value that differs or not; a row past the last counts none
unfoldable pub count : ℕ → Bool → List ℕ → List ℕ
count row differs l = cond (ltb row 32) (cond differs (count_at (2 * row + 1) (count_at (2 * row) l)) (count_at (2 * row) l)) l

-- whether two words differ
unfoldable pub unequal : ℤ → ℤ → Bool
unequal a b = not (eqb (low16 a) (low16 b))

-- the words of v behind the first n against those of l from place p on
unfoldable pub compare : ℕ → List ℤ → ℕ → List ℤ → ℕ → List ℕ → List ℕ
compare row l p v n t = steps (λ k t. count row (unequal (at l (p + k)) (at v (n + k))) t) (length v - n) t

-- what a row counts; 0 past the last
unfoldable pub compared : List ℕ → ℕ → ℕ
compared l row = cond (ltb row 32) (get_or l (2 * row) 0) 0

unfoldable pub differ : List ℕ → ℕ → ℕ
differ l row = cond (ltb row 32) (get_or l (2 * row + 1) 0) 0

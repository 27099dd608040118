-- A part of a list of bytes, and the first place of a byte.
use Rattle.std.specs.Prelude.{List, [], ◌∷◌, ℕ, suc, ◌-◌, Bool, cond, eqb, take, drop}

-- the bytes of l from place `from` on, up to place `to`
unfoldable pub slice : ℕ → ℕ → List ℕ → List ℕ
slice from to l = take (to - from) (drop from l)

-- the place after one that is passed, or 0 where the byte stands there
unfoldable pub index_after : Bool → ℕ → ℕ
index_after here rest = cond here 0 (suc rest)

-- the first place at which l has the byte x; its length where there is none
unfoldable pub index_of : ℕ → List ℕ → ℕ
index_of x [] = 0
index_of x (b ∷ l) = index_after (eqb b x) (index_of x l)

-- A line of an arrivals text, without its line feed: a frame number, a space, a tab or a comma, and a time. Both are decimal numbers of 32 bits; leading zeros are allowed.
use Rattle.std.specs.Prelude.{Bool, true, cond, ◌&&◌, ◌||◌, List, [], ◌∷◌, ℕ, suc, eqb, leb, take, drop, Option, None, Some}
use Rattle.print.specs.Laws.{read as value}
use Rattle.arrival_line.specs.declared.Arrival.{Arrival}

-- ---- a number

-- 0-9
unfoldable pub is_digit : ℕ → Bool
is_digit b = leb 48 b && leb b 57

unfoldable pub all_digits : List ℕ → Bool
all_digits [] = true
all_digits (b ∷ l) = is_digit b && all_digits l

-- one digit or more, whose value has 32 bits
unfoldable pub number : List ℕ → Option ℕ
number [] = None
number (b ∷ l) = cond (all_digits (b ∷ l) && leb (value 0 (b ∷ l)) 4294967295) (Some (value 0 (b ∷ l))) None

-- ---- a line

-- a space, a tab or a comma
unfoldable pub separates : ℕ → Bool
separates b = eqb b 32 || eqb b 9 || eqb b 44

-- how many bytes stand in front of the first of these; all where there is none
unfoldable pub front : List ℕ → ℕ
front [] = 0
front (b ∷ l) = cond (separates b) 0 (suc (front l))

unfoldable pub both : Option ℕ → Option ℕ → Option Arrival
both None t = None
both (Some n) None = None
both (Some n) (Some t) = Some (record { number = n; time = t })

-- a number in front of the first separator, and a number behind it
unfoldable pub read : List ℕ → Option Arrival
read l = both (number (take (front l) l)) (number (drop (suc (front l)) l))

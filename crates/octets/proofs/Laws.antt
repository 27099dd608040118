-- What the proofs use of these definitions: the first place of a byte is the one that std's `position` finds. Assumes nothing.
use Rattle.std.specs.Prelude.{◌≡◌, refl, Bool, true, false, cond, not, List, [], ◌∷◌, ℕ, ◌+◌, ◌-◌, ◌≤◌, length, eqb, ltb, Option, Some, None}
use Rattle.std.proofs.Common.{arith, ltb-false, length-take, length-drop}
use Rattle.std.specs.List.{position_or_len}
use Rattle.octets.specs.Octets.{slice, index_after, index_of}

after_is : (here : Bool) (m n : ℕ) → m ≡ n → index_after here m ≡ cond (not here) (1 + n) 0
unfolding index_after
after_is true m n e = refl
after_is false m n e = omega arith

pub index_is : (x : ℕ) (l : List ℕ) → index_of x l ≡ position_or_len (λ b. eqb b x) l
unfolding index_of
index_is x [] = refl
index_is x (b ∷ l) = after_is (eqb b x) _ _ (index_is x l)

pub length_slice : (from to : ℕ) (l : List ℕ) → from ≤ to → to ≤ length l → length (slice from to l) ≡ to - from
unfolding slice
length_slice from to l h k = simp (length-take, length-drop) (omega arith)

-- the call's result, by what it says of it
pub found : (p m n : ℕ) (r : Option ℕ) → r ≡ cond (ltb p m) (Some p) None → r ≡ Some n → n ≡ p
found p m n r e s = go (ltb p m) e
  where
    go : (t : Bool) → r ≡ cond t (Some p) None → n ≡ p
    go true e = cc
    go false e = cc

pub missed : (p m : ℕ) (r : Option ℕ) → r ≡ cond (ltb p m) (Some p) None → r ≡ None → m ≤ p
missed p m r e s = go (ltb p m) refl e
  where
    go : (t : Bool) → ltb p m ≡ t → r ≡ cond t (Some p) None → m ≤ p
    go true q e = cc
    go false q e = ltb-false p m q

-- Laws of a line of an arrivals text: how the loops go over it, and the tests that lead to an answer. Assumes nothing.
use Rattle.std.specs.Prelude.{◌≡◌, refl, Bool, true, false, cond, ◌&&◌, List, [], ◌∷◌, ℕ, suc, ◌+◌, ◌-◌, ◌*◌, ◌≤◌, ◌<◌, ltb, leb, length, take, drop, get_or, Option, None, Some}
use Rattle.std.proofs.Common.{sym, ◌∙◌, arith, add-one, drop_of_length-le, length-drop, drop-cons, take_all, le-leb, leb-true, ltb-true, ltb-false}
use Rattle.std.proofs.lemmas.Bool.{lt-leb}
use Rattle.std.proofs.lemmas.List.Recursion.{is_position_or_len}
use Rattle.std.specs.List.{position, position_or_len}
use Rattle.laws.specs.Loops.{both_hold}
use Rattle.print.specs.Laws.{read as value}
use Rattle.arrival_line.specs.ArrivalLine.{is_digit, all_digits, number, separates, front, both, read}

-- ---- digits

pub digit_range : (b : ℕ) → is_digit b ≡ true → (48 ≤ b) × (b ≤ 57)
unfolding is_digit
digit_range b e = let p = both_hold (leb 48 b) (leb b 57) e in (leb-true 48 b p.0, leb-true b 57 p.1)

-- a digit more makes no number smaller
pub value_le : (n : ℕ) (l : List ℕ) → n ≤ value n l
unfolding value
value_le n [] = omega arith
value_le n (b ∷ l) = omega (arith, value_le (10 * n + (b - 48)) l)

module _ (l : List ℕ) (i : ℕ) (h : i < length l) where
  all_stops : is_digit (get_or l i 0) ≡ false → all_digits (drop i l) ≡ false
  unfolding all_digits
  all_stops e = rw (drop-cons l i 0 h, e)

  pub all_goes : is_digit (get_or l i 0) ≡ true → all_digits (drop i l) ≡ all_digits (drop (i + 1) l)
  unfolding all_digits
  all_goes e = rw (drop-cons l i 0 h, e, add-one)

  pub value_goes : (n : ℕ) → value n (drop i l) ≡ value (10 * n + (get_or l i 0 - 48)) (drop (i + 1) l)
  unfolding value
  value_goes n = rw (drop-cons l i 0 h, add-one)

-- ---- a number

pub number_none : (l : List ℕ) → length l ≡ 0 → None ≡ number l
unfolding number
number_none [] h = refl
number_none (b ∷ l) h = absurd (omega arith)

number_other : (l : List ℕ) → all_digits l ≡ false → None ≡ number l
unfolding number
number_other [] e = refl
number_other (b ∷ l) e = rw e

number_large : (l : List ℕ) → 4294967295 < value 0 l → None ≡ number l
unfolding number
number_large [] h = refl
number_large (b ∷ l) h = rw (lt-leb (value 0 (b ∷ l)) 4294967295 h) (by (all_digits (b ∷ l)))
  where
    by : (p : Bool) → None ≡ cond (p && false) (Some (value 0 (b ∷ l))) None
    by true = refl
    by false = refl

pub number_is : (l : List ℕ) → 0 < length l → all_digits l ≡ true → value 0 l ≤ 4294967295 → Some (value 0 l) ≡ number l
unfolding number
number_is [] k e h = absurd (omega arith)
number_is (b ∷ l) k e h = rw (e, le-leb (value 0 (b ∷ l)) 4294967295 h)

-- behind i digits, of the value n
module _ (l : List ℕ) (i n : ℕ) (h : i < length l) (a : all_digits l ≡ all_digits (drop i l)) (v : value 0 l ≡ value n (drop i l)) where
  pub number_stops : is_digit (get_or l i 0) ≡ false → None ≡ number l
  number_stops e = number_other l (a ∙ all_stops l i h e)

  pub number_over : 4294967295 < 10 * n + (get_or l i 0 - 48) → None ≡ number l
  number_over k = number_large l (omega (arith, v, value_goes l i h n, value_le (10 * n + (get_or l i 0 - 48)) (drop (i + 1) l)))

-- behind the last
pub number_ends : (l : List ℕ) (i n : ℕ) → 0 < length l → length l ≤ i → n ≤ 4294967295 → all_digits l ≡ all_digits (drop i l) → value 0 l ≡ value n (drop i l) → Some n ≡ number l
unfolding all_digits value
number_ends l i n k h m a v =
    let d : drop i l ≡ [] = drop_of_length-le l {i = i} h in
    let w : value 0 l ≡ n = rw d at v in
    rw (← w) (number_is l k (rw d at a) (rw w m))

-- ---- the first separator

both_none : (d : Option ℕ) → both d None ≡ None
unfolding both
both_none None = refl
both_none (Some n) = refl

one_more : (n : ℕ) → 1 + n ≡ suc n
one_more n = omega arith

front_first : (l : List ℕ) → front l ≡ position_or_len separates l
unfolding front
front_first = is_position_or_len front separates refl (λ b l. rw (one_more (front l)))

-- there is none, so nothing stands behind the first number
pub read_short : (l : List ℕ) → position separates l ≡ None → None ≡ read l
unfolding read number
read_short l e = by (ltb (position_or_len separates l) (length l)) refl e
  where
    by : (t : Bool) → ltb (position_or_len separates l) (length l) ≡ t → cond t (Some (position_or_len separates l)) None ≡ None → None ≡ read l
    by true h f = cc
    by false h f =
        let n : length l ≤ suc (front l) = omega (arith, ltb-false _ _ h, front_first l) in
        rw (drop_of_length-le l {i = suc (front l)} n) (sym (both_none (number (take (front l) l))))

-- there is one, and it stands in the line
pub front_is : (l : List ℕ) (n : ℕ) → position separates l ≡ Some n → (n ≡ front l) × (n < length l)
front_is l n e = by (ltb (position_or_len separates l) (length l)) refl e
  where
    by : (t : Bool) → ltb (position_or_len separates l) (length l) ≡ t → cond t (Some (position_or_len separates l)) None ≡ Some n → (n ≡ front l) × (n < length l)
    by true h f = let k : position_or_len separates l ≡ n = cc in (sym (front_first l ∙ k), omega (arith, ltb-true _ _ h))
    by false h f = cc

-- ---- a line

-- what stands in front of the first separator, and behind it
pub read_both : (l : List ℕ) (n : ℕ) {p q : Option ℕ} → n ≡ front l → p ≡ number (take n l) → q ≡ number (take (length l - (n + 1)) (drop (n + 1) l)) → both p q ≡ read l
unfolding read
read_both l n e p q =
    let t : take (length l - (n + 1)) (drop (n + 1) l) ≡ drop (n + 1) l = take_all (length l - (n + 1)) (drop (n + 1) l) (omega (arith, length-drop (n + 1) l)) in
    rw (p, q, t, ← e, add-one)

-- The decimal digits of two numbers of 32 bits, with a separator between them, are read as that arrival. Assumes nothing.
use Rattle.std.specs.Prelude.{◌≡◌, refl, Bool, true, false, List, [], ◌∷◌, ◌++◌, ℕ, zero, suc, ◌+◌, ◌/◌, ◌%◌, ◌≤◌, ◌<◌, ltb, length, Some}
use Rattle.std.proofs.Common.{sym, arith, add-one, length-append, ltb-true, ltb-false, le-leb, ne_eqb}
use Rattle.std.proofs.Math.Seq.{take-append_seam, drop-append-add}
use Rattle.laws.specs.Loops.{both_hold}
use Rattle.print.specs.Print.{decimal}
use Rattle.print.specs.Laws.{decimal_one, decimal_more, number_decimal}
use Rattle.arrival_line.specs.ArrivalLine.{is_digit, all_digits, number, separates, front, both, read}
use Rattle.arrival_line.specs.Laws.{digit_range, number_is}

-- ---- the digits of a number

digit : (v : ℕ) → v < 10 → is_digit (48 + v) ≡ true
unfolding is_digit
digit v h = rw (le-leb 48 (48 + v) (omega arith), le-leb (48 + v) 57 (omega arith))

all_last : (l : List ℕ) (d : ℕ) → all_digits l ≡ true → is_digit d ≡ true → all_digits (l ++ (d ∷ [])) ≡ true
unfolding all_digits
all_last [] d e f = rw f
all_last (b ∷ l) d e f = let p = both_hold (is_digit b) (all_digits l) e in rw p.0 (all_last l d p.1 f)

-- all are digits, one or more
pub all_decimal : (j n : ℕ) → n < j → (all_digits (decimal n) ≡ true) × (0 < length (decimal n))
unfolding all_digits
all_decimal zero n h = absurd (omega arith)
all_decimal (suc j) n h = by (ltb n 10) refl (all_decimal j (n / 10))
  where
    by : (p : Bool) → ltb n 10 ≡ p → (n / 10 < j → (all_digits (decimal (n / 10)) ≡ true) × (0 < length (decimal (n / 10))))
        → (all_digits (decimal n) ≡ true) × (0 < length (decimal n))
    by true e f = let l : n < 10 = ltb-true _ _ e in rw (decimal_one n l) (rw (digit n l), omega arith)
    by false e f =
        let l : 10 ≤ n = ltb-false _ _ e in
        let g = f (omega arith) in
        rw (decimal_more n l) (all_last (decimal (n / 10)) (48 + n % 10) g.0 (digit (n % 10) (omega arith)), simp length-append (omega arith))

-- so they are read as the number
pub number_of : (n : ℕ) → n ≤ 4294967295 → number (decimal n) ≡ Some n
number_of n h =
    let d = all_decimal (suc n) n (omega arith) in
    sym (rw (number_decimal n) at (number_is (decimal n) d.1 d.0 (rw (number_decimal n) h)))

-- ---- the line

-- no digit separates
stays : (b : ℕ) → is_digit b ≡ true → separates b ≡ false
unfolding separates
stays b e =
    let r = digit_range b e in
    rw (ne_eqb b 32 (λ z. omega arith), ne_eqb b 9 (λ z. omega arith), ne_eqb b 44 (λ z. omega arith))

front_of : (l r : List ℕ) (b : ℕ) → all_digits l ≡ true → separates b ≡ true → front (l ++ (b ∷ r)) ≡ length l
unfolding all_digits front
front_of [] r b e f = rw f
front_of (x ∷ l) r b e f = let p = both_hold (is_digit x) (all_digits l) e in rw (stays x p.0, front_of l r b p.1 f)

pub read_of : (n t b : ℕ) → n ≤ 4294967295 → t ≤ 4294967295 → separates b ≡ true → read (decimal n ++ (b ∷ decimal t)) ≡ Some (record { number = n; time = t })
unfolding read both
read_of n t b h k s =
    let d = all_decimal (suc n) n (omega arith) in
    rw (
      front_of (decimal n) (decimal t) b d.0 s,
      take-append_seam (decimal n) (b ∷ decimal t),
      ← add-one (length (decimal n)),
      drop-append-add (decimal n) (b ∷ decimal t) 1,
      number_of n h,
      number_of t k,
    )

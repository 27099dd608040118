-- A row reads back: from its text its five numbers, and from a delay in thirds the integer and the fraction, -1, 0 or 1 (proofs/Undo.antt). Assumes nothing.
use Rattle.std.specs.Prelude.{◌≡◌, refl, true, false, cond, List, [], ◌∷◌, ◌++◌, ℕ, suc, ◌+◌, ◌-◌, ◌*◌, ◌/◌, ◌%◌, pos, ◌-ℤ◌}
use Rattle.std.proofs.Common.{append_assoc, arith}
use Rattle.laws.specs.Loops.{both_hold}
use Rattle.print.specs.Print.{decimal, figure}
use Rattle.print.specs.Laws.{number_decimal}
use Rattle.print.specs.Laws.{read as value}
use Rattle.arrival_line.specs.ArrivalLine.{is_digit, all_digits}
use Rattle.arrival_line.specs.Undo.{all_decimal}
use Rattle.pitch.specs.declared.Delay.{Delay}
use Rattle.delay_line.specs.DelayLine.{row}

-- ---- the numbers of a text

-- each is ended by a byte that is no digit; a is the value of the digits so far
unfoldable pub numbers : ℕ → List ℕ → List ℕ
numbers a [] = []
numbers a (b ∷ l) = cond (is_digit b) (numbers (10 * a + (b - 48)) l) (a ∷ numbers 0 l)

-- the digits of a number, and a byte that is none
ended : (a : ℕ) (l : List ℕ) (b : ℕ) (r : List ℕ) → all_digits l ≡ true → is_digit b ≡ false → numbers a (l ++ (b ∷ r)) ≡ value a l ∷ numbers 0 r
unfolding numbers all_digits value
ended a [] b r e f = rw f
ended a (x ∷ l) b r e f = let p = both_hold (is_digit x) (all_digits l) e in rw p.0 (ended (10 * a + (x - 48)) l b r p.1 f)

one_number : (n b : ℕ) (r : List ℕ) → is_digit b ≡ false → numbers 0 (decimal n ++ (b ∷ r)) ≡ n ∷ numbers 0 r
one_number n b r f = rw (ended 0 (decimal n) b r (all_decimal (suc n) n (omega arith)).0 f, number_decimal n)

blank : is_digit 32 ≡ false
unfolding is_digit
blank = refl

feed : is_digit 10 ≡ false
unfolding is_digit
feed = refl

-- from the text of a row its numbers come back, whatever they are
pub row_back : (n d r e s : ℕ) → numbers 0 (row n d r e s) ≡ n ∷ d ∷ r ∷ e ∷ s ∷ []
unfolding row figure numbers
row_back n d r e s =
    simp append_assoc
    (rw (one_number n 32 _ blank, one_number d 32 _ blank, one_number r 32 _ blank, one_number e 32 _ blank, one_number s 10 [] feed))

-- ---- a delay in thirds

unfoldable pub of_thirds : ℕ → Delay
of_thirds n = record { integer = pos ((n + 1) / 3); fraction = pos ((n + 1) % 3) -ℤ pos 1 }

-- a delay of one sample or more, with a fraction of -1, 0 or 1
abbrev pub delay : ℕ → ℕ → Delay
delay k f = record { integer = pos k; fraction = pos f -ℤ pos 1 }

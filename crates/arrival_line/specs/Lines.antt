-- Lines that are read, and texts that are none. Assumes nothing.
use Rattle.std.specs.Prelude.{◌≡◌, refl, List, [], ◌∷◌, ◌++◌, ℕ, Option, None, Some}
use Rattle.text.specs.Text.{ascii}
use Rattle.print.specs.Laws.{read as value}
use Rattle.arrival_line.specs.declared.Arrival.{Arrival}
use Rattle.arrival_line.specs.ArrivalLine.{is_digit, all_digits, number, separates, front, both, read}

unfoldable line : List ℕ → Option Arrival
unfolding value is_digit all_digits number separates front both read
line l = read l

spaced : line (ascii "17 340") ≡ Some (record { number = 17; time = 340 })
unfolding line
spaced = refl

-- 9 is a tab
tabbed : line (ascii "17" ++ (9 ∷ ascii "340")) ≡ Some (record { number = 17; time = 340 })
unfolding line
tabbed = refl

leading_zeros : line (ascii "0017,000000000000340") ≡ Some (record { number = 17; time = 340 })
unfolding line
leading_zeros = refl

greatest : line (ascii "4294967295,4294967295") ≡ Some (record { number = 4294967295; time = 4294967295 })
unfolding line
greatest = refl

too_large : line (ascii "4294967296,0") ≡ None
unfolding line
too_large = refl

-- 2^64 + 7, the number of which 64 bits would keep 7
far_too_large : line (ascii "18446744073709551623,0") ≡ None
unfolding line
far_too_large = refl

nothing : line [] ≡ None
unfolding line
nothing = refl

no_time : line (ascii "17") ≡ None
unfolding line
no_time = refl

no_digits : line (ascii "17 ") ≡ None
unfolding line
no_digits = refl

space_first : line (ascii " 17 340") ≡ None
unfolding line
space_first = refl

two_separators : line (ascii "17, 340") ≡ None
unfolding line
two_separators = refl

third_number : line (ascii "17 340 5") ≡ None
unfolding line
third_number = refl

-- `:` is the byte behind `9`, `/` the one before `0`
colon : line (ascii "1: 340") ≡ None
unfolding line
colon = refl

slash : line (ascii "1/ 340") ≡ None
unfolding line
slash = refl

sign : line (ascii "17 -340") ≡ None
unfolding line
sign = refl

-- 13 is a carriage return
returned : line (ascii "17 340" ++ (13 ∷ [])) ≡ None
unfolding line
returned = refl

-- Whole lines of `decode`, which takes at most one operand, and of `resume`, which takes three or four: what they ask for, and which argument says so. Assumes nothing.
use Rattle.std.specs.Prelude.{◌≡◌, refl, List, [], ◌∷◌, ℕ, ◌+◌, Option, None, Some}
use Rattle.laws.specs.Bytes.{same}
use Rattle.text.specs.Text.{ascii}
use Rattle.options.specs.declared.Asked.{Asked}
use Rattle.options.specs.declared.What.TheVariants.{Run}
use Rattle.options.specs.Options.{run, help, version, file, twice, unknown, many, few, unfit, number, none, settled, no_path, with_operand, option, next, ended}

-- from argument i on
unfoldable words : Asked → ℕ → ℕ → List (List ℕ) → Asked
words a most i [] = a
words a most i (w ∷ l) = words (next a most i w) most (i + 1) l

-- the program's name is argument 0
unfoldable asked : ℕ → ℕ → List (List ℕ) → Asked
unfolding same settled no_path with_operand option next words
asked least most l = ended (words none most 1 l) least

abbrev decode : List (List ℕ) → Asked
decode l = asked 0 1 l

abbrev resume : List (List ℕ) → Asked
resume l = asked 3 4 l

-- ---- lines that are taken

nothing : decode [] ≡ none
unfolding asked
nothing = refl

tables_first : decode (ascii "--tables" ∷ ascii "t" ∷ ascii "c" ∷ []) ≡ record { what = Run; word = Some 3; tables = Some 2; operands = 1; first = Some 3; second = None; third = None; fourth = None }
unfolding asked
tables_first = refl

tables_last : decode (ascii "c" ∷ ascii "--tables" ∷ ascii "t" ∷ []) ≡ record { what = Run; word = Some 3; tables = Some 3; operands = 1; first = Some 1; second = None; third = None; fourth = None }
unfolding asked
tables_last = refl

with_frames : resume (ascii "c" ∷ ascii "s" ∷ ascii "o" ∷ ascii "9" ∷ []) ≡ record { what = Run; word = Some 4; tables = None; operands = 4; first = Some 1; second = Some 2; third = Some 3; fourth = Some 4 }
unfolding asked
with_frames = refl

-- ---- what is asked for or is wrong, and the argument that decides it

-- 0 is no argument's number here
abbrev place : Option ℕ → ℕ
place None = 0
place (Some i) = i

abbrev decides : Asked → List ℕ
decides a = number a.what ∷ place a.word ∷ []

no_file : decides (decode (ascii "c" ∷ ascii "--tables" ∷ [])) ≡ file ∷ 2 ∷ []
unfolding asked
no_file = refl

given_twice : decides (decode (ascii "--tables" ∷ ascii "t" ∷ ascii "--tables" ∷ ascii "t" ∷ [])) ≡ twice ∷ 3 ∷ []
unfolding asked
given_twice = refl

unknown_option : decides (decode (ascii "-x" ∷ [])) ≡ unknown ∷ 1 ∷ []
unfolding asked
unknown_option = refl

longer_word : decides (decode (ascii "--helpx" ∷ [])) ≡ unknown ∷ 1 ∷ []
unfolding asked
longer_word = refl

second_call : decides (decode (ascii "c" ∷ ascii "c" ∷ [])) ≡ many ∷ 2 ∷ []
unfolding asked
second_call = refl

no_out : decides (resume (ascii "c" ∷ ascii "s" ∷ [])) ≡ few ∷ 0 ∷ []
unfolding asked
no_out = refl

five : decides (resume (ascii "c" ∷ ascii "s" ∷ ascii "o" ∷ ascii "9" ∷ ascii "9" ∷ [])) ≡ many ∷ 5 ∷ []
unfolding asked
five = refl

empty : decides (decode (ascii "" ∷ [])) ≡ unfit ∷ 1 ∷ []
unfolding asked
empty = refl

empty_file : decides (decode (ascii "--tables" ∷ ascii "" ∷ [])) ≡ unfit ∷ 2 ∷ []
unfolding asked
empty_file = refl

help_first : decides (decode (ascii "--help" ∷ ascii "-x" ∷ [])) ≡ help ∷ 1 ∷ []
unfolding asked
help_first = refl

help_late : decides (decode (ascii "-x" ∷ ascii "--help" ∷ [])) ≡ unknown ∷ 1 ∷ []
unfolding asked
help_late = refl

version_behind_a_call : decides (decode (ascii "c" ∷ ascii "--version" ∷ [])) ≡ version ∷ 2 ∷ []
unfolding asked
version_behind_a_call = refl

file_of_any_name : decides (decode (ascii "--tables" ∷ ascii "--help" ∷ [])) ≡ run ∷ 2 ∷ []
unfolding asked
file_of_any_name = refl

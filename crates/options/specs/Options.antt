-- What the words of a command line ask for. Options and operands stand in any order; the word behind `--tables` is its file, whatever it is; the first word that asks
-- for help or the version, or that can't be taken, decides.
use Rattle.std.specs.Prelude.{Bool, cond, not, ◌&&◌, ◌||◌, List, ℕ, ◌+◌, eqb, ltb, length, get_or, Option, None, Some}
use Rattle.std.specs.Option.{is_some}
use Rattle.laws.specs.Bytes.{same}
use Rattle.text.specs.Text.{ascii}
use Rattle.options.specs.declared.Asked.{Asked}
use Rattle.options.specs.declared.What.{What}
use Rattle.options.specs.declared.What.TheVariants.{Run, Help, Version, File, Twice, Unknown, Many, Few, Unfit}

-- ---- what is asked for

abbrev pub run : ℕ
run = 0

abbrev pub help : ℕ
help = 1

abbrev pub version : ℕ
version = 2

-- ---- why a line can't be taken

-- `--tables` without its file, which is also where the file is awaited
abbrev pub file : ℕ
file = 3

abbrev pub twice : ℕ
twice = 4

abbrev pub unknown : ℕ
unknown = 5

abbrev pub many : ℕ
many = 6

abbrev pub few : ℕ
few = 7

abbrev pub unfit : ℕ
unfit = 8

-- the number of what is asked for
abbrev pub number : What → ℕ
number Run = run
number Help = help
number Version = version
number File = file
number Twice = twice
number Unknown = unknown
number Many = many
number Few = few
number Unfit = unfit

-- ---- word by word

abbrev pub none : Asked
none = record { what = Run; word = None; tables = None; operands = 0; first = None; second = None; third = None; fourth = None }

-- no further word changes what is asked
unfoldable pub settled : Asked → Bool
settled a = not (eqb (number a.what) run) && not (eqb (number a.what) file)

-- a word of no byte, or of more than a path can have
unfoldable pub no_path : List ℕ → Bool
no_path w = ltb (length w) 1 || ltb 4095 (length w)

-- an argument decides, or the end of the line
abbrev pub decided : Asked → What → Option ℕ → Asked
decided a what i =
    record { what = what; word = i; tables = a.tables; operands = a.operands; first = a.first; second = a.second; third = a.third; fourth = a.fourth }

abbrev pub with_tables : Asked → ℕ → Asked
with_tables a i =
    record { what = Run; word = Some i; tables = Some i; operands = a.operands; first = a.first; second = a.second; third = a.third; fourth = a.fourth }

unfoldable pub with_operand : Asked → ℕ → Asked
with_operand a i =
    record {
      what = Run;
      word = Some i;
      tables = a.tables;
      operands = a.operands + 1;
      first = cond (eqb a.operands 0) (Some i) a.first;
      second = cond (eqb a.operands 1) (Some i) a.second;
      third = cond (eqb a.operands 2) (Some i) a.third;
      fourth = cond (eqb a.operands 3) (Some i) a.fourth;
    }

-- what a word asks for that is no operand, None where it is one
unfoldable pub option : Option ℕ → List ℕ → Option What
option tables w =
    cond (same w (ascii "--help")) (Some Help)
    (cond (same w (ascii "--version")) (Some Version)
    (cond (same w (ascii "--tables")) (Some (cond (is_some tables) Twice File))
    (cond (eqb (get_or w 0 0) 45) (Some Unknown) None)))

-- a word that is argument i, with what it asks for
abbrev pub taken : Asked → ℕ → ℕ → Option What → Asked
taken a most i (Some what) = decided a what (Some i)
taken a most i None = cond (ltb a.operands most) (with_operand a i) (decided a Many (Some i))

-- the word that is argument i, of a program that takes at most so many operands
unfoldable pub next : Asked → ℕ → ℕ → List ℕ → Asked
next a most i w =
    cond (settled a) a
    (cond (no_path w) (decided a Unfit (Some i))
    (cond (eqb (number a.what) file) (with_tables a i)
    (taken a most i (option a.tables w))))

-- behind the last word, of a program that needs at least so many operands
abbrev pub ended : Asked → ℕ → Asked
ended a least = cond (eqb (number a.what) run && ltb a.operands least) (decided a Few None) a

-- The table of lost frames against playout depths (change request 11), and what is worked out of the arrivals where no option gives it.
use Rattle.std.specs.Prelude.{cond, List, [], ◌∷◌, ◌++◌, ℕ, ◌+◌, ◌-◌, ◌*◌, ◌/◌, ◌%◌, min, max, eqb, length}
use Rattle.text.specs.Text.{ascii}
use Rattle.print.specs.Print.{figure}

-- one more than the greatest number
unfoldable pub frames : List ℕ → ℕ
frames [] = 0
frames (n ∷ l) = max (n + 1) (frames l)

-- when frame 0 went out, if frame n went out 10 n ms later and arrived at once; not below 0
unfoldable pub began : ℕ → ℕ → ℕ
began n t = t - 10 * n

-- the least of these; no time of 32 bits is greater than the number for none
unfoldable pub lowest : List ℕ → List ℕ → ℕ
lowest [] ts = 4294967295
lowest (n ∷ ns) [] = 4294967295
lowest (n ∷ ns) (t ∷ ts) = min (began n t) (lowest ns ts)

-- the start where none is given
unfoldable pub earliest : List ℕ → List ℕ → ℕ
earliest ns ts = cond (eqb (min (length ns) (length ts)) 0) 0 (lowest ns ts)

-- ---- the lines

-- hundredths of a percent, 0 where there are no frames
unfoldable pub hundredths : ℕ → ℕ → ℕ
hundredths lost frames = cond (eqb frames 0) 0 (10000 * min lost frames / frames)

-- the last two digits
unfoldable pub two : ℕ → List ℕ
two n = (48 + n / 10 % 10) ∷ (48 + n % 10) ∷ []

-- a blank and the percentage
unfoldable pub percent : ℕ → List ℕ
percent h = figure (ascii " ") (h / 100) ++ ascii "." ++ two h ++ ascii "\n"

unfoldable pub heading : ℕ → ℕ → ℕ → List ℕ
heading frames arrivals start =
    figure (ascii "# frames ") frames ++ figure (ascii ", arrivals ") arrivals ++ figure (ascii ", start ") start ++ ascii "\n# depth lost percent\n"

unfoldable pub row : ℕ → ℕ → ℕ → List ℕ
row depth lost frames = figure (ascii "") depth ++ figure (ascii " ") lost ++ percent (hundredths lost frames)

-- the least depth at which no more than the wanted number is lost, and where there is none
unfoldable pub least : ℕ → ℕ → List ℕ
least depth most = figure (ascii "# least ") depth ++ figure (ascii ": at most ") most ++ ascii " frames are lost\n"

unfoldable pub never : ℕ → ℕ → List ℕ
never lost most = figure (ascii "# least none: ") lost ++ figure (ascii " frames never arrived, at most ") most ++ ascii " may be lost\n"

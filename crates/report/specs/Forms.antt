-- The forms that a report prints, each ended by a line feed.
use Rattle.std.specs.Prelude.{Bool, cond, List, ◌++◌, ℕ, ℤ, pos, nat_abs}
use Rattle.std.specs.Int.Signed.{lt_z}
use Rattle.text.specs.Text.{ascii}
use Rattle.print.specs.Print.{figure}
use Rattle.compare_step.specs.declared.Class.{Class}
use Rattle.compare_step.specs.declared.Class.TheVariants.{Concealed, Settling, NotClean, Known, Differs}
use Rattle.report.specs.declared.Tally.{Tally}
use Rattle.report.specs.declared.Stretch.{Stretch}
use Rattle.report.specs.declared.First.{First}

-- the sign of a number
unfoldable pub sign : ℤ → List ℕ
sign z = cond (lt_z z (pos 0)) (ascii "-") (ascii "")

-- a number with its sign, behind its label
unfoldable pub signed : List ℕ → ℤ → List ℕ
signed label z = label ++ figure (sign z) (nat_abs z)

-- a number behind its label, and what closes it
unfoldable pub labelled : List ℕ → ℕ → List ℕ → List ℕ
labelled label n close = figure label n ++ close

-- the class of a frame and its numbers, behind the frame's number
unfoldable pub class : Class → List ℕ
class Concealed = ascii " (concealed))\n"
class (Settling n) = labelled (ascii " (settling ") n (ascii "))\n")
class (NotClean n) = labelled (ascii " (not-clean ") n (ascii "))\n")
class Known = ascii " (known))\n"
class (Differs d) = figure (ascii " (differs (sample ") d.sample ++ signed (ascii ") (rest ") d.rest ++ ascii ")))\n"

unfoldable pub frame : ℕ → Class → List ℕ
frame n c = figure (ascii "(frame ") n ++ class c

unfoldable pub stretch : Stretch → ℕ → List ℕ
stretch s to = figure (ascii "(stretch (from ") s.from ++ figure (ascii ") (to ") to ++ labelled (ascii ") (differ ") s.differ (ascii "))\n")

unfoldable pub total : Tally → List ℕ
total t =
    figure (ascii "(total (frames ") t.counts.frames ++ figure (ascii ") (concealed ") t.counts.lost ++ figure (ascii ") (settling ") t.settling
    ++ figure (ascii ") (not-clean ") t.unclean ++ figure (ascii ") (known ") t.known ++ labelled (ascii ") (differ ") t.differ (ascii "))\n")

-- the first frame that differs
unfoldable pub fault : First → List ℕ
fault f =
    figure (ascii "(line (frame ") f.frame ++ figure (ascii ") (sample ") f.sample ++ signed (ascii ") (rest ") f.rest
    ++ ascii ") (no decoder of these frames, whatever its past, makes these samples))\n"

-- the last frame that both have, where the far samples end before the call, or the call before them
unfoldable pub ends : Bool → ℕ → List ℕ
ends far n = labelled (cond far (ascii "(far-ends (frame ") (ascii "(call-ends (frame ")) n (ascii "))\n")

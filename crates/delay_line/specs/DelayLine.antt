-- The table of delays with their rules (change request 12): its lines, each ended by a line feed.
use Rattle.std.specs.Prelude.{List, ◌++◌, ℕ, ◌+◌, ◌/◌, min, pos, ◌+ℤ◌, ◌*ℤ◌}
use Rattle.text.specs.Text.{ascii}
use Rattle.print.specs.Print.{figure}
use Rattle.count.specs.declared.Counts.{Counts}
use Rattle.pitch.specs.declared.Delay.{Delay}
use Rattle.pitch.specs.Pitch.{nat}
use Rattle.depth_table.specs.Table.{hundredths, two}

-- a delay in thirds of a sample; below 0 is 0
unfoldable pub thirds : Delay → ℕ
thirds d = nat (pos 3 *ℤ d.integer +ℤ d.fraction)

unfoldable pub heading : List ℕ
heading = ascii "# delays in thirds of a sample, each with its rule: 1 coded in thirds, 2 coded whole, 3 coded relative to the first, 4 carried after bad parity, 5 carried in concealment\n# frame delay1 rule1 delay2 rule2\n"

-- a frame's number, and for each of its subframes the delay in thirds and the number of its rule
unfoldable pub row : (frame d1 r1 d2 r2 : ℕ) → List ℕ
row frame d1 r1 d2 r2 = figure (ascii "") frame ++ figure (ascii " ") d1 ++ figure (ascii " ") r1 ++ figure (ascii " ") d2 ++ figure (ascii " ") r2 ++ ascii "\n"

-- ---- the end

-- of 32 bits
unfoldable pub sum : ℕ → ℕ → ℕ
sum a b = min (a + b) 4294967295

-- how many delays each rule has
unfoldable pub five : (a b c d e : ℕ) → List ℕ
five a b c d e = figure (ascii "# rules 1 to 5: ") a ++ figure (ascii " ") b ++ figure (ascii " ") c ++ figure (ascii " ") d ++ figure (ascii " ") e ++ ascii "\n"

unfoldable pub by_rule : Counts → List ℕ
by_rule c = five c.thirds c.whole c.relative c.parity c.concealed

-- how many of all are carried, and their percentage with two decimals, rounded down
unfoldable pub part : (carried of : ℕ) → List ℕ
part carried of =
    figure (ascii "# carried ") carried ++ figure (ascii " of ") of ++ figure (ascii " delays, ") (hundredths carried of / 100) ++ ascii "." ++ two (hundredths carried of) ++ ascii " %\n"

-- those of rules 4 and 5 are carried; a frame has two
unfoldable pub share : Counts → List ℕ
share c = part (sum c.parity c.concealed) (sum c.frames c.frames)

-- in place of both, where a line is refused
unfoldable pub refused : (code line : ℕ) → List ℕ
refused code line = figure (ascii "# refused code ") code ++ figure (ascii " line ") line ++ ascii "\n"

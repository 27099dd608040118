-- One line of a G.711 leg's text (change request 8): the samples of bytes as a line of printed samples, and such a line back to bytes.
use Rattle.std.specs.Prelude.{Result, Ok, Err, cond, List, [], ◌++◌, map, ℕ, eqb, ℤ, length, drop}
use Rattle.refusal.specs.declared.Refusal.{Refusal}
use Rattle.g711.specs.G711.{known, value, byte_of, all_values}
use Rattle.pcm_line.specs.PcmLine.{pcm_line, samples}

-- what is printed for bytes of a law: nothing for no bytes or another law
unfoldable pub leg_line : ℕ → List ℕ → List ℕ
leg_line law l = cond (eqb (length l) 0) [] (cond (known law) (pcm_line (map (value law) l)) [])

-- ---- a line back to bytes

-- the code of a refusal or 0, how many samples the line has, and the lent bytes
pub data Answer : Type 0 where
  answer : ℕ → ℕ → List ℕ → Answer

-- how many samples an answer has: none beside a refusal
abbrev pub taken : Result ℕ Refusal → ℕ
taken (Ok n) = n
taken (Err r) = 0

-- 16: another law. 9: no line, or one of no samples. 17: a sample is no table value. A refusal leaves the bytes as they were.
unfoldable pub back_to : ℕ → List ℤ → List ℕ → Answer
back_to law l lent =
    cond (known law)
    (cond (eqb (length l) 0) (answer 9 0 lent)
    (cond (all_values law l) (answer 0 (length l) (map (byte_of law) l ++ drop (length l) lent)) (answer 17 0 lent)))
    (answer 16 0 lent)

-- of a text, without its line feed
unfoldable pub bytes_of : ℕ → List ℕ → List ℕ → Answer
bytes_of law t lent = back_to law (samples t) lent

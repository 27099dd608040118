-- Trying a playout depth (change request 11): which frames of a list of arrivals are played, and how many are lost. Times are in milliseconds; on whole numbers no sum wraps.
use Rattle.std.specs.Prelude.{Result, Ok, Err, Option, None, Some}
use Rattle.std.specs.Prelude.{Bool, false, cond, ◌&&◌, ◌||◌, List, [], ◌∷◌, map, ℕ, zero, suc, ◌+◌, ◌*◌, eqb, leb, length, get_or}
use Rattle.laws.specs.Lists.{upto}
use Rattle.laws.specs.Loops.{nowhere}

-- a frame's number, and when it arrived
pub record Arrival : Type 0 where
  pub number : ℕ
  pub time : ℕ

-- the arrivals of two lists, numbers and times: as many as the shorter has
unfoldable pub arrivals : List ℕ → List ℕ → List Arrival
arrivals [] times = []
arrivals (n ∷ numbers) [] = []
arrivals (n ∷ numbers) (t ∷ times) = record { number = n; time = t } ∷ arrivals numbers times

-- when frame i is played
abbrev pub due : (start depth i : ℕ) → ℕ
due start depth i = start + depth + 10 * i

-- an arrival of frame i has a time at or before `by`
unfoldable pub arrived : (i by : ℕ) → List Arrival → Bool
arrived i by [] = false
arrived i by (a ∷ l) = (eqb a.number i && leb a.time by) || arrived i by l

-- 0 voice, 3 lost
unfoldable pub kind : (start depth : ℕ) → List Arrival → ℕ → ℕ
kind start depth l i = cond (arrived i (due start depth i) l) 0 3

-- the kinds of the first n frames
unfoldable pub kinds : (start depth : ℕ) → List Arrival → ℕ → List ℕ
kinds start depth l n = map (kind start depth l) (upto n)

-- how many of a list are 3
unfoldable pub lost : List ℕ → ℕ
lost [] = 0
lost (k ∷ ks) = cond (eqb k 3) (suc (lost ks)) (lost ks)

-- ---- the call: its answer, and the lent kinds as it leaves them. A refusal leaves them as they were.

pub data Answer (A : Type 0) : Type 0 where
  answer : A → List ℕ → Answer A

-- every number is below the frame count
unfoldable pub below : ℕ → List ℕ → Bool
below frames numbers = nowhere (λ k. leb frames (get_or numbers k 0)) (length numbers)

-- 20: more than 4,096 frames or arrivals. 21: an arrival whose number isn't below the frame count. 7: not as many times as numbers, or not one kind for each frame
unfoldable pub refusal : (frames : ℕ) (numbers : List ℕ) (times room : ℕ) → ℕ
refusal frames numbers times room =
    cond (leb frames 4096 && leb (length numbers) 4096) (cond (below frames numbers) (cond (eqb times (length numbers) && eqb room frames) 0 7) 21) 20

unfoldable pub playout : (frames start depth : ℕ) (numbers times before : List ℕ) → Answer (Result ℕ ℕ)
playout frames start depth numbers times before =
    let n : ℕ = refusal frames numbers (length times) (length before) in
    let after : List ℕ = kinds start depth (arrivals numbers times) frames in
    cond (eqb n 0) (answer (Ok (lost after)) after) (answer (Err n) before)

-- ---- the least depth at which at most so many of n frames are lost, of all depths of 32 bits

unfoldable pub enough : (start allowed : ℕ) → List Arrival → (n depth : ℕ) → Bool
enough start allowed l n depth = leb (lost (kinds start depth l n)) allowed

-- the first of the n numbers from d on that passes a test
unfoldable pub first : (ℕ → Bool) → (d n : ℕ) → Option ℕ
first test d zero = None
first test d (suc n) = cond (test d) (Some d) (first test (suc d) n)

-- the depth found, else the greatest
unfoldable pub depth_of : Option ℕ → ℕ
depth_of None = 4294967295
depth_of (Some d) = d

-- the answer, with the kinds of that depth
unfoldable pub least : (start allowed : ℕ) → List Arrival → ℕ → Answer (Option ℕ)
least start allowed l n =
    let found : Option ℕ = first (enough start allowed l n) 0 4294967296 in
    answer found (kinds start (depth_of found) l n)

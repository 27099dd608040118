-- What each caller of a conference heard (change request 10): for each leg the sum of all the others, limited to 16 bits after the exact sum. A leg is a frame of 80 samples;
-- nothing here depends on what they were decoded from.
use Rattle.std.specs.Prelude.{Bool, cond, ◌&&◌, List, [], ◌∷◌, ◌++◌, map, ℕ, zero, suc, ◌/◌, ◌%◌, eqb, leb, ℤ, pos, ◌+ℤ◌, length, take, drop}
use Rattle.laws.specs.Lists.{at, tab, upto}
use Rattle.basic_op.specs.Ops.{sat16}

-- the exact sum of the legs' samples at place i
unfoldable pub sum : ℕ → List (List ℤ) → ℤ
sum i [] = pos 0
sum i (leg ∷ legs) = at leg i +ℤ sum i legs

-- all legs but leg k
abbrev pub others : ℕ → List (List ℤ) → List (List ℤ)
others k legs = take k legs ++ drop (suc k) legs

-- what leg k heard
unfoldable pub heard : List (List ℤ) → ℕ → List ℤ
heard legs k = tab 80 (λ i. sat16 (sum i (others k legs)))

-- what each leg heard, in the order of the legs
unfoldable pub mix : List (List ℤ) → List (List ℤ)
mix legs = map (heard legs) (upto (length legs))

-- ---- legs that are lent one after another

-- the first n frames of 80 samples
unfoldable pub frames : ℕ → List ℤ → List (List ℤ)
frames zero l = []
frames (suc n) l = take 80 l ∷ frames n (drop 80 l)

-- the whole frames of what is lent
unfoldable pub legs_of : List ℤ → List (List ℤ)
legs_of l = frames (length l / 80) l

-- legs one after another, as one list
unfoldable pub joined : List (List ℤ) → List ℤ
joined [] = []
joined (leg ∷ legs) = leg ++ joined legs

-- ---- the call: its number, and the lent results as it leaves them. A refusal leaves them as they were.

pub data Mixed : Type 0 where
  mixed : ℕ → List ℤ → Mixed

-- 1 to 8 whole legs
unfoldable pub whole : ℕ → Bool
whole n = (eqb (n % 80) 0 && leb 80 n) && leb n 640

-- 19: not 1 to 8 whole legs. 7: not as many results as samples
unfoldable pub refusal : ℕ → ℕ → ℕ
refusal samples results = cond (whole samples) (cond (eqb results samples) 0 7) 19

unfoldable pub mix_call : List ℤ → List ℤ → Mixed
mix_call l before =
    let n : ℕ = refusal (length l) (length before) in
    cond (eqb n 0) (mixed 0 (joined (mix (legs_of l)))) (mixed n before)

-- The candidates of a comparison: signals that the far decoder may hold, in eight slots of 245 words. A slot has how many samples of the last frame its candidate gave (below 0: there is no candidate), the 154 words
-- of its past excitation, and its 90 words of speech, the ten samples before its last frame and that frame's.
use Rattle.std.specs.Prelude.{ℕ, ◌+◌, ◌*◌, ◌/◌, ◌%◌, Bool, cond, not, ◌&&◌, ◌||◌, List, [], ◌∷◌, ◌++◌, eqb, ℤ, pos, negsuc, drop, replicate}
use Rattle.std.specs.Int.Signed.{lt_z}
use Rattle.laws.specs.Lists.{at}
use Rattle.laws.specs.Loops.{steps, nowhere}
use Rattle.block.specs.Block.{part, put}
use Rattle.block.specs.Places.{frame_length, past_length, tail_length}
use Rattle.inverse.specs.Inverse.{window_words}
use Rattle.state.specs.State.{Signal}
use Rattle.parameters.specs.declared.Decoded.{Decoded}
use Rattle.decoder.specs.Frame.{frame_signal}

abbrev pub slots : ℕ
slots = 8

abbrev pub slot_length : ℕ
slot_length = 245

-- neither is less
abbrev pub same : ℤ → ℤ → Bool
same a b = not (lt_z a b || lt_z b a)

-- ---- a candidate

-- how many of the first m samples of y are those of z before the first that isn't; z has ten samples in front
unfoldable pub same_samples : List ℤ → List ℤ → ℕ → ℕ
same_samples y z m = steps (λ k n. cond (eqb n k && same (at y k) (at z (tail_length + k))) (k + 1) n) m 0

-- slot i
unfoldable pub slot : List ℤ → ℕ → List ℤ
slot s i = part s (slot_length * i) slot_length

-- a candidate's signal: its past excitation, and the last ten of its samples
unfoldable pub slot_signal : List ℤ → Signal
slot_signal x = record { past = part x 1 past_length; tail = part x 235 tail_length }

-- a slot behind a frame of far samples y; one without a candidate stays as it is
unfoldable pub tried : List ℤ → Decoded → List ℤ → List ℤ → List ℤ
tried t v y x =
    let b = frame_signal t v.first v.second (slot_signal x) in
    cond (lt_z (at x 0) (pos 0)) x (pos (same_samples y b.speech frame_length) ∷ (drop frame_length b.exc ++ b.speech))

unfoldable pub all_tried : List ℤ → Decoded → List ℤ → List ℤ → List ℤ
all_tried t v y s = steps (λ i x. put x (slot_length * i) (tried t v y (slot x i))) slots s

-- candidate i of the 160 words w that two frames told, whose last ten samples are e: bits 0, 1 and 2 of i say whether their second, third and fourth subframe were shrunk
unfoldable pub candidate : List ℤ → List ℤ → ℕ → List ℤ
candidate w e i = pos 0 ∷ (window_words (eqb (i % 2) 1) (eqb (i / 2 % 2) 1) (eqb (i / 4 % 2) 1) w ++ (replicate frame_length (pos 0) ++ e))

unfoldable pub candidates : List ℤ → List ℤ → List ℤ → List ℤ
candidates w e s = steps (λ i x. put x (slot_length * i) (candidate w e i)) slots s

-- ---- which candidates stay

-- how many samples candidate i gave
abbrev pub fit : List ℤ → ℕ → ℤ
fit s i = at s (slot_length * i)

-- all 80
abbrev pub fits : List ℤ → ℕ → Bool
fits s i = lt_z (pos 79) (fit s i)

-- slots i and j have the same words
unfoldable pub same_slot : List ℤ → ℕ → ℕ → Bool
same_slot s i j = nowhere (λ k. lt_z (at s (slot_length * i + k)) (at s (slot_length * j + k)) || lt_z (at s (slot_length * j + k)) (at s (slot_length * i + k))) slot_length

-- candidate i gave all samples, and no slot before it has the same candidate
unfoldable pub stays : List ℤ → ℕ → Bool
stays s i = fits s i && nowhere (λ j. fits s j && same_slot s j i) i

-- the candidates that stay; the other slots have none
unfoldable pub only_fitting : List ℤ → List ℤ
only_fitting s = steps (λ i x. cond (stays x i) x (put x (slot_length * i) (negsuc 0 ∷ []))) slots s

-- the first slot whose candidate gave the most samples
unfoldable pub best : List ℤ → ℕ
best s = steps (λ i j. cond (lt_z (fit s j) (fit s i)) i j) slots 0

-- the 80 samples of candidate i
unfoldable pub computed : List ℤ → ℕ → List ℤ
computed s i = part s (slot_length * i + 165) frame_length

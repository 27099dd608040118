-- Laws of the table of playout depths: the loops over the arrivals, what the frame count and the start are, and some lines. Assumes nothing.
use Rattle.std.specs.Prelude.{◌≡◌, refl, List, [], ◌∷◌, ◌++◌, ℕ, zero, suc, ◌+◌, ◌*◌, ◌/◌, ◌≤◌, ◌<◌, min, max, length, get_or, take}
use Rattle.std.proofs.Common.{sym, ◌∙◌, add-one, arith, take-suc, take_all, ne_eqb}
use Rattle.std.proofs.Math.Nat.{div-le_of_le-mul}
use Rattle.text.specs.Text.{ascii}
use Rattle.print.specs.Print.{figure, decimal, digits}
use Rattle.depth_table.specs.Table.{frames, began, lowest, earliest, hundredths, two, percent, row}

-- ---- the loops: what is done before a turn is that of the arrivals before it

frames_append : (a b : List ℕ) → frames (a ++ b) ≡ max (frames a) (frames b)
unfolding frames
frames_append [] b = omega arith
frames_append (n ∷ a) b = omega (arith, frames_append a b)

pub frames_none : (l : List ℕ) → 0 ≡ frames (take 0 l)
unfolding frames
frames_none l = refl

pub frames_more : (l : List ℕ) (i m : ℕ) → i < length l → m ≡ frames (take i l) → max m (get_or l i 0 + 1) ≡ frames (take (i + 1) l)
unfolding frames
frames_more l i m h e = let j : i + 1 ≡ suc i = omega arith in rw (j, take-suc l i 0 h, frames_append (take i l) (get_or l i 0 ∷ [])) (omega (arith, e))

pub frames_end : (l : List ℕ) (i m : ℕ) → length l ≤ i → m ≡ frames (take i l) → m ≡ frames l
frames_end l i m h e = rw (take_all i l h) at e

pub lowest_none : (ns ts : List ℕ) → 4294967295 ≡ lowest (take 0 ns) (take 0 ts)
unfolding lowest
lowest_none ns ts = refl

lowest_turn : (ns ts : List ℕ) (i : ℕ) → i < length ns → i < length ts → min (lowest (take i ns) (take i ts)) (began (get_or ns i 0) (get_or ts i 0)) ≡ lowest (take (suc i) ns) (take (suc i) ts)
unfolding lowest began
lowest_turn [] ts i h k = absurd (omega arith)
lowest_turn (n ∷ ns) [] i h k = absurd (omega arith)
lowest_turn (n ∷ ns) (t ∷ ts) zero h k = omega arith
lowest_turn (n ∷ ns) (t ∷ ts) (suc i) h k = omega (arith, lowest_turn ns ts i (omega arith) (omega arith))

pub lowest_more : (ns ts : List ℕ) (i m : ℕ) → i < length ns → i < length ts → m ≡ lowest (take i ns) (take i ts)
    → min m (began (get_or ns i 0) (get_or ts i 0)) ≡ lowest (take (i + 1) ns) (take (i + 1) ts)
lowest_more ns ts i m h k e = rw (e, add-one) (lowest_turn ns ts i h k)

earliest_lowest : (ns ts : List ℕ) (n : ℕ) → n ≡ min (length ns) (length ts) → (n ≡ 0 → ⊥) → earliest ns ts ≡ lowest ns ts
unfolding earliest
earliest_lowest ns ts n e h = rw (← e, ne_eqb n 0 h)

pub earliest_none : (ns ts : List ℕ) → min (length ns) (length ts) ≡ 0 → 0 ≡ earliest ns ts
unfolding earliest
earliest_none ns ts h = rw h

lowest_all : (ns ts : List ℕ) (i : ℕ) → i ≡ min (length ns) (length ts) → lowest (take i ns) (take i ts) ≡ lowest ns ts
unfolding lowest
lowest_all [] ts zero h = refl
lowest_all [] ts (suc i) h = refl
lowest_all (n ∷ ns) [] zero h = refl
lowest_all (n ∷ ns) [] (suc i) h = refl
lowest_all (n ∷ ns) (t ∷ ts) zero h = absurd (omega arith)
lowest_all (n ∷ ns) (t ∷ ts) (suc i) h = omega (arith, lowest_all ns ts i (omega arith))

pub earliest_end : (ns ts : List ℕ) (i m : ℕ) → (min (length ns) (length ts) ≡ 0 → ⊥) → i ≡ min (length ns) (length ts) → m ≡ lowest (take i ns) (take i ts) → m ≡ earliest ns ts
earliest_end ns ts i m g h e = e ∙ lowest_all ns ts i h ∙ sym (earliest_lowest ns ts (min (length ns) (length ts)) refl g)

-- ---- what they are

-- each number is that of a frame
pub below : (l : List ℕ) (k : ℕ) → k < length l → get_or l k 0 < frames l
unfolding frames
below [] k h = absurd (omega arith)
below (n ∷ l) zero h = omega arith
below (n ∷ l) (suc k) h = omega (arith, below l k (omega arith))

lowest_at : (ns ts : List ℕ) (k : ℕ) → k < min (length ns) (length ts) → lowest ns ts ≤ began (get_or ns k 0) (get_or ts k 0)
unfolding lowest
lowest_at [] ts k h = absurd (omega arith)
lowest_at (n ∷ ns) [] k h = absurd (omega arith)
lowest_at (n ∷ ns) (t ∷ ts) zero h = omega arith
lowest_at (n ∷ ns) (t ∷ ts) (suc k) h = omega (arith, lowest_at ns ts k (omega arith))

-- no frame is faster than the start has it
pub not_after : (ns ts : List ℕ) (k : ℕ) → k < min (length ns) (length ts) → earliest ns ts ≤ began (get_or ns k 0) (get_or ts k 0)
not_after ns ts k h = rw (earliest_lowest ns ts (min (length ns) (length ts)) refl (λ e. omega arith)) (lowest_at ns ts k h)

lowest_most : (ns ts : List ℕ) (b : ℕ) → b ≤ 4294967295 → ((k : ℕ) → k < min (length ns) (length ts) → b ≤ began (get_or ns k 0) (get_or ts k 0)) → b ≤ lowest ns ts
unfolding lowest
lowest_most [] ts b h f = h
lowest_most (n ∷ ns) [] b h f = h
lowest_most (n ∷ ns) (t ∷ ts) b h f = omega (arith, f 0 (omega arith), lowest_most ns ts b h (λ k i. f (suc k) (omega arith)))

-- and no later start has that
pub no_later : (ns ts : List ℕ) (b : ℕ) → b ≤ 4294967295 → 0 < min (length ns) (length ts)
    → ((k : ℕ) → k < min (length ns) (length ts) → b ≤ began (get_or ns k 0) (get_or ts k 0)) → b ≤ earliest ns ts
no_later ns ts b h i f = rw (earliest_lowest ns ts (min (length ns) (length ts)) refl (λ e. omega arith)) (lowest_most ns ts b h f)

-- ---- lines

pub length_two : (n : ℕ) → length (two n) ≡ 2
unfolding two
length_two n = refl

-- at most 100 percent are lost
pub at_most_all : (lost n : ℕ) → 10000 * min lost n / n ≤ 10000
at_most_all lost n = div-le_of_le-mul n (omega arith)

half : row 0 812 1500 ≡ ascii "0 812 54.13\n"
unfolding row hundredths percent two figure decimal digits
half = refl

few : row 200 3 1500 ≡ ascii "200 3 0.20\n"
unfolding row hundredths percent two figure decimal digits
few = refl

all : row 0 7 7 ≡ ascii "0 7 100.00\n"
unfolding row hundredths percent two figure decimal digits
all = refl

no_frames : row 4294967295 0 0 ≡ ascii "4294967295 0 0.00\n"
unfolding row hundredths percent two figure decimal digits
no_frames = refl

-- What the private functions of src/fast.rt say of each other: equation (40) of G.729 clause 3.7.1 by its taps in the order of the words, and when its
-- sums need no saturation. No public contract cites these.
use Rattle.std.specs.Prelude.{ℕ, ◌+◌, ◌-◌, ◌*◌, ◌^◌, ◌≤◌, ◌<◌, ◌≡◌, cond, List, ltb, ℤ, pos, ◌+ℤ◌, ◌*ℤ◌, replicate}
use Rattle.std.specs.Int.Signed.{mag}
use Rattle.laws.specs.Lists.{at}
use Rattle.laws.specs.Loops.{steps, run}
use Rattle.block.specs.Places.{subframe_length, exc_length}
use Rattle.basic_op.specs.Ops.{l_mac, round}

-- where tap j of a phase stands in the filter
unfoldable pub tap : ℕ → ℕ → ℕ
tap phase j = cond (ltb j 10) (phase + 3 * (9 - j)) (3 - phase + 3 * (j - 10))

-- the taps in the order of the words, written from o on over 32 zeros
unfoldable pub taps : List ℤ → ℕ → ℕ → List ℤ
taps b30 phase o = run (λ j e. at b30 (tap phase j)) o 20 (replicate 32 (pos 0))

-- `interpolate` by the taps from o on
unfoldable pub filtered : List ℤ → ℕ → ℕ → List ℤ → ℤ
filtered c o x u = round (steps (λ i s. l_mac (l_mac s (at u (x - i)) (at c (o + (9 - i)))) (at u (x + 1 + i)) (at c (o + (10 + i)))) 10 (pos 0))

-- the sum of the first n products, the oldest word at p
unfoldable pub dot : List ℤ → List ℤ → ℕ → ℕ → ℤ
dot c u p n = steps (λ j s. s +ℤ at u (p + j) *ℤ at c j) n (pos 0)

-- at least the sum of the first n taps without their signs
unfoldable pub size_sum : List ℤ → ℕ → ℕ
size_sum c n = steps (λ j s. s + (mag (at c j) + 1)) n 0

-- the n words from p on lie from -m to m - 1
abbrev pub Small : List ℤ → ℕ → ℕ → ℕ → Type 0
Small l p n m = (j : ℕ) → j < n → mag (at l (p + j)) < m

-- every sum of the first products fits 32 bits
abbrev pub Sums : List ℤ → List ℤ → ℕ → Type 0
Sums c u p = (n : ℕ) → n ≤ 32 → mag (dot c u p n) < 2 ^ 31

-- all words but the twenty from o on are 0
abbrev pub Padded : List ℤ → ℕ → Type 0
Padded c o = ((j : ℕ) → j < o → at c j ≡ pos 0) × ((j : ℕ) → o + 20 ≤ j → at c j ≡ pos 0)

-- every 32 words that a subframe at `from` reads, o of them before the oldest that a tap weighs, lie within the buffer
abbrev pub Room : ℕ → ℕ → ℕ → Type 0
Room o from k = (o ≤ 12) × ((22 ≤ k + o) × ((k + o + 9 ≤ from) × (from + subframe_length ≤ exc_length)))

-- taps of a size at which no sum of small words saturates, and places within the buffer
abbrev pub NoSaturation : List ℤ → ℕ → ℕ → ℕ → Type 0
NoSaturation c o from k = (size_sum c 32 ≤ 65534) × (Padded c o × Room o from k)

-- what takes the first m words written from p on to the first n
abbrev pub Continues : (ℕ → List ℤ → ℤ) → ℕ → ℕ → ℕ → List ℤ → List ℤ → Type 0
Continues f p m n e x = (l : List ℤ) → e ≡ run f p m l → x ≡ run f p n l

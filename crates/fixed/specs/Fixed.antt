-- The fixed (algebraic) codebook of ITU-T G.729, clauses 3.8, 4.1.4 and 4.4.4.
use Rattle.std.specs.Prelude.{ℕ, zero, suc, ◌+◌, ◌-◌, ◌*◌, ◌/◌, ◌%◌, ◌^◌, cond, List, eqb, ℤ, pos, negsuc, ◌+ℤ◌, ◌*ℤ◌, set, replicate}
use Rattle.laws.specs.Lists.{at}
use Rattle.laws.specs.Loops.{steps, run}
use Rattle.basic_op.specs.Ops.{add, mult, shl, low16, extract_l}
use Rattle.fixed.specs.declared.Drawn.{Drawn}

-- equation (96), kept to 16 bits: the next random number, which is the next seed too
unfoldable pub random : ℤ → ℤ
random seed = extract_l (pos 31821 *ℤ seed +ℤ pos 13849)

-- clause 4.4.4: the 13 low bits of a random number are the index of an erased subframe, and the 4 low bits of the next one its signs
unfoldable pub random_index : ℤ → Drawn
random_index seed =
    record { index = low16 (random seed) % 2 ^ 13; sign = low16 (random (random seed)) % 2 ^ 4; seed = random (random seed) }

-- clause 4.1.4, inverting equation (62) over the tracks of Table 7: the position of pulse k. Pulses 0 to 2 have three bits of the index each, pulse 3 the four above them,
-- of which the lowest picks one of its two tracks
unfoldable pub position : ℕ → ℕ → ℕ
position index zero = 5 * (index % 8)
position index (suc zero) = 5 * (index / 8 % 8) + 1
position index (suc (suc zero)) = 5 * (index / 64 % 8) + 2
position index (suc (suc (suc k))) = 5 * (index / 1024 % 8) + 3 + index / 512 % 2

-- clause 4.1.4, inverting equation (61): the amplitude of pulse k (Q13), by bit k of the sign index; `positive` is that of a positive one,
-- and a negative one is -1.0
unfoldable pub pulse : ℤ → ℕ → ℕ → ℤ
pulse positive sign k = cond (eqb (sign / 2 ^ k % 2) 1) positive (negsuc 8191)

-- equation (45): forty words, 0 but at the four pulses
unfoldable pub codevector : ℤ → ℕ → ℕ → List ℤ
codevector positive index sign = steps (λ k code. set code (position index k) (pulse positive sign k)) 4 (replicate 40 (pos 0))

-- equation (48): each word from place t0 on gets beta times the word t0 before it, which may be sharpened already. beta is Q14, doubled with saturation
-- to Q15. Unchanged where t0 is not in 1..39
unfoldable pub sharpen : List ℤ → ℤ → ℤ → List ℤ
sharpen code (negsuc n) beta = code
sharpen code (pos zero) beta = code
sharpen code (pos (suc n)) beta = run (λ k c. add (at c (suc n + k)) (mult (at c k) (shl beta (pos 1)))) (suc n) (40 - suc n) code

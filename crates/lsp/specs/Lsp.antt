-- The line spectral frequencies of G.729: clause 3.2.4 (codebooks, spacing, moving-average prediction, stability), 3.2.5 (interpolation),
-- 3.2.4 and 3.2.6 (cosine conversion), 4.1.1 and 4.4.1 (erased frames). Frequencies are in radians, Q13, LSP
-- in Q15. A row is the quantizer output l^ of a frame; the memory is the last four rows of ten, the newest first.
use Rattle.std.specs.Prelude.{cond, List, ◌∷◌, ℕ, ◌+◌, ◌/◌, ◌%◌, ℤ, pos, ltb, set, take}
use Rattle.std.specs.Int.Signed.{lt_z, shr_z}
use Rattle.laws.specs.Lists.{at, tab}
use Rattle.laws.specs.Loops.{steps, run}
use Rattle.basic_op.specs.Ops.{add, sub, mult, l_mult, l_shr, extract_l, low16, lesser, greater}
use Rattle.sort.specs.Sort.{sort}
use Rattle.lsp_ma.specs.Ma.{ma_prediction, invert_ma_prediction}
use Rattle.tables.specs.Layout.{lsp_cb1, lsp_cb2, lsp_ma, lsp_ma_sum, lsp_ma_sum_inv, scalar}
use Rattle.tables.specs.Formula.{lsp_cosine, lsp_cosine_slope}
use Rattle.tables.specs.declared.Scalar.TheVariants.{LsfStabilityLowLimit, LsfStabilityHighLimit, LsfStabilityMinDistance}

-- ---- clause 3.2.4: the codebooks

-- equation (19): the row L1 of the first codebook plus rows of the second, L2 for words 0 to 4 and L3 for the others; each index keeps the bits of its field
unfoldable pub codebook_sum : List ℤ → ℕ → ℕ → ℕ → List ℤ
codebook_sum t l1 l2 l3 =
    tab 10 (λ i. add (at (lsp_cb1 t (l1 % 128)) i) (at (cond (ltb i 5) (lsp_cb2 t (l2 % 32)) (lsp_cb2 t (l3 % 32))) i))

-- ---- clause 3.2.4: the spacing of neighbours

-- words k and k + 1, moved apart by half of what is missing to the spacing, rounded down, where anything is missing
unfoldable pub spread_pair : ℤ → ℕ → List ℤ → List ℤ
spread_pair spacing k l =
    let shortfall = add (sub (at l k) (at l (k + 1))) spacing in
    let half = shr_z shortfall 2 in
    cond (lt_z (pos 0) shortfall) (set (set l k (sub (at l k) half)) (k + 1) (add (at l (k + 1)) half)) l

-- pairs from left to right; each sees what the pair before it left
unfoldable pub enforce_spacing : ℤ → List ℤ → List ℤ
enforce_spacing spacing l = steps (spread_pair spacing) 9 l

-- the row that goes into the memory: the codebook sum with J = 0.0012, then J = 0.0006, as 10 and 5 in Q13
unfoldable pub new_row : List ℤ → ℕ → ℕ → ℕ → List ℤ
new_row t l1 l2 l3 = enforce_spacing (pos 5) (enforce_spacing (pos 10) (codebook_sum t l1 l2 l3))

-- ---- clause 3.2.4: the memory

-- the newest row goes first, and the oldest of the four is dropped
unfoldable pub remember_output : List (List ℤ) → List ℤ → List (List ℤ)
remember_output past l = l ∷ take 3 past

-- ---- clause 3.2.4: order and bounds

-- next, or previous plus the distance where it is nearer than that
unfoldable pub keep_distance : ℤ → ℤ → ℤ → ℤ
keep_distance distance previous next = cond (lt_z (sub next previous) distance) (add previous distance) next

-- the ten words in order; the first at least low; then from left to right each at least the distance above the one before; at last the
-- tenth, and no other, at most high
unfoldable pub order_and_bound : ℤ → ℤ → ℤ → List ℤ → List ℤ
order_and_bound low high distance omega =
    let ordered = sort omega in
    let raised = set ordered 0 (greater (at ordered 0) low) in
    let apart = run (λ k l. keep_distance distance (at l k) (at l (1 + k))) 1 9 raised in
    set apart 9 (lesser (at apart 9) high)

-- ---- clause 4.1.1: the frequencies of a frame

-- what a new row gives with the past rows and the predictor L0, in order and within the bounds of the tables
unfoldable pub decode_lsf : List ℤ → ℕ → List ℤ → List (List ℤ) → List ℤ
decode_lsf t l0 l past =
    order_and_bound (scalar t LsfStabilityLowLimit) (scalar t LsfStabilityHighLimit) (scalar t LsfStabilityMinDistance)
    (ma_prediction l past (lsp_ma t (l0 % 2)) (lsp_ma_sum t (l0 % 2)))

-- ---- clause 4.4.1: the row of an erased frame

-- the predictor of the last voice frame; the nearer of 0 and 1 for any other word
unfoldable pub predictor_index : ℤ → ℕ
predictor_index p = cond (lt_z (pos 0) p) 1 0

-- the last frequencies omega worked back with that predictor
unfoldable pub erased_row : List ℤ → ℤ → List ℤ → List (List ℤ) → List ℤ
erased_row t predictor omega past = invert_ma_prediction omega past (lsp_ma t (predictor_index predictor)) (lsp_ma_sum_inv t (predictor_index predictor))

-- ---- clauses 3.2.4, equation (18), and 3.2.6: from frequencies to cosines

-- the cosine of a frequency in units of π / 64, Q8: a point of the table, and its slope over the lower byte. The point is the upper byte of the
-- word's 16 bits, 63 at most, so a negative frequency has point 63. The slope's product is rounded down.
unfoldable pub cosine : ℤ → ℤ
cosine freq =
    let point = cond (ltb (low16 freq / 256) 63) (low16 freq / 256) 63 in
    add (at lsp_cosine point) (extract_l (l_shr (l_mult (at lsp_cosine_slope point) (pos (low16 freq % 256))) (pos 13)))

-- the scale, 1/(2π) in Q17 or 64/π in Q10, takes radians in Q13 to units of π / 64 in Q8
unfoldable pub lsf_to_lsp : ℤ → List ℤ → List ℤ
lsf_to_lsp scale lsf = tab 10 (λ i. cosine (mult (at lsf i) scale))

-- ---- clause 3.2.5

-- equation (24): halfway between the previous frame and this one, each halved first and rounded down
unfoldable pub interpolate : List ℤ → List ℤ → List ℤ
interpolate prev cur = tab 10 (λ k. add (shr_z (at prev k) 2) (shr_z (at cur k) 2))

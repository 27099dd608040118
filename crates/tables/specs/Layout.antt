-- The table block (01, "The table block and the state block"): 1,880 words that the caller hands in, the values that the Rust takes from the licensed package of ITU-T G.729.
-- Each definition names a part by its place in the block; a word past the end is 0. The comments say what G.729 holds there:
-- nothing is assumed of the words.
use Rattle.std.specs.Prelude.{◌≡◌, Bool, cond, ◌&&◌, List, [], ◌∷◌, ℕ, ◌+◌, ◌*◌, eqb, ℤ, pos, length}
use Rattle.std.specs.Int.Signed.{le_z}
use Rattle.laws.specs.Lists.{at}
use Rattle.block.specs.Block.{part}
use Rattle.tables.specs.declared.Scalar.{Scalar}
use Rattle.tables.specs.declared.Scalar.TheVariants.{PitchSharpeningMax, InitialPreviousPitchDelay, FixedCodebookPulsePositive, GainPredictionLogScale, GainPredictionMeanEnergyMantissa, GainPredictionMeanEnergyMultiplier, GainPredictionDbToLog2, GainUpdateLog2ToDb, ErasurePitchGainLimit, ErasureFixedGainAttenuation, LsfToLspFrequencyScale, LsfStabilityLowLimit, LsfStabilityHighLimit, LsfStabilityMinDistance}

-- the ten words at n
abbrev pub row : List ℤ → ℕ → List ℤ
row t n = part t n 10

-- row i of the first LSF codebook L1, 128 rows, Q13 (clause 3.2.4)
abbrev pub lsp_cb1 : List ℤ → ℕ → List ℤ
lsp_cb1 t i = row t (10 * i)

-- row i of the second LSF codebooks L2 and L3, 32 rows, Q13 (clause 3.2.4)
abbrev pub lsp_cb2 : List ℤ → ℕ → List ℤ
lsp_cb2 t i = row t (1280 + 10 * i)

-- the moving-average predictor p, 0 or 1: a row for each of the four past frames, newest first, Q15 (clause 3.2.4, equation (20))
abbrev pub lsp_ma : List ℤ → ℕ → List (List ℤ)
lsp_ma t p = row t (1600 + 40 * p) ∷ row t (1610 + 40 * p) ∷ row t (1620 + 40 * p) ∷ row t (1630 + 40 * p) ∷ []

-- 1 less the sum of its weights, as words of the block, Q15 (clause 3.2.4, equation (20))
abbrev pub lsp_ma_sum : List ℤ → ℕ → List ℤ
lsp_ma_sum t p = row t (1680 + 10 * p)

-- the inverse of the complement, Q12 (clause 4.4.1, equation (92))
abbrev pub lsp_ma_sum_inv : List ℤ → ℕ → List ℤ
lsp_ma_sum_inv t p = row t (1700 + 10 * p)

-- the interpolation filter b30 of the adaptive codebook, Q15 (clause 3.7.1, equation (40))
unfoldable pub b30 : List ℤ → List ℤ
b30 t = part t 1720 31

-- word j of row i of the gain codebook GA, 8 rows of 2: the pitch gain, Q14, and the correction factor, Q13 (clause 3.9.2)
abbrev pub gain_ga : List ℤ → ℕ → ℕ → ℤ
gain_ga t i j = at t (1751 + 2 * i + j)

-- word j of row i of the gain codebook GB, 16 rows of the same (clause 3.9.2)
abbrev pub gain_gb : List ℤ → ℕ → ℕ → ℤ
gain_gb t i j = at t (1767 + 2 * i + j)

-- the row of GA that the transmitted index i stands for (clause 3.9.3)
abbrev pub map_ga : List ℤ → ℕ → ℤ
map_ga t i = at t (1799 + i)

-- the row of GB that the transmitted index i stands for (clause 3.9.3)
abbrev pub map_gb : List ℤ → ℕ → ℤ
map_gb t i = at t (1807 + i)

-- log2 (1 + k / 32), k from 0 to 32, Q15 (clause 3.9.1)
unfoldable pub log2 : List ℤ → List ℤ
log2 t = part t 1823 33

-- the LSP vector of the frame before the first, Q15 (clause 3.2.5)
abbrev pub initial_lsp : List ℤ → List ℤ
initial_lsp t = row t 1856

-- ---- the scalars, from word 1866 on: bounds and factors of clauses 3.2.4 to 4.4 (src/lib.rt has the format of each)

abbrev pub place : Scalar → ℕ
place PitchSharpeningMax = 0
place InitialPreviousPitchDelay = 1
place FixedCodebookPulsePositive = 2
place GainPredictionLogScale = 3
place GainPredictionMeanEnergyMantissa = 4
place GainPredictionMeanEnergyMultiplier = 5
place GainPredictionDbToLog2 = 6
place GainUpdateLog2ToDb = 7
place ErasurePitchGainLimit = 8
place ErasureFixedGainAttenuation = 9
place LsfToLspFrequencyScale = 10
place LsfStabilityLowLimit = 11
place LsfStabilityHighLimit = 12
place LsfStabilityMinDistance = 13

unfoldable pub scalar : List ℤ → Scalar → ℤ
scalar t s = at t (1866 + place s)

-- ---- the table check: 1 for another length; 2 for an initial delay out of range; 0 for an accepted block

-- a delay that the excitation holds the words for (01: 19 to 144)
unfoldable pub delay_in_range : ℤ → Bool
delay_in_range d = le_z (pos 19) d && le_z d (pos 144)

unfoldable pub table_check : List ℤ → ℕ
table_check t = cond (eqb (length t) 1880) (cond (delay_in_range (scalar t InitialPreviousPitchDelay)) 0 2) 1

abbrev pub AcceptedTables : List ℤ → Type 0
AcceptedTables t = table_check t ≡ 0

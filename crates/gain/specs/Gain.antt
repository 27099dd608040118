-- The gains of ITU-T G.729: prediction of the fixed-codebook gain (clause 3.9.1), decoding of both gains (clauses 3.9.2, 3.9.3 and 4.1.5),
-- their attenuation in an erased frame (clauses 4.4.2 and 4.4.3), and the factor of pitch sharpening (clause 3.8). `t` is the table block.
-- The clauses leave the fixed-point steps open: the scalings, and the order of the operations, are the Rust's.
use Rattle.std.specs.Prelude.{ℕ, ◌%◌, List, [], ◌∷◌, ℤ, pos, negsuc}
use Rattle.laws.specs.Lists.{at}
use Rattle.laws.specs.Loops.{steps}
use Rattle.tables.specs.declared.Scalar.TheVariants.{PitchSharpeningMax, GainPredictionLogScale, GainPredictionMeanEnergyMantissa, GainPredictionMeanEnergyMultiplier, GainPredictionDbToLog2, GainUpdateLog2ToDb, ErasurePitchGainLimit, ErasureFixedGainAttenuation}
use Rattle.tables.specs.Layout.{gain_ga, gain_gb, map_ga, map_gb, log2, scalar}
use Rattle.tables.specs.Formula.{gain_prediction_coefficients}
use Rattle.basic_op.specs.Ops.{add, sub, mult, l_mult, l_add, l_mac, l_shl, l_shr, extract_h, extract_l, low16, lesser, greater}
use Rattle.basic_op.specs.Oper32b.{split_high_low, join_high_low, multiply_split_by_16, base2_log, base2_power}
use Rattle.gain.specs.declared.Predicted.{Predicted}
use Rattle.gain.specs.declared.GainState.{GainState}

-- equation (47): the last pitch gain, at most the table's bound and at least 0.2 (Q14). 0.2 is applied last, so it wins where the
-- table's bound is below it
unfoldable pub sharpening : List ℤ → ℤ → ℤ
sharpening t gp = greater (lesser gp (scalar t PitchSharpeningMax)) (pos 3277)

-- ---- prediction of the fixed-codebook gain, equations (66) to (71)

-- the sum of the squares of equation (66), Q27
unfoldable pub energy : List ℤ → ℤ
energy code = steps (λ k e. l_mac e (at code k) (at code k)) 40 (pos 0)

-- equation (66) in dB, through the base-2 logarithm, added to the mean energy, Q24. The scale is a table word, negative in G.729's, so that
-- the energy is taken off; the mean-energy words there hold the 1/40 and the scaling of the sum too
unfoldable pub mean_and_energy : List ℤ → List ℤ → ℤ
mean_and_energy t code =
    let e = base2_log (energy code) (log2 t) in
    l_shl
    (l_mac (multiply_split_by_16 e.integer e.fraction (scalar t GainPredictionLogScale)) (scalar t GainPredictionMeanEnergyMantissa) (scalar t GainPredictionMeanEnergyMultiplier))
    (pos 10)

-- equation (69), added to l: the moving average over the last four errors (Q10), newest first; Q24, so that its upper half is dB in Q8
unfoldable pub prediction : ℤ → List ℤ → ℤ
prediction l mem = steps (λ k s. l_mac s (at gain_prediction_coefficients k) (at mem k)) 4 l

-- the exponent of equation (71), to the base 2, Q16
unfoldable pub log2_gain : List ℤ → List ℤ → List ℤ → ℤ
log2_gain t code mem = l_shr (l_mult (extract_h (prediction (mean_and_energy t code) mem)) (scalar t GainPredictionDbToLog2)) (pos 8)

-- equation (71): the predicted gain is mantissa / 2^exponent
unfoldable pub predict : List ℤ → List ℤ → List ℤ → Predicted
predict t code mem =
    let x = split_high_low (log2_gain t code mem) in
    record { mantissa = extract_l (base2_power (pos 14) x.lower); exponent = sub (pos 14) x.upper }

-- ---- the two-stage codebook (clauses 3.9.2 and 3.9.3), equations (72) to (74)

-- the row for a received index: the 3 low bits of GA, or the 4 of GB, pick a word of the map, of which again the 3 or 4 low bits are taken (`& 7`
-- and `& 15` in the Rust), so that -1 gives 7 or 15

unfoldable pub row_ga : List ℤ → ℕ → ℕ
row_ga t ga = low16 (map_ga t (ga % 8)) % 8

unfoldable pub row_gb : List ℤ → ℕ → ℕ
row_gb t gb = low16 (map_gb t (gb % 16)) % 16

-- equation (73), Q14
unfoldable pub pitch_gain : List ℤ → ℕ → ℕ → ℤ
pitch_gain t ga gb = add (gain_ga t (row_ga t ga) 0) (gain_gb t (row_gb t gb) 0)

-- the correction factor of equation (74), Q13, in 32 bits: the sum of two words may exceed 16
unfoldable pub gamma : List ℤ → ℕ → ℕ → ℤ
gamma t ga gb = l_add (gain_ga t (row_ga t ga) 1) (gain_gb t (row_gb t gb) 1)

-- equation (74), Q1: the predicted gain p times the correction factor g, of which the 16 low bits in Q12 are taken
abbrev pub fixed_gain_of : Predicted → ℤ → ℤ
fixed_gain_of p g = extract_h (l_shr (l_mult p.mantissa (extract_l (l_shr g (pos 1)))) (sub p.exponent (pos 4)))

unfoldable pub fixed_gain : List ℤ → ℕ → ℕ → List ℤ → List ℤ → ℤ
fixed_gain t ga gb code mem = fixed_gain_of (predict t code mem) (gamma t ga gb)

-- equation (72), Q10: the prediction error in dB, 20 log10 of the correction factor g, which goes into the memory
abbrev pub gain_error_of : List ℤ → ℤ → ℤ
gain_error_of t g =
    let e = base2_log g (log2 t) in
    mult (extract_h (l_shl (join_high_low (sub e.integer (pos 13)) e.fraction) (pos 13))) (scalar t GainUpdateLog2ToDb)

unfoldable pub gain_error : List ℤ → ℕ → ℕ → ℤ
gain_error t ga gb = gain_error_of t (gamma t ga gb)

-- ---- the state: the last four errors, newest first, and the last two gains

unfoldable pub push : List ℤ → ℤ → List ℤ
push mem u = u ∷ at mem 0 ∷ at mem 1 ∷ at mem 2 ∷ []

-- clause 4.1.5: the state after a subframe that was received; its gains are those decoded
unfoldable pub decode : List ℤ → ℕ → ℕ → List ℤ → GainState → GainState
decode t ga gb code s =
    record { mem = push s.mem (gain_error t ga gb); gp = pitch_gain t ga gb; gc = fixed_gain t ga gb code s.mem }

-- ---- an erased subframe, clauses 4.4.2 and 4.4.3

-- equation (94): 0.9 (Q15) times the last pitch gain, but the table's limit where the product is above it
unfoldable pub conceal_pitch_gain : List ℤ → ℤ → ℤ
conceal_pitch_gain t gp = lesser (mult gp (pos 29491)) (scalar t ErasurePitchGainLimit)

-- equation (93)
unfoldable pub conceal_fixed_gain : List ℤ → ℤ → ℤ
conceal_fixed_gain t gc = mult gc (scalar t ErasureFixedGainAttenuation)

-- the sum in equation (95)
unfoldable pub error_sum : List ℤ → ℤ
error_sum mem = steps (λ k s. l_add s (at mem k)) 4 (pos 0)

-- equation (95): the mean of the last four errors, rounded down, less 4 dB, at least -14 dB (Q10)
unfoldable pub conceal_error : List ℤ → ℤ
conceal_error mem = greater (sub (extract_l (l_shr (error_sum mem) (pos 2))) (pos 4096)) (negsuc 14335)

unfoldable pub conceal : List ℤ → GainState → GainState
conceal t s =
    record { mem = push s.mem (conceal_error s.mem); gp = conceal_pitch_gain t s.gp; gc = conceal_fixed_gain t s.gc }

-- Laws of the table block: no scalar's place is past the last, and what the table check says. Assumes nothing.
use Rattle.std.specs.Prelude.{◌≡◌, refl, Bool, true, false, cond, List, ℕ, ◌≤◌, eqb, ℤ, length}
use Rattle.std.proofs.Common.{arith}
use Rattle.tables.specs.declared.Scalar.{Scalar}
use Rattle.tables.specs.declared.Scalar.TheVariants.{PitchSharpeningMax, InitialPreviousPitchDelay, FixedCodebookPulsePositive, GainPredictionLogScale, GainPredictionMeanEnergyMantissa, GainPredictionMeanEnergyMultiplier, GainPredictionDbToLog2, GainUpdateLog2ToDb, ErasurePitchGainLimit, ErasureFixedGainAttenuation, LsfToLspFrequencyScale, LsfStabilityLowLimit, LsfStabilityHighLimit, LsfStabilityMinDistance}
use Rattle.tables.specs.Layout.{place, scalar, delay_in_range, table_check, AcceptedTables}

pub place_small : (s : Scalar) → place s ≤ 13
place_small PitchSharpeningMax = omega arith
place_small InitialPreviousPitchDelay = omega arith
place_small FixedCodebookPulsePositive = omega arith
place_small GainPredictionLogScale = omega arith
place_small GainPredictionMeanEnergyMantissa = omega arith
place_small GainPredictionMeanEnergyMultiplier = omega arith
place_small GainPredictionDbToLog2 = omega arith
place_small GainUpdateLog2ToDb = omega arith
place_small ErasurePitchGainLimit = omega arith
place_small ErasureFixedGainAttenuation = omega arith
place_small LsfToLspFrequencyScale = omega arith
place_small LsfStabilityLowLimit = omega arith
place_small LsfStabilityHighLimit = omega arith
place_small LsfStabilityMinDistance = omega arith

pub check_few : (t : List ℤ) → table_check t ≤ 2
unfolding table_check
check_few t = by (eqb (length t) 1880) (delay_in_range (scalar t InitialPreviousPitchDelay))
  where
    by : (p q : Bool) → cond p (cond q 0 2) 1 ≤ 2
    by true true = omega arith
    by true false = omega arith
    by false q = omega arith

pub accepted_delay : (t : List ℤ) → AcceptedTables t → delay_in_range (scalar t InitialPreviousPitchDelay) ≡ true
unfolding table_check
accepted_delay t e = by (eqb (length t) 1880) (delay_in_range (scalar t InitialPreviousPitchDelay)) e
  where
    by : (p q : Bool) → ◌≡◌ {A = ℕ} (cond p (cond q 0 2) 1) 0 → q ≡ true
    by true true h = refl
    by true false h = absurd (omega arith)
    by false q h = absurd (omega arith)

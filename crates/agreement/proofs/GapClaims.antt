-- The claims of specs/Gap.antt, whole.
use Prim.Native.Nat.{ℕ, zero, suc, ◌%◌, ◌≤◌}
use mathlib.Core.Path.{◌≡◌, ap}
use mathlib.Core.List.{List, [], ◌∷◌}
use native.Mathlib.Omega.{arith}
use lib.Dec.{T, lit≤}
use lib.IntN.{ℤ}
use lib.ListN.{take}
use Rattle.basic_op.specs.Ops.{low16}
use Rattle.fixed.specs.Period.{period}
use Rattle.state.specs.State.{read_params, read, accepted_state}
use Rattle.agreement.specs.Demand.{Call, frames, All}
use Rattle.agreement.specs.Gap.{begun, SeedBits, Common, Met, Through, SamePulses, Gap, BesideGap}
use Rattle.agreement.proofs.Seeds.{accepted_begun, seed_is, seeds, seeds_stay, low_seeds}
use Rattle.agreement.proofs.States.{states_agree, told_after_five}
use Rattle.agreement.proofs.Gap.{after_five, near_pulses}
use Rattle.agreement.proofs.GapWitness.{no_smaller, after_four}
use Rattle.agreement.proofs.PulsesWitness.{pulses_1024}

-- ---- six common voice frames, or five

shorter : {A : Type 0} (P : A → Type 0) (m n : ℕ) (l : List A) → n ≤ m → All P (take m l) → All P (take n l)
shorter P m zero l h a = tt
shorter P zero (suc n) l h a = absurd (omega arith)
shorter P (suc m) (suc n) [] h a = tt
shorter P (suc m) (suc n) (x ∷ l) h a = (a.0, shorter P m n l (omega arith) a.1)

seed_pulses : (ca cb : List Call) (a b : List ℤ) → T (accepted_state a) → T (accepted_state b) → Common 5 (frames ca a) (frames cb b) → SeedBits a b → SamePulses (frames ca a) (frames cb b)
unfolding read read_params
seed_pulses ca cb a b ok_a ok_b k e = near_pulses ca cb a b ok_a ok_b k e

module _ {m : ℕ} (five : 5 ≤ m) (t : List ℤ) (ha hb ca cb : List Call) (k : Met m t ha hb ca cb) where
  met_five : Common 5 (frames ca (begun t ha)) (frames cb (begun t hb))
  met_five = record { same = k.common.same; voice = shorter (λ v. v.call.kind ≡ 0) m 5 _ five k.common.voice; parity = k.common.parity }

  through : Through (frames ca (begun t ha)) (frames cb (begun t hb))
  through = after_five ca cb (begun t ha) (begun t hb) (accepted_begun t k.tables ha) (accepted_begun t k.tables hb) met_five

  met_pulses : SeedBits (begun t ha) (begun t hb) → SamePulses (frames ca (begun t ha)) (frames cb (begun t hb))
  met_pulses e = seed_pulses ca cb (begun t ha) (begun t hb) (accepted_begun t k.tables ha) (accepted_begun t k.tables hb) met_five e

pub gap_is : Gap
gap_is =
    record {
      through = λ t ha hb ca cb k. through (lit≤ tt) t ha hb ca cb k;
      seeds = seeds;
      seed_is = seed_is;
      period = period;
      same_pulses = λ t ha hb ca cb k e. met_pulses (lit≤ tt) t ha hb ca cb k (ap (λ (s : ℤ). low16 s % 8192) e);
    }

-- ---- beside the request

pub beside_gap : BesideGap
beside_gap =
    record {
      after_five = λ ca cb a b ok_a ok_b k. (after_five ca cb a b ok_a ok_b k, λ e. seed_pulses ca cb a b ok_a ok_b k e);
      after_four = after_four;
      no_smaller = no_smaller;
      seeds_stay = seeds_stay;
      same_low_bits = λ t ha hb ca cb k e. met_pulses (lit≤ tt) t ha hb ca cb k (low_seeds t k.tables ha hb e);
      pulses_1024 = pulses_1024;
      states_agree = λ a b ca cb same. states_agree a b ca cb same;
      told_after_five = told_after_five;
    }

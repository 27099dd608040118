-- The rules of the tables by formula hold: one computed test over the entries of each, and one law that gives each entry its rule.
-- Assumes nothing.
use mathlib.Core.Path.{refl, sym}
use mathlib.Core.Bool.{Bool, true, false, ◌&&◌}
use Prim.Native.Nat.{ℕ, zero, suc, ◌+◌, ◌-◌, ◌*◌, ◌^◌, ◌≤◌, ◌<◌}
use native.Mathlib.Omega.{arith}
use lib.Dec.{T, ltb, ltb→lt}
use lib.IntN.{ℤ, pos, nat_abs, ◌+ℤ◌, ◌-ℤ◌, ◌*ℤ◌}
use lib.Signed.{lt_z, le_z, ◌≤ℤ◌, non_neg, le_z_yes, lt_z_yes, pos-nat_abs}
use Rattle.laws.specs.Lists.{at}
use Rattle.laws.specs.Loops.{every, every_at}
use Rattle.tables.specs.Formula.{lsp_cosine, lsp_cosine_slope, pow2, gain_prediction_coefficients, lsp_quantizer_initial_memory}
use Rattle.tables.specs.Rules.{Power, unit, cosines, chebyshev, u63, NearRoot, Nearest, Cosine, Slope, Hundredths, coefficients, Frequency, Rules}

both : (a b : Bool) → T (a && b) → T a × T b
both true b t = (tt, t)
both false b t = absurd t

-- ---- a rule from its test

unfoldable power_test : ℕ → ℤ → Bool
power_test i t = non_neg t && (ltb ((2 * nat_abs t - 1) ^ 32) (32768 ^ 32 * 2 ^ i) && ltb (32768 ^ 32 * 2 ^ i) ((2 * nat_abs t + 1) ^ 32))

power : (i : ℕ) (t : ℤ) → T (power_test i t) → Power i t
unfolding power_test
power i t p =
    let a = ltb ((2 * nat_abs t - 1) ^ 32) (32768 ^ 32 * 2 ^ i) in
    let b = ltb (32768 ^ 32 * 2 ^ i) ((2 * nat_abs t + 1) ^ 32) in
    let q = both (non_neg t) (a && b) p in
    let r = both a b q.1 in
    record { n = nat_abs t; is = sym (pos-nat_abs t q.0); low = ltb→lt _ _ r.0; high = ltb→lt _ _ r.1 }

unfoldable root_test : ℤ → Bool
root_test c = lt_z (u63 (c -ℤ pos 1) *ℤ u63 (c +ℤ pos 1)) (pos 0)

near_root : (c : ℤ) → T (root_test c) → NearRoot c
unfolding root_test
near_root c p = record { signs = lt_z_yes p }

unfoldable nearest_test : ℤ → ℤ → ℤ → Bool
nearest_test low high t = le_z ((pos 2 *ℤ t -ℤ pos 1) *ℤ unit) low && le_z high ((pos 2 *ℤ t +ℤ pos 1) *ℤ unit)

nearest : (low high t : ℤ) → T (nearest_test low high t) → Nearest low high t
unfolding nearest_test
nearest low high t p =
    let q = both (le_z ((pos 2 *ℤ t -ℤ pos 1) *ℤ unit) low) (le_z high ((pos 2 *ℤ t +ℤ pos 1) *ℤ unit)) p in
    record { below = le_z_yes q.0; above = le_z_yes q.1 }

unfoldable cosine_test : ℤ → ℤ → Bool
cosine_test c t = nearest_test (pos 65536 *ℤ (c -ℤ pos 1)) (pos 65536 *ℤ (c +ℤ pos 1)) t

unfoldable slope_test : ℤ → ℤ → ℤ → Bool
slope_test c d t = nearest_test (pos 1048576 *ℤ (d -ℤ c -ℤ pos 2)) (pos 1048576 *ℤ (d -ℤ c +ℤ pos 2)) t

unfoldable hundredths_test : ℤ → ℤ → Bool
hundredths_test h t = lt_z ((pos 2 *ℤ t -ℤ pos 1) *ℤ pos 100) (pos 16384 *ℤ h) && lt_z (pos 16384 *ℤ h) ((pos 2 *ℤ t +ℤ pos 1) *ℤ pos 100)

hundredths : (h t : ℤ) → T (hundredths_test h t) → Hundredths h t
unfolding hundredths_test
hundredths h t p =
    let q = both (lt_z ((pos 2 *ℤ t -ℤ pos 1) *ℤ pos 100) (pos 16384 *ℤ h)) (lt_z (pos 16384 *ℤ h) ((pos 2 *ℤ t +ℤ pos 1) *ℤ pos 100)) p in
    record { low = lt_z_yes q.0; high = lt_z_yes q.1 }

unfoldable frequency_test : ℕ → ℤ → Bool
frequency_test i t =
    le_z (pos 110000000000 *ℤ t) (pos (8192 * i * 31415926535)) && lt_z (pos (8192 * i * 31415926536)) (pos 110000000000 *ℤ (t +ℤ pos 1))

frequency : (i : ℕ) (t : ℤ) → T (frequency_test i t) → Frequency i t
unfolding frequency_test
frequency i t p =
    let q = both (le_z (pos 110000000000 *ℤ t) (pos (8192 * i * 31415926535))) (lt_z (pos (8192 * i * 31415926536)) (pos 110000000000 *ℤ (t +ℤ pos 1))) p in
    record { low = le_z_yes q.0; high = lt_z_yes q.1 }

-- ---- the tests, computed

pow2_entry : (i : ℕ) → i < 32 → Power i (at pow2 i)
unfolding every power_test pow2
pow2_entry i h = power i (at pow2 i) (every_at 32 (λ k. power_test k (at pow2 k)) tt i h)

cosines_root : (i : ℕ) → 1 ≤ i → i < 64 → NearRoot (at cosines i)
unfolding every root_test cosines chebyshev u63
cosines_root zero l h = absurd (omega arith)
cosines_root (suc i) l h = near_root (at cosines (suc i)) (every_at 63 (λ k. root_test (at cosines (suc k))) tt i (omega arith))

cosines_fall : (i : ℕ) → i < 64 → (at cosines (i + 1) +ℤ pos 2) ≤ℤ at cosines i
unfolding every cosines
cosines_fall i h = le_z_yes (every_at 64 (λ k. le_z (at cosines (k + 1) +ℤ pos 2) (at cosines k)) tt i h)

cosine_entry : (i : ℕ) → 1 ≤ i → i < 64 → Cosine (at cosines i) (at lsp_cosine i)
unfolding every nearest_test cosine_test cosines lsp_cosine
cosine_entry zero l h = absurd (omega arith)
cosine_entry (suc i) l h = nearest _ _ _ (every_at 63 (λ k. cosine_test (at cosines (suc k)) (at lsp_cosine (suc k))) tt i (omega arith))

slope_entry : (i : ℕ) → i < 64 → Slope (at cosines i) (at cosines (i + 1)) (at lsp_cosine_slope i)
unfolding every nearest_test slope_test cosines lsp_cosine_slope
slope_entry i h = nearest _ _ _ (every_at 64 (λ k. slope_test (at cosines k) (at cosines (k + 1)) (at lsp_cosine_slope k)) tt i h)

coefficient_entry : (i : ℕ) → i < 4 → Hundredths (at coefficients i) (at gain_prediction_coefficients i)
unfolding every hundredths_test gain_prediction_coefficients
coefficient_entry i h = hundredths _ _ (every_at 4 (λ k. hundredths_test (at coefficients k) (at gain_prediction_coefficients k)) tt i h)

memory_entry : (i : ℕ) → i < 10 → Frequency (i + 1) (at lsp_quantizer_initial_memory i)
unfolding every frequency_test lsp_quantizer_initial_memory
memory_entry i h = frequency _ _ (every_at 10 (λ k. frequency_test (k + 1) (at lsp_quantizer_initial_memory k)) tt i h)

pub rules : Rules
unfolding pow2 cosines lsp_cosine lsp_cosine_slope gain_prediction_coefficients lsp_quantizer_initial_memory
rules = record {
  pow2_length = refl;
  pow2_entry = pow2_entry;
  pow2_last = refl;
  cosines_first = refl;
  cosines_last = refl;
  cosines_root = cosines_root;
  cosines_fall = cosines_fall;
  cosine_length = refl;
  cosine_first = refl;
  cosine_entry = cosine_entry;
  slope_length = refl;
  slope_entry = slope_entry;
  coefficient_length = refl;
  coefficient_entry = coefficient_entry;
  memory_length = refl;
  memory_entry = memory_entry;
}

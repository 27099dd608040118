-- The base-2 logarithm by the code's steps: of a positive value, its norm and the value shifted by it. Assumes nothing.
use Rattle.std.specs.Prelude.{ℕ, zero, suc, ◌+◌, ◌^◌, ◌≤◌, ◌<◌, ◌≡◌, refl, Bool, true, false, List, T, ℤ, pos, negsuc, ◌-ℤ◌}
use Rattle.std.proofs.Common.{sym, subst, arith, lt_of_lt_of_le, lit≤, ltb-true, SFits}
use Rattle.std.specs.Int.Signed.{mag, lt_z}
use Rattle.std.specs.Int.{w16}
use Rattle.laws.specs.Lists.{at, at_tab}
use Rattle.laws.specs.Range.{mag_sub}
use Rattle.block.specs.Block.{part}
use Rattle.tables.specs.Layout.{log2}
use Rattle.basic_op.specs.Ops.{l_shl, by_sign, norm_l}
use Rattle.basic_op.specs.Laws.{sat_id}
use Rattle.basic_op.specs.Norm.{norm_few, norm_low, norm_high}
use Rattle.basic_op.specs.Oper32b.{log_fraction, base2_log}

pub record Normalized (v : ℤ) : Type 0 where
  pub left : ℕ
  pub m : ℕ
  pub norm : norm_l v ≡ pos left
  pub few : left ≤ 30
  pub shifted : l_shl v (norm_l v) ≡ pos m
  pub low : 2 ^ 30 ≤ m
  pub high : m < 2 ^ 31
  pub log : (table : List ℤ) → base2_log v table ≡ record { integer = pos 30 -ℤ pos left; fraction = log_fraction m table }

positive : (n : ℕ) → suc n < 2 ^ 31 → Normalized (pos (suc n))
unfolding norm_l l_shl by_sign base2_log
positive n h =
    record {
      left = _;
      m = _;
      norm = refl;
      few = norm_few (suc n) (omega arith) h;
      shifted = sat_id 2147483647 (pos _) (omega (arith, norm_high (suc n) (omega arith) h));
      low = norm_low (suc n) (omega arith) h;
      high = norm_high (suc n) (omega arith) h;
      log = λ table. refl;
    }

pub normalized : (v : ℤ) → lt_z v (pos 1) ≡ false → mag v < 2 ^ 31 → Normalized v
normalized (pos zero) p h = let q : ◌≡◌ {A = Bool} true false = p in absurd (subst T q tt)
normalized (pos (suc n)) p h = positive n h
normalized (negsuc n) p h = let q : ◌≡◌ {A = Bool} true false = p in absurd (subst T q tt)

-- 0 and 0 of any other
pub log_none : (v : ℤ) (table : List ℤ) → lt_z v (pos 1) ≡ true → record { integer = pos 0; fraction = pos 0 } ≡ base2_log v table
unfolding base2_log
log_none (pos zero) table p = refl
log_none (pos (suc n)) table p = let q : suc n < 1 = ltb-true (suc n) 1 p in absurd (omega arith)
log_none (negsuc n) table p = refl

pub fits_less : (k : ℕ) → k ≤ 30 → SFits w16 (pos 30 -ℤ pos k)
fits_less k h = record { sfits = lt_of_lt_of_le (mag_sub (pos 30) (pos k) 31 31 (omega arith) (omega arith)) (lit≤ tt) }

-- entry k of the logarithm's table is word 1823 + k of the block
pub log2_word : (t : List ℤ) (k n : ℕ) → k < 33 → 1823 + k ≡ n → at t n ≡ at (log2 t) k
unfolding log2 part
log2_word t k n h e = rw (← e) (sym (at_tab (λ (j : ℕ). at t (1823 + j)) 33 k h))

-- A sample that is at no end of its range tells its excitation. Assumes nothing.
use Prim.Native.Nat.{ℕ, zero, suc, ◌+◌, ◌-◌, ◌*◌, ◌^◌, ◌≤◌, ◌<◌, min}
use Rattle.std.specs.Prelude.{◌≡◌, Bool, true, false, ◌||◌, List, ltb, ℤ, pos, negsuc, neg_ℤ, nat_abs, ◌+ℤ◌, ◌-ℤ◌, ◌*ℤ◌}
use Rattle.std.proofs.Math.Path.{refl, ap}
use Rattle.std.proofs.Common.{sym, subst, ◌∙◌, ⊎_elim, eq-or-lt_of_le, le_refl, arith, ltb-true, ltb-false, lt-ltb, le-ltb}
use Rattle.std.proofs.Math.IntN.{+ℤ_comm, +ℤ_invr, +ℤ_idl}
use Rattle.std.specs.Int.Signed.{mag, lt_z, shr_z}
use Rattle.laws.specs.Lists.{at}
use Rattle.laws.specs.Loops.{steps, nowhere_all}
use Rattle.laws.specs.Range.{abs_mul}
use Rattle.laws.specs.Sums.{without, sizes, abs_sub}
use Rattle.laws.specs.Ints.{neg_is, double_sub, add_swap, shr_add}
use Rattle.basic_op.specs.Ops.{sat, sat32, l_add, l_sub, l_mult, l_msu, l_shl, by_sign, extract_h, round}
use Rattle.basic_op.specs.Laws.{sat_id}
use Rattle.synth_filter.specs.Filter.{synth_sum, synth_sample}
use Rattle.synth_filter.specs.Fast.{term, whole_sum, size_sum, Past, Range}
use Rattle.synth_filter.specs.FastLaws.{term_fits, all_sizes, sample_whole}
use Rattle.synth.specs.FastLaws.{sat_pos, sat_neg}
use Rattle.inverse.specs.Inverse.{past_sum, Inside, inside}

record Less (f : ℕ → ℤ) (m w : ℕ) (z : ℤ) : Type 0 where
  left : ℕ
  is : z ≡ f left
  least : m ≤ left + w

less_pos : (m w : ℕ) (t : ℤ) → nat_abs t ≤ w → w ≤ m → Less pos m w (pos m -ℤ t)
less_pos m w (pos zero) h k = record { left = m + 0; is = refl; least = omega arith }
less_pos m w (pos (suc t)) h k = record { left = m - suc t; is = rw (le-ltb m (suc t) (omega arith)); least = omega arith }
less_pos m w (negsuc t) h k = record { left = m + suc t; is = refl; least = omega arith }

less_neg : (m w : ℕ) (t : ℤ) → nat_abs t ≤ w → w ≤ m → Less negsuc m w (negsuc m -ℤ t)
less_neg m w (pos zero) h k = record { left = suc m - 1; is = rw (lt-ltb 0 (suc m) (omega arith)); least = omega arith }
less_neg m w (pos (suc t)) h k = record { left = suc (m + t); is = refl; least = omega arith }
less_neg m w (negsuc t) h k = record { left = suc m - suc (suc t); is = rw (lt-ltb (suc t) (suc m) (omega arith)); least = omega arith }

data Course (s p : ℤ) (b w : ℕ) : Type 0 where
  exact : s ≡ pos 2 *ℤ p → Course s p b w
  high : (m : ℕ) → s ≡ pos m → m ≤ 2147483647 → 268435456 + 2 * b ≤ m + 2 * w → Course s p b w
  low : (m : ℕ) → s ≡ negsuc m → m ≤ 2147483647 → 268435456 + 2 * b ≤ m + 2 * w → Course s p b w

sizes_grow : (t : ℕ → ℤ) (n k : ℕ) → k ≤ n → sizes t k ≤ sizes t n
unfolding steps
sizes_grow t zero zero h = omega arith
sizes_grow t zero (suc k) h = absurd (omega arith)
sizes_grow t (suc n) k h = ⊎_elim (λ e. rw e (le_refl _)) (λ q. omega (arith, sizes_grow t n k (omega arith))) (eq-or-lt_of_le h)

sizes_above : (t : ℕ → ℤ) (l : ℤ) (k : ℕ) → nat_abs (without t k l) ≤ nat_abs l + sizes t k
unfolding steps
sizes_above t l zero = omega arith
sizes_above t l (suc k) = omega (arith, abs_sub (without t k l) (t k), sizes_above t l k)

size_double : (z : ℤ) → nat_abs (pos 2 *ℤ z) ≡ 2 * nat_abs z
size_double z = abs_mul (pos 2) z

-- a number as the clamp of twice p
saturated : (p z : ℤ) (b w : ℕ) → z ≡ pos 2 *ℤ p → nat_abs z ≤ 2 * w → b ≤ 2013233152 → Course (sat32 z) p b w
saturated p (pos m) b w e h k = go (ltb 2147483647 m) refl
  where
    go : (t : Bool) → ltb 2147483647 m ≡ t → Course (sat32 (pos m)) p b w
    go true q = let l = ltb-true 2147483647 m q in high (min m 2147483647) (sat_pos 2147483647 m) (omega arith) (omega arith)
    go false q = let l = ltb-false 2147483647 m q in exact (sat_id 2147483647 (pos m) l ∙ e)
saturated p (negsuc m) b w e h k = go (ltb 2147483647 m) refl
  where
    go : (t : Bool) → ltb 2147483647 m ≡ t → Course (sat32 (negsuc m)) p b w
    go true q = let l = ltb-true 2147483647 m q in low (min m 2147483647) (sat_neg 2147483647 m) (omega arith) (omega arith)
    go false q = let l = ltb-false 2147483647 m q in exact (sat_id 2147483647 (negsuc m) l ∙ e)

-- one term t more is taken off; v is what all terms so far weigh, with it
course_turn : (s p t : ℤ) (b w v : ℕ) → Course s p b w → v ≡ w + nat_abs t → nat_abs (p -ℤ t) ≤ v → v ≤ b → b ≤ 2013233152 → Course (sat32 (s -ℤ pos 2 *ℤ t)) (p -ℤ t) b v
course_turn s p t b w v (exact e) f h l k =
    rw e (saturated (p -ℤ t) (pos 2 *ℤ p -ℤ pos 2 *ℤ t) b v (sym (double_sub p t)) (rw (← double_sub p t, size_double) (omega arith)) k)
course_turn s p t b w v (high m e q g) f h l k =
    let x = less_pos m (nat_abs (pos 2 *ℤ t)) (pos 2 *ℤ t) (le_refl _) (omega (arith, size_double t)) in
    high (min x.left 2147483647) (rw (e, x.is) (sat_pos 2147483647 x.left)) (omega arith) (omega (arith, x.least, size_double t))
course_turn s p t b w v (low m e q g) f h l k =
    let x = less_neg m (nat_abs (pos 2 *ℤ t)) (pos 2 *ℤ t) (le_refl _) (omega (arith, size_double t)) in
    low (min x.left 2147483647) (rw (e, x.is) (sat_neg 2147483647 x.left)) (omega arith) (omega (arith, x.least, size_double t))

-- a sum of this size ends at an end
round_high : (m : ℕ) → 268435456 ≤ m → round (l_shl (pos m) (pos 3)) ≡ pos 32767
unfolding round extract_h l_add l_shl by_sign
round_high m h = rw (sat_pos, sat_pos) (ap pos (omega arith))

low_end : (k : ℕ) → k ≡ 2147483647 → shr_z (sat32 (negsuc k +ℤ pos 32768)) (2 ^ 16) ≡ negsuc 32767
unfolding sat
low_end k e = rw e refl

round_low : (m : ℕ) → 268435456 ≤ m → round (l_shl (negsuc m) (pos 3)) ≡ negsuc 32767
unfolding round extract_h l_add l_shl by_sign
round_low m h =
    rw (neg_is (suc m * 2 ^ 3) (8 * m + 7) (omega arith), sat_neg 2147483647 (8 * m + 7)) (low_end (min (8 * m + 7) 2147483647) (omega arith))

top_high : (m : ℕ) → 134215680 ≤ m → round (l_shl (pos 2 *ℤ pos m) (pos 3)) ≡ pos 32767
unfolding round extract_h l_add l_shl by_sign
top_high m h = rw (sat_pos, sat_pos) (ap pos (omega arith))

without_add : (t : ℕ → ℤ) (k : ℕ) (l u : ℤ) → without t k (l +ℤ u) ≡ without t k l +ℤ u
unfolding steps
without_add t zero l u = refl
without_add t (suc k) l u = rw (without_add t k l u) (add_swap (without t k l) u (neg_ℤ (t k)))

not_high : (z : ℤ) → z ≡ pos 32767 → Inside z → ⊥
not_high z e h = let q : 32767 < 32767 = subst (λ (x : ℤ). mag x < 32767) e h in omega arith

not_low : (z : ℤ) → z ≡ negsuc 32767 → Inside z → ⊥
not_low z e h = let q : 32767 < 32767 = subst (λ (x : ℤ). mag x < 32767) e h in omega arith

-- twice a whole sum l
inside_range : (l : ℤ) → Inside (round (l_shl (pos 2 *ℤ l) (pos 3))) → Range l
inside_range (pos m) h = go (ltb m 134215680) refl
  where
    go : (t : Bool) → ltb m 134215680 ≡ t → m < 134215680
    go true e = ltb-true m 134215680 e
    go false e = absurd (not_high _ (top_high m (ltb-false m 134215680 e)) h)
inside_range (negsuc m) h = go (ltb m 134217728) refl
  where
    go : (t : Bool) → ltb m 134217728 ≡ t → m < 134217728
    go true e = ltb-true m 134217728 e
    go false e =
        let k = ltb-false m 134217728 e in
        absurd (not_low (round (l_shl (pos 2 *ℤ negsuc m) (pos 3))) (rw (neg_is (2 * suc m) (2 * m + 1) (omega arith)) (round_low (2 * m + 1) (omega arith))) h)

module _ (a : List ℤ) (x : ℤ) (y : List ℤ) (n : ℕ) (bound : size_sum a 10 ≤ 61439) (fits : nat_abs x ≤ 32768) (past : Past y n 0) where
  -- what the excitation and the k newest past samples weigh together
  abbrev weight : ℕ → ℕ
  weight k = nat_abs (x *ℤ at a 0) + sizes (term a y n) k

  all_weight : weight 10 ≤ 2013233152
  all_weight = omega (arith, all_sizes a x y n bound fits past 10 (le_refl 10))

  course : (k : ℕ) → k ≤ 10 → Course (synth_sum a x y n k) (without (term a y n) k (x *ℤ at a 0)) (weight 10) (weight k)
  unfolding synth_sum steps l_mult l_msu l_sub
  course zero h = saturated (x *ℤ at a 0) (pos 2 *ℤ (x *ℤ at a 0)) (weight 10) (weight 0) refl (rw size_double (omega arith)) all_weight
  course (suc k) h =
      rw (sat_id 2147483647 (pos 2 *ℤ term a y n k) (term_fits a x y n bound fits past k h))
      (course_turn _ _ (term a y n k) (weight 10) (weight k) (weight (suc k)) (course k (omega arith)) (omega arith)
      (sizes_above (term a y n) (x *ℤ at a 0) (suc k)) (omega (arith, sizes_grow (term a y n) 10 (suc k) h)) all_weight)

  -- a sample inside its range: the whole sum is in the range that is rounded without saturation
  pub inside_whole : Inside (synth_sample a x y n) → Range (whole_sum a x y n)
  unfolding synth_sample whole_sum
  inside_whole h = go (course 10 (le_refl 10))
    where
      go : Course (synth_sum a x y n 10) (without (term a y n) 10 (x *ℤ at a 0)) (weight 10) (weight 10) → Range (without (term a y n) 10 (x *ℤ at a 0))
      go (exact e) = inside_range (without (term a y n) 10 (x *ℤ at a 0)) (rw e at h)
      go (high m e q g) = absurd (not_high (round (l_shl (synth_sum a x y n 10) (pos 3))) (rw e (round_high m (omega arith))) h)
      go (low m e q g) = absurd (not_low (round (l_shl (synth_sum a x y n 10) (pos 3))) (rw e (round_low m (omega arith))) h)

  pub inside_sample : Inside (synth_sample a x y n) → synth_sample a x y n ≡ shr_z (whole_sum a x y n +ℤ pos 2048) (2 ^ 12)
  inside_sample h = sample_whole a x y n bound fits past (inside_whole h)

  module _ (first : at a 0 ≡ pos 4096) where
    -- the sample is what the past gives, and the excitation
    pub split_sample : Inside (synth_sample a x y n) → synth_sample a x y n ≡ shr_z (past_sum a y n) (2 ^ 12) +ℤ x
    unfolding whole_sum past_sum
    split_sample h =
        inside_sample h
        ∙ ap (λ (z : ℤ). shr_z z 4096) (sym (without_add (term a y n) 10 (x *ℤ at a 0) (pos 2048)) ∙ ap (without (term a y n) 10) (+ℤ_comm (x *ℤ at a 0) (pos 2048)) ∙ without_add (term a y n) 10 (pos 2048) (x *ℤ at a 0) ∙ ap (λ (c : ℤ). without (term a y n) 10 (pos 2048) +ℤ x *ℤ c) first)
        ∙ shr_add (without (term a y n) 10 (pos 2048)) x 4096 (omega arith)

    -- and so the excitation is the sample without what the past gives
    pub recovered : Inside (synth_sample a x y n) → synth_sample a x y n -ℤ shr_z (past_sum a y n) (2 ^ 12) ≡ x
    recovered h =
        let p = shr_z (past_sum a y n) (2 ^ 12) in
        ap (λ (z : ℤ). z -ℤ p) (split_sample h) ∙ add_swap p x (neg_ℤ p) ∙ ap (λ (z : ℤ). z +ℤ x) (+ℤ_invr p) ∙ +ℤ_idl x

free_end : (z : ℤ) → Inside z → lt_z z (negsuc 32766) || lt_z (pos 32766) z ≡ false
free_end (pos m) h = le-ltb 32766 m (omega arith)
free_end (negsuc m) h = rw (le-ltb 32766 m (omega arith))

pub each_inside : (y : List ℤ) (n : ℕ) → ((k : ℕ) → k < n → Inside (at y k)) → inside y n ≡ true
unfolding inside
each_inside y n h = nowhere_all _ n (λ k l. free_end (at y k) (h k l))

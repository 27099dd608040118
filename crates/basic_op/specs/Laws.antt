-- Laws of `sat`, `by_sign` and `rounded`, by the tests that the code makes. Assumes nothing.
use Rattle.std.specs.Prelude.{ℕ, zero, suc, ◌+◌, ◌-◌, ◌*◌, ◌^◌, ◌≤◌, ◌<◌, min, Bool, cond, leb, ltb, ℤ, pos, negsuc, neg_ℤ, nat_abs, ◌+ℤ◌, ◌*ℤ◌}
use Rattle.std.proofs.Common.{zero-le, sym, ap, ◌∙◌, subst, arith, suc-mul, zero-mul, pow-suc, le_refl, lt_of_lt_of_le, lt_of_le_of_lt, pow_pos, pow_mono, leb-true, leb-false, ltb→lt}
use Rattle.std.proofs.Math.Path.{◌≡◌, refl}
use Rattle.std.proofs.Math.Bool.{true, false}
use Rattle.std.proofs.Math.Dec.{T}
use Rattle.std.proofs.Math.IntN.{+ℤ_assoc, +ℤ_comm}
use Rattle.std.specs.Int.Signed.{mag, lt_z, shr_z}
use borrow.Author.Tests.{lt-ltb, le-ltb, ltb-true, ltb-false, ne_eqb}
use Rattle.std.specs.Int.{Width, int_min, int_max}
use mir.Val.{SFits, hbits}
use Rattle.basic_op.specs.Ops.{sat, sat32, l_mult, l_add, l_mac, extract_h, round, by_sign, rounded, lesser, greater}
use Rattle.laws.specs.Ints.{shr_half}
use Rattle.laws.specs.Sums.{abs_add}
use Rattle.laws.specs.Range.{mag_abs, within, shr_far}

-- ---- `sat`, by the code's tests on y, which is z read back from its bits

module _ (n : ℕ) {y z : ℤ} (e : y ≡ z) where
  pub sat_above : lt_z (pos n) y ≡ true → pos n ≡ sat n z
  unfolding sat
  sat_above p = rw (← e, p)

  pub sat_below : lt_z (pos n) y ≡ false → lt_z y (negsuc n) ≡ true → negsuc n ≡ sat n z
  unfolding sat
  sat_below p q = rw (← e, p, q)

  pub sat_same : lt_z (pos n) y ≡ false → lt_z y (negsuc n) ≡ false → z ≡ sat n z
  unfolding sat
  sat_same p q = rw (← e, p, q)

-- the same as the library's `clamp` says it
pub clamp_is : (n : ℕ) (z : ℤ) → int_max (negsuc n) (int_min z (pos n)) ≡ sat n z
unfolding sat
clamp_is n z = go (lt_z (pos n) z)
  where
    go : (t : Bool) → int_max (negsuc n) (cond t (pos n) z) ≡ cond t (pos n) (cond (lt_z z (negsuc n)) (negsuc n) z)
    go true = refl
    go false = refl

pub fits_within : {w : Width} (n : ℕ) {y : ℤ} → T (ltb n (2 ^ hbits w)) → lt_z (pos n) y ≡ false → lt_z y (negsuc n) ≡ false → SFits w y
fits_within n {y} t p q = record { sfits = lt_of_le_of_lt (within n y p q) (ltb→lt _ _ t) }

sat_by : (n : ℕ) (z : ℤ) (s t : Bool) → lt_z (pos n) z ≡ s → lt_z z (negsuc n) ≡ t → mag (cond s (pos n) (cond t (negsuc n) z)) ≤ n
sat_by n z true t p q = le_refl n
sat_by n z false true p q = le_refl n
sat_by n z false false p q = within n z p q

pub sat_mag : (n : ℕ) (z : ℤ) → mag (sat n z) ≤ n
unfolding sat
sat_mag n z = sat_by n z (lt_z (pos n) z) (lt_z z (negsuc n)) refl refl

pub fits_sat : (w : Width) (n : ℕ) (z : ℤ) → T (ltb n (2 ^ hbits w)) → SFits w (sat n z)
fits_sat w n z t = record { sfits = lt_of_le_of_lt (sat_mag n z) (ltb→lt _ _ t) }

-- a number within the range is itself, and one beyond it is the end
pub sat_id : (n : ℕ) (z : ℤ) → mag z ≤ n → sat n z ≡ z
unfolding sat
sat_id n (pos a) h = rw (le-ltb n a h)
sat_id n (negsuc a) h = rw (le-ltb n a h)

sat_top : (n a : ℕ) → n < a → sat n (pos a) ≡ pos n
unfolding sat
sat_top n a h = rw (lt-ltb n a h)

sat_bottom : (n a : ℕ) → n < a → sat n (negsuc a) ≡ negsuc n
unfolding sat
sat_bottom n a h = rw (lt-ltb n a h)

sat_full : (n a : ℕ) → n ≤ a → sat n (pos a) ≡ pos n
sat_full n a h = go (ltb n a) refl
  where
    go : (t : Bool) → ltb n a ≡ t → sat n (pos a) ≡ pos n
    go true p = sat_top n a (ltb-true n a p)
    go false p = let l : a ≤ n = ltb-false n a p in sat_id n (pos a) l ∙ ap pos (omega arith)

-- a saturating sum of numbers that are not negative is the lesser of their plain sum and the end
pub sat_sum : (n a b : ℕ) → sat n (sat n (pos a) +ℤ sat n (pos b)) ≡ sat n (pos (a + b))
sat_sum n a b = go (ltb n a) (ltb n b) refl refl
  where
    go : (s t : Bool) → ltb n a ≡ s → ltb n b ≡ t → sat n (sat n (pos a) +ℤ sat n (pos b)) ≡ sat n (pos (a + b))
    go false false p q = rw (sat_id n (pos a) (ltb-false n a p), sat_id n (pos b) (ltb-false n b q))
    go false true p q =
        let k : n < b = ltb-true n b q in
        rw (sat_id n (pos a) (ltb-false n a p), sat_top n b k) (sat_full n (a + n) (omega arith) ∙ sym (sat_full n (a + b) (omega arith)))
    go true false p q =
        let l : n < a = ltb-true n a p in
        rw (sat_top n a l, sat_id n (pos b) (ltb-false n b q)) (sat_full n (n + b) (omega arith) ∙ sym (sat_full n (a + b) (omega arith)))
    go true true p q =
        let l : n < a = ltb-true n a p in
        rw (sat_top n a l, sat_top n b (ltb-true n b q)) (sat_full n (n + n) (omega arith) ∙ sym (sat_full n (a + b) (omega arith)))

-- scaled beyond the range: 0 stays, and all else is the end of its sign
far : ℕ → ℤ → ℤ
far n (pos zero) = pos 0
far n (pos (suc a)) = pos n
far n (negsuc a) = negsuc n

neg_bottom : (n j : ℕ) → suc n < j → sat n (neg_ℤ (pos j)) ≡ negsuc n
neg_bottom n zero h = absurd (omega arith)
neg_bottom n (suc j) h = sat_bottom n j (omega arith)

more : (a x : ℕ) → x ≤ suc a * x
more a x = rw suc-mul (omega arith)

far_is : (n : ℕ) (z : ℤ) (x : ℕ) → suc n < x → sat n (z *ℤ pos x) ≡ far n z
unfolding far
far_is n (pos zero) x h = rw zero-mul (sat_id n (pos 0) zero-le)
far_is n (pos (suc a)) x h = sat_top n (suc a * x) (omega (arith, more a x))
far_is n (negsuc a) x h = neg_bottom n (suc a * x) (omega (arith, more a x))

pub sat_far : (n : ℕ) (z : ℤ) (x y : ℕ) → suc n < x → x ≤ y → sat n (z *ℤ pos x) ≡ sat n (z *ℤ pos y)
sat_far n z x y h l = far_is n z x h ∙ sym (far_is n z y (lt_of_lt_of_le h l))

-- ---- shifts by the count or the width, the lesser

pub sat_min : (b : ℕ) (z : ℤ) (n m : ℕ) → suc b < 2 ^ m → sat b (z *ℤ pos (2 ^ min n m)) ≡ sat b (z *ℤ pos (2 ^ n))
sat_min b z n m h = go (leb m n) refl
  where
    go : (t : Bool) → leb m n ≡ t → sat b (z *ℤ pos (2 ^ min n m)) ≡ sat b (z *ℤ pos (2 ^ n))
    go true e =
        let l : m ≤ n = leb-true m n e in
        let k : min n m ≡ m = omega arith in
        rw k (sat_far b z (2 ^ m) (2 ^ n) h (pow_mono {i = m} {j = n} l))
    go false e =
        let l : n < m = leb-false m n e in
        let k : min n m ≡ n = omega arith in
        rw k

pub shr_min : (z : ℤ) (n m : ℕ) → mag z < 2 ^ m → shr_z z (2 ^ min n m) ≡ shr_z z (2 ^ n)
shr_min z n m h = go (leb m n) refl
  where
    go : (t : Bool) → leb m n ≡ t → shr_z z (2 ^ min n m) ≡ shr_z z (2 ^ n)
    go true e =
        let l : m ≤ n = leb-true m n e in
        let k : min n m ≡ m = omega arith in
        rw k (shr_far z m n h l)
    go false e =
        let l : n < m = leb-false m n e in
        let k : min n m ≡ n = omega arith in
        rw k

-- ---- the library's `min` and `max`

pub lesser_is : (a b : ℤ) → int_min a b ≡ lesser a b
unfolding lesser
lesser_is a b = refl

pub greater_is : (a b : ℤ) → int_max a b ≡ greater a b
unfolding greater
greater_is a b = refl

-- ---- a count's sign, by the code's test on m, which is n read back

module _ {m n : ℤ} (e : m ≡ n) (f g : ℕ → ℤ) where
  pub by_pos : lt_z m (pos 0) ≡ false → f (nat_abs n) ≡ by_sign n f g
  unfolding by_sign
  by_pos p = go n (rw e at p)
    where
      go : (n : ℤ) → lt_z n (pos 0) ≡ false → f (nat_abs n) ≡ by_sign n f g
      go (pos k) q = refl
      go (negsuc k) q = let h : ◌≡◌ {A = Bool} true false = q in absurd (subst T h tt)

  pub by_neg : lt_z m (pos 0) ≡ true → g (nat_abs n) ≡ by_sign n f g
  unfolding by_sign
  by_neg p = go n (rw e at p)
    where
      go : (n : ℤ) → lt_z n (pos 0) ≡ true → g (nat_abs n) ≡ by_sign n f g
      go (pos k) q = let h : k < 0 = ltb-true k 0 q in absurd (omega arith)
      go (negsuc k) q = refl

-- ---- `rounded`, by the code's tests

pub rounded_zero : (x : ℤ) (k : ℕ) → k ≡ 0 → x ≡ rounded x k
unfolding rounded
rounded_zero x k e = rw e

pub rounded_far : (x : ℤ) (k : ℕ) → 31 < k → pos 0 ≡ rounded x k
unfolding rounded
rounded_far x k h = rw (ne_eqb k 0 (λ e. omega arith), lt-ltb 31 k h)

-- as the code computes it: a shift by k - 1, one more, and a shift by 1
pub rounded_in : (x : ℤ) (k : ℕ) → (k ≡ 0 → ⊥) → k ≤ 31 → shr_z (shr_z x (2 ^ (k - 1)) +ℤ pos 1) 2 ≡ rounded x k
unfolding rounded
rounded_in x k n h =
    let e : suc (k - 1) ≡ k = omega arith in
    rw (ne_eqb k 0 n, le-ltb 31 k h)
    (shr_half x (2 ^ (k - 1)) (pow_pos (k - 1)) ∙ ap (shr_z (x +ℤ pos (2 ^ (k - 1)))) (sym (pow-suc 2 (k - 1)) ∙ ap (λ (j : ℕ). 2 ^ j) e))

-- ---- doubles that stay below 2 ^ 31: no step of `l_mac` or `round` saturates

twice : (z : ℤ) → pos 2 *ℤ z ≡ z +ℤ z
twice (pos a) = ap pos (omega arith)
twice (negsuc a) = ap (λ (n : ℕ). neg_ℤ (pos n)) two
  where
    two : 2 * suc a ≡ suc (suc (a + a))
    two = omega arith

both : (a b : ℤ) → a +ℤ a +ℤ (b +ℤ b) ≡ a +ℤ b +ℤ (a +ℤ b)
both a b = +ℤ_assoc a a (b +ℤ b) ∙ ap (λ (z : ℤ). a +ℤ z) (sym (+ℤ_assoc a b b) ∙ +ℤ_comm (a +ℤ b) b) ∙ sym (+ℤ_assoc a b (a +ℤ b))

sat_twice : (z : ℤ) → nat_abs z ≤ 1073741823 → sat32 (z +ℤ z) ≡ z +ℤ z
sat_twice z h = sat_id 2147483647 (z +ℤ z) (omega (arith, mag_abs (z +ℤ z), abs_add z z))

-- l-mac on the double of p gives the double of p + x y
pub mac_twice : (p x y : ℤ) (a b : ℕ) → nat_abs p ≤ a → nat_abs (x *ℤ y) ≤ b → a + b ≤ 1073741823 → l_mac (p +ℤ p) x y ≡ p +ℤ x *ℤ y +ℤ (p +ℤ x *ℤ y)
unfolding l_mac l_add l_mult
mac_twice p x y a b h k l =
    rw (twice (x *ℤ y), sat_twice (x *ℤ y) (omega arith), both p (x *ℤ y)) (sat_twice (p +ℤ x *ℤ y) (omega (arith, abs_add p (x *ℤ y))))

shr_twice : (z : ℤ) → shr_z (z +ℤ z) 65536 ≡ shr_z z 32768
shr_twice (pos a) = ap pos (omega arith)
shr_twice (negsuc a) = ap negsuc (omega arith)

-- a double rounded is a shift of the single
pub round_twice : (z : ℤ) → nat_abs z ≤ 1073725439 → round (z +ℤ z) ≡ shr_z (z +ℤ pos 16384) (2 ^ 15)
unfolding round l_add extract_h
round_twice z h =
    rw (both z (pos 16384), sat_twice (z +ℤ pos 16384) (omega (arith, abs_add z (pos 16384)))) (shr_twice (z +ℤ pos 16384))

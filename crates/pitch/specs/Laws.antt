-- Laws of the delays: a third without a division, fractions as remainders, and ranges. Assumes nothing.
use Rattle.std.specs.Prelude.{ℕ, zero, suc, ◌+◌, ◌-◌, ◌*◌, ◌/◌, ◌%◌, ◌^◌, ◌≤◌, ◌<◌, Bool, cond, not, ◌&&◌, eqb, leb, ltb, ℤ, pos, negsuc, ◌+ℤ◌, ◌-ℤ◌, ◌*ℤ◌}
use Rattle.std.proofs.Math.Path.{◌≡◌, refl}
use Rattle.std.proofs.Common.{ap, subst, arith, mod-lt, lit<, SFits, of_z}
use Rattle.std.proofs.Math.Bool.{true, false}
use Rattle.std.proofs.Math.Nat.{mod-mod}
use Rattle.std.proofs.Math.Dec.{T}
use Rattle.std.proofs.Math.IntN.{nat_abs}
use Rattle.std.specs.Int.Signed.{lt_z, le_z}
use borrow.Author.Tests.{lt-ltb, le-ltb, ltb-true, ltb-false}
use Rattle.std.specs.Int.{w16, int_min, int_max}
use Rattle.std.proofs.Math.Facts.{and_yes, yes_and, leb_yes, yes_leb, eqb_yes, sfits_lit}
use Rattle.laws.specs.Ints.{sameZ, sameZ_yes}
use Rattle.laws.specs.Loops.{steps, every, every_at}
use Rattle.basic_op.specs.Ops.{lesser}
use Rattle.pitch.specs.declared.Delay.{Delay}
use Rattle.pitch.specs.Pitch.{parity_ok, decode_t1, decode_t2, t_min, nat, increased, first, second, erased}

-- ---- a third by a multiplication and a shift

-- the quotient by three, rounded down, for every number from 0 to 198: P1 below 197 asks for a third of 198 at most, P2 for one of 33
pub third_by_shift : (n : ℕ) → n ≤ 198 → n * 171 / 2 ^ 9 ≡ n / 3
third_by_shift n h = omega arith

-- ---- the fraction is a remainder less 1

-- the delay n + (rest - 1) / 3
abbrev pub in_thirds : ℕ → ℕ → Delay
in_thirds n rest = record { integer = pos n; fraction = pos rest -ℤ pos 1 }

pub t1_fraction : (p : ℕ) → p < 197 → pos p -ℤ pos (3 * ((p + 2) / 3 + 19)) +ℤ pos 58 ≡ pos (p + 2 - 3 * ((p + 2) / 3)) -ℤ pos 1
unfolding every sameZ
t1_fraction p h =
    sameZ_yes _ _ (every_at 197 (λ n. sameZ (pos n -ℤ pos (3 * ((n + 2) / 3 + 19)) +ℤ pos 58) (pos (n + 2 - 3 * ((n + 2) / 3)) -ℤ pos 1)) tt p h)

pub t2_fraction : (p : ℕ) → p < 32 → pos p -ℤ pos 2 -ℤ (pos ((p + 2) / 3) -ℤ pos 1) *ℤ pos 3 ≡ pos (p + 2 - 3 * ((p + 2) / 3)) -ℤ pos 1
unfolding every sameZ
t2_fraction p h =
    sameZ_yes _ _ (every_at 32 (λ n. sameZ (pos n -ℤ pos 2 -ℤ (pos ((n + 2) / 3) -ℤ pos 1) *ℤ pos 3) (pos (n + 2 - 3 * ((n + 2) / 3)) -ℤ pos 1)) tt p h)

-- the two forms of T1, and T2, by the code's p, which are the low bits, and its quotient q
pub t1_thirds : (p1 p q : ℕ) → p ≡ p1 % 256 → p < 197 → q ≡ (p + 2) / 3 → in_thirds (q + 19) (p + 2 - 3 * q) ≡ decode_t1 p1
unfolding decode_t1
t1_thirds p1 p q l h e = rw (e, ← l, lt-ltb p 197 h, t1_fraction p h)

pub t1_whole : (p1 p : ℕ) → p ≡ p1 % 256 → 197 ≤ p → in_thirds (p - 112) 1 ≡ decode_t1 p1
unfolding decode_t1
t1_whole p1 p l h = rw (← l, le-ltb p 197 h)

pub t2_thirds : (p2 p q t : ℕ) (t1 : ℤ) → p ≡ p2 % 32 → q ≡ (p + 2) / 3 → t ≡ t_min t1 → in_thirds (q + t - 1) (p + 2 - 3 * q) ≡ decode_t2 p2 t1
unfolding decode_t2
t2_thirds p2 p q t t1 l e g = rw (e, g, l, t2_fraction (p2 % 32) (mod-lt p2 (lit< tt)))

-- ---- by the code's tests on y, which is z read back from its bits

module _ {y z : ℤ} (e : y ≡ z) where
  pub nat_neg : lt_z y (pos 0) ≡ true → 0 ≡ nat z
  unfolding nat
  nat_neg p = go z (rw e at p)
    where
      go : (z : ℤ) → lt_z z (pos 0) ≡ true → 0 ≡ nat z
      go (pos n) q = let h : n < 0 = ltb-true n 0 q in absurd (omega arith)
      go (negsuc n) q = refl

  pub nat_of_abs : lt_z y (pos 0) ≡ false → nat_abs y ≡ nat z
  unfolding nat
  nat_of_abs p = rw e (go z (rw e at p))
    where
      go : (z : ℤ) → lt_z z (pos 0) ≡ false → nat_abs z ≡ nat z
      go (pos n) q = refl
      go (negsuc n) q = let h : ◌≡◌ {A = Bool} true false = q in absurd (subst T h tt)

-- by the library's `max`
pub nat_max : (z : ℤ) → of_z w16 (int_max z (pos 0)) ≡ nat z
unfolding nat
nat_max (pos zero) = refl
nat_max (pos (suc n)) = rw (lt-ltb 0 (suc n) (omega arith))
nat_max (negsuc n) = refl

-- ---- one more, at most 143

pub fits_more : (z : ℤ) → lt_z z (pos 143) ≡ true → SFits w16 z → SFits w16 (z +ℤ pos 1)
fits_more (pos n) p f = let h : n < 143 = ltb-true n 143 p in record { sfits = omega arith }
fits_more (negsuc zero) p f = sfits_lit tt
fits_more (negsuc (suc n)) p f = rw (lt-ltb 1 (suc (suc n)) (omega arith)) (record { sfits = omega (arith, f.sfits) })

pub increased_more : (z : ℤ) → lt_z z (pos 143) ≡ true → z +ℤ pos 1 ≡ lesser (z +ℤ pos 1) (pos 143)
unfolding lesser
increased_more (pos n) p = let h : n < 143 = ltb-true n 143 p in rw (le-ltb 143 (n + 1) (omega arith))
increased_more (negsuc zero) p = refl
increased_more (negsuc (suc n)) p = rw (lt-ltb 1 (suc (suc n)) (omega arith))

pub increased_most : (z : ℤ) → lt_z z (pos 143) ≡ false → pos 143 ≡ lesser (z +ℤ pos 1) (pos 143)
unfolding lesser
increased_most (pos n) p = let h : 143 ≤ n = ltb-false n 143 p in rw (lt-ltb 143 (n + 1) (omega arith))
increased_most (negsuc n) p = let h : ◌≡◌ {A = Bool} true false = p in absurd (subst T h tt)

-- the same by the library's `min`, before the one is added
pub increased_is : (z : ℤ) → int_min z (pos 142) +ℤ pos 1 ≡ lesser (z +ℤ pos 1) (pos 143)
increased_is (pos n) = go (ltb 142 n) refl
  where
    go : (t : Bool) → ltb 142 n ≡ t → cond t (pos 142) (pos n) +ℤ pos 1 ≡ lesser (pos n +ℤ pos 1) (pos 143)
    go true e = let h : 142 < n = ltb-true 142 n e in increased_most (pos n) (le-ltb n 143 (omega arith))
    go false e = let h : n ≤ 142 = ltb-false 142 n e in increased_more (pos n) (lt-ltb n 143 (omega arith))
increased_is (negsuc n) = increased_more (negsuc n) refl

-- ---- a remainder less 1

pub fits_less : (n : ℕ) → n < 32768 → SFits w16 (pos n -ℤ pos 1)
fits_less zero h = sfits_lit tt
fits_less (suc n) h = rw (le-ltb (suc n) 1 (omega arith)) (record { sfits = omega arith })

-- ---- parity

pub odd_sum : (a b x : ℕ) → a % 2 ≡ b % 2 → (a + x) % 2 ≡ (b + x % 2) % 2
odd_sum a b x e = omega arith

-- one value of P0 passes, the other fails
pub one_passes : (p1 : ℕ) → parity_ok p1 1 ≡ not (parity_ok p1 0)
unfolding parity_ok
one_passes p1 = one (steps (λ k ones. ones + p1 / 2 ^ (k + 2) % 2) 6 1)
  where
    by : (r : ℕ) → r < 2 → eqb r 1 ≡ not (eqb r 0)
    by zero h = refl
    by (suc zero) h = refl
    by (suc (suc r)) h = absurd (omega arith)

    one : (n : ℕ) → eqb (n % 2) 1 ≡ not (eqb (n % 2) 0)
    one n = by (n % 2) (mod-lt n (lit< tt))

-- ---- ranges

-- lo ≤ z ≤ hi
abbrev pub between : ℤ → ℤ → ℤ → Bool
between lo hi z = le_z lo z && le_z z hi

pub between_pos : (lo hi n : ℕ) → lo ≤ n → n ≤ hi → T (between (pos lo) (pos hi) (pos n))
between_pos lo hi n l h = yes_and (leb lo n) (leb n hi) (yes_leb l) (yes_leb h)

-- only the low eight bits of P1 count
pub low8 : (p1 : ℕ) → decode_t1 (p1 % 256) ≡ decode_t1 p1
unfolding decode_t1
low8 p1 = rw mod-mod

pub t1_integer_range : (p1 : ℕ) → T (between (pos 19) (pos 143) (decode_t1 p1).integer)
unfolding every decode_t1
t1_integer_range p1 = rw low8 at (every_at 256 (λ p. between (pos 19) (pos 143) (decode_t1 p).integer) tt (p1 % 256) (mod-lt p1 (lit< tt)))

pub t1_fraction_range : (p1 : ℕ) → T (between (negsuc 0) (pos 1) (decode_t1 p1).fraction)
unfolding every decode_t1
t1_fraction_range p1 = rw low8 at (every_at 256 (λ p. between (negsuc 0) (pos 1) (decode_t1 p).fraction) tt (p1 % 256) (mod-lt p1 (lit< tt)))

pub t2_integer_range : (p2 : ℕ) (t1 : ℤ) → T (between (pos 19) (pos 144) (decode_t2 p2 t1).integer)
unfolding decode_t2
t2_integer_range p2 t1 = between_pos 19 144 ((p2 % 32 + 2) / 3 + t_min t1 - 1) (omega arith) (omega arith)

pub t2_fraction_range : (p2 : ℕ) (t1 : ℤ) → T (between (negsuc 0) (pos 1) (decode_t2 p2 t1).fraction)
unfolding every decode_t2
t2_fraction_range p2 t1 =
    every_at 32 (λ p. between (negsuc 0) (pos 1) (pos p -ℤ pos 2 -ℤ (pos ((p + 2) / 3) -ℤ pos 1) *ℤ pos 3)) tt (p2 % 32) (mod-lt p2 (lit< tt))

-- the carried delay stays in its range

increased_by : (n : ℕ) (t : Bool) → ltb 143 (n + 1) ≡ t → 19 ≤ n → T (between (pos 19) (pos 143) (cond t (pos 143) (pos (n + 1))))
increased_by n true e h = tt
increased_by n false e h = between_pos 19 143 (n + 1) (omega arith) (omega (arith, ltb-false 143 (n + 1) e))

pub erased_range : (old : ℤ) → T (le_z (pos 19) old) → T (between (pos 19) (pos 143) (erased old).state.old)
unfolding erased increased lesser
erased_range (pos n) h = increased_by n (ltb 143 (n + 1)) refl (leb_yes h)
erased_range (negsuc n) h = absurd h

wider : (z : ℤ) → T (between (pos 19) (pos 143) z) → T (between (pos 19) (pos 144) z)
wider (pos n) h =
    let p = and_yes (leb 19 n) (leb n 143) h in
    between_pos 19 144 n (leb_yes p.0) (omega (arith, leb_yes {a = n} {b = 143} p.1))
wider (negsuc n) h = absurd h

pub first_range : (old : ℤ) (p1 : ℕ) (ok : Bool) → T (between (pos 19) (pos 144) old) → T (between (pos 19) (pos 144) (first old p1 ok).state.old)
unfolding first
first_range old p1 true h = wider (decode_t1 p1).integer (t1_integer_range p1)
first_range old p1 false h = h

pub second_range : (p2 : ℕ) (t1 : ℤ) → T (between (pos 19) (pos 144) (second p2 t1).state.old)
unfolding second
second_range p2 t1 = t2_integer_range p2 t1

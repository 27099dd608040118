-- What the proofs of `gain` use of its definitions. Assumes nothing.
use Rattle.std.specs.Prelude.{ℕ, ◌+◌, ◌*◌, ◌^◌, ◌≤◌, ◌<◌, ◌≡◌, refl, List, ℤ, pos, negsuc, nat_abs, ◌+ℤ◌, ◌*ℤ◌}
use Rattle.std.proofs.Common.{sym, ap, ◌∙◌, arith, mul-le-mul}
use Rattle.std.specs.Int.Signed.{mag, nat_abs-le}
use Rattle.std.specs.Int.{w16, w32, w64}
use mir.Val.{SFits, to_z, of_z, hbits}
use Rattle.std.proofs.Math.Facts.{sfits_widen}
use Rattle.laws.specs.Back.{keep}
use Rattle.laws.specs.Lists.{at}
use Rattle.laws.specs.Loops.{steps, steps_none, steps_turn}
use Rattle.basic_op.specs.Ops.{sat32, l_mac, l_mult, l_add}
use Rattle.basic_op.specs.Laws.{sat_id, sat_sum}
use Rattle.gain.specs.Gain.{energy}

-- a word of an array, read back, as a number of 32 bits
pub fits_word : (z : ℤ) → mag z < 2 ^ hbits w16 → SFits w32 (to_z w16 (of_z w16 z))
fits_word z h = sfits_widen tt (keep w16 {w = w16} {z = z} tt (record { sfits = h }))

-- ---- the energy: s is the plain sum of the first k squares, and twice it, saturated, the saturating sum

pub record Squares (code : List ℤ) (k : ℕ) (s : ℤ) : Type 0 where
  pub sum : ℕ
  pub is : s ≡ pos sum
  pub few : sum ≤ k * 1073741824
  pub twice : sat32 (pos (2 * sum)) ≡ steps (λ i e. l_mac e (at code i) (at code i)) k (pos 0)

pub squares_none : (code : List ℤ) → Squares code 0 (pos 0)
squares_none code = record { sum = 0; is = refl; few = omega arith; twice = sat_id 2147483647 (pos 0) (omega arith) ∙ steps_none _ _ }

square_is : (x : ℤ) → x *ℤ x ≡ pos (nat_abs x * nat_abs x)
square_is (pos n) = refl
square_is (negsuc n) = refl

square_few : (x : ℤ) → mag x < 32768 → nat_abs x * nat_abs x ≤ 1073741824
square_few x h = mul-le-mul (nat_abs-le x h) (nat_abs-le x h)

one_more : (x : ℤ) (n : ℕ) → sat32 (pos (2 * (n + nat_abs x * nat_abs x))) ≡ l_mac (sat32 (pos (2 * n))) x x
unfolding l_mac l_add l_mult
one_more x n =
    rw (square_is x)
    (ap (λ (m : ℕ). sat32 (pos m)) (omega arith) ∙ sym (sat_sum 2147483647 (2 * n) (2 * (nat_abs x * nat_abs x))))

-- one turn, with y the square of word k
module _ (code : List ℤ) (k : ℕ) {s y : ℤ} (e : Squares code k s) (h : mag (at code k) < 32768) (q : y ≡ at code k *ℤ at code k) where
  sum_is : s +ℤ y ≡ pos (e.sum + nat_abs (at code k) * nat_abs (at code k))
  sum_is = rw (e.is, q, square_is (at code k))

  pub squares_turn : Squares code (k + 1) (s +ℤ y)
  squares_turn =
      record {
        sum = e.sum + nat_abs (at code k) * nat_abs (at code k);
        is = sum_is;
        few = omega (arith, square_few (at code k) h, e.few);
        twice = steps_turn _ k (pos 0) (sat32 (pos (2 * e.sum))) _ e.twice (one_more (at code k) e.sum);
      }

  pub squares_fit : k ≤ 40 → SFits w64 (s +ℤ y)
  squares_fit l = rw sum_is (record { sfits = omega (arith, square_few (at code k) h, e.few) })

-- after the last turn
pub squares_end : (code : List ℤ) (k : ℕ) {s : ℤ} → Squares code k s → k ≡ 40 → Squares code 40 s
squares_end code k e h = rw h at e

module _ (code : List ℤ) {s : ℤ} (e : Squares code 40 s) where
  twice_is : s *ℤ pos 2 ≡ pos (2 * e.sum)
  twice_is = rw e.is (ap pos (omega arith))

  pub twice_fits : SFits w64 (s *ℤ pos 2)
  twice_fits = rw twice_is (record { sfits = omega (arith, e.few) })

  pub energy_is : sat32 (s *ℤ pos 2) ≡ energy code
  unfolding energy
  energy_is = rw twice_is e.twice

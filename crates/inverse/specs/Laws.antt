-- The two tests of specs/Inverse.antt by what they say, and the end of its loop. Assumes nothing.
use Prim.Native.Nat.{ℕ, ◌-◌, ◌≤◌, ◌<◌}
use Rattle.std.specs.Prelude.{◌≡◌, Bool, true, false, ◌||◌, List, ltb, ℤ, pos, negsuc}
use Rattle.std.proofs.Math.Path.{refl}
use Rattle.std.proofs.Common.{arith, ltb-false, leb-true, le-leb}
use Rattle.std.specs.Int.Signed.{mag, lt_z}
use Rattle.laws.specs.Lists.{at}
use Rattle.laws.specs.Loops.{nowhere_each}
use Rattle.basic_op.specs.Laws.{sat_id}
use Rattle.synth_filter.specs.Fast.{size_sum}
use Rattle.inverse.specs.Inverse.{Inside, inside, bounded, word}

-- ---- the tests

end_free : (z : ℤ) → lt_z z (negsuc 32766) || lt_z (pos 32766) z ≡ false → Inside z
end_free (pos m) e = omega (arith, ltb-false 32766 m e)
end_free (negsuc m) e = omega (arith, ltb-false 32766 m (or_false (ltb 32766 m) e))
  where
    or_false : (t : Bool) → t || false ≡ false → t ≡ false
    or_false true h = h
    or_false false h = refl

-- `inside` says `Inside` of each of the n samples
pub inside_each : (y : List ℤ) (n : ℕ) → inside y n ≡ true → (k : ℕ) → k < n → Inside (at y k)
unfolding inside
inside_each y n e k h = end_free (at y k) (nowhere_each (λ j. lt_z (at y j) (negsuc 32766) || lt_z (pos 32766) (at y j)) n k e h)

-- `bounded` is the bound on the size sum
pub bounded_sizes : (a : List ℤ) → bounded a ≡ true → size_sum a 10 ≤ 61439
unfolding bounded
bounded_sizes a e = leb-true (size_sum a 10) 61439 e

pub sizes_bounded : (a : List ℤ) → size_sum a 10 ≤ 61439 → bounded a ≡ true
unfolding bounded
sizes_bounded a h = le-leb (size_sum a 10) 61439 h

-- a number of 16 bits is kept as it is
pub word_same : (z : ℤ) → mag z < 32768 → word z ≡ z
unfolding word
word_same z h = sat_id 32767 z (omega arith)

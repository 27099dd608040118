-- The adaptive-codebook vector of ITU-T G.729 (clause 3.7.1, equation (40)), at the delay T = t0 + frac / 3 = k - phase / 3.
use Rattle.std.specs.Prelude.{ℕ, ◌+◌, ◌-◌, ◌*◌, min, max, Bool, cond, List, ℤ, pos}
use Rattle.std.specs.Int.Signed.{lt_z}
use Rattle.laws.specs.Lists.{at}
use Rattle.laws.specs.Loops.{steps, run}
use Rattle.block.specs.Places.{subframe_length, exc_start}
use Rattle.basic_op.specs.Ops.{l_mac, round}
use Rattle.pitch.specs.Pitch.{nat}

-- phase: 1 where frac is negative, 2 where it is positive
unfoldable pub phase : ℤ → ℕ
phase frac = cond (lt_z frac (pos 0)) 1 (cond (lt_z (pos 0) frac) 2 0)

-- limited to 10 to 144, which alters no delay of an accepted state (`limit_t1`, `limit_t2`, `limit_carried` of Laws)
abbrev pub limited : ℕ → ℕ
limited k = min (max k 10) 144

-- k: one more than t0 where frac is positive
unfoldable pub lag : ℤ → ℤ → ℕ
lag t0 frac = limited (cond (lt_z (pos 0) frac) (nat t0 + 1) (nat t0))

-- The sum of equation (40) around word x of the excitation u, the two terms of each i in turn, rounded.
unfoldable pub interpolate : List ℤ → ℕ → ℕ → List ℤ → ℤ
interpolate b30 phase x u =
    round (steps (λ i s. l_mac (l_mac s (at u (x - i)) (at b30 (phase + 3 * i))) (at u (x + 1 + i)) (at b30 (3 - phase + 3 * i))) 10 (pos 0))

-- Equation (40): the 40 words of the subframe, in the frame's excitation. Each reads the
-- buffer as the words before it left it, so that at delays below 40 the first words of the vector feed its later ones.
unfoldable pub adaptive_vector : List ℤ → Bool → ℤ → ℤ → List ℤ → List ℤ
adaptive_vector b30 second t0 frac exc =
    let from = exc_start second in
    run (λ n e. interpolate b30 (phase frac) (from + n - lag t0 frac) e) from subframe_length exc

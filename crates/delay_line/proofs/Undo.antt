-- A delay in thirds tells the delay: integer and fraction. Assumes nothing.
use Rattle.std.specs.Prelude.{◌≡◌, true, ℕ, zero, suc, ◌+◌, ◌-◌, ◌*◌, ◌/◌, ◌%◌, ◌≤◌, ◌<◌, T, leb, ℤ, pos, negsuc}
use Rattle.std.proofs.Common.{arith, le-ltb}
use Rattle.std.proofs.Math.Facts.{and_yes, leb_yes}
use Rattle.pitch.specs.declared.Delay.{Delay}
use Rattle.pitch.specs.Pitch.{nat}
use Rattle.pitch.specs.Laws.{between}
use Rattle.delay_line.specs.DelayLine.{thirds}
use Rattle.delay_line.specs.Undo.{of_thirds, delay}

thirds_are : (k f : ℕ) → 0 < k → f ≤ 2 → thirds (delay k f) ≡ 3 * k + f - 1
unfolding thirds nat
thirds_are k zero h g = rw (le-ltb (3 * k) 1 (omega arith)) (omega arith)
thirds_are k (suc zero) h g = omega arith
thirds_are k (suc (suc zero)) h g = omega arith
thirds_are k (suc (suc (suc f))) h g = absurd (omega arith)

pub thirds_back : (k f : ℕ) → 0 < k → f ≤ 2 → of_thirds (thirds (delay k f)) ≡ delay k f
unfolding of_thirds
thirds_back k f h g =
    let i : (3 * k + f - 1 + 1) / 3 ≡ k = omega arith in
    let j : (3 * k + f - 1 + 1) % 3 ≡ f = omega arith in
    rw (thirds_are k f h g, i, j)

-- a delay of a frame: 19 to 144 samples, and a fraction of -1, 0 or 1
pub thirds_tell : (d : Delay) → T (between (pos 19) (pos 144) d.integer) → T (between (negsuc 0) (pos 1) d.fraction) → of_thirds (thirds d) ≡ d
thirds_tell d h g = go d.integer d.fraction h g
  where
    some : (k : ℕ) → T (between (pos 19) (pos 144) (pos k)) → 0 < k
    some k h = omega (arith, leb_yes {a = 19} {b = k} (and_yes (leb 19 k) (leb k 144) h).0)

    go : (z f : ℤ) → T (between (pos 19) (pos 144) z) → T (between (negsuc 0) (pos 1) f) → of_thirds (thirds (record { integer = z; fraction = f })) ≡ record { integer = z; fraction = f }
    go (negsuc n) f h g = absurd h
    go (pos k) (negsuc zero) h g = thirds_back k 0 (some k h) (omega arith)
    go (pos k) (negsuc (suc n)) h g = absurd (omega (arith, leb_yes {a = suc n} {b = 0} (and_yes (leb (suc n) 0) true g).0))
    go (pos k) (pos zero) h g = thirds_back k 1 (some k h) (omega arith)
    go (pos k) (pos (suc zero)) h g = thirds_back k 2 (some k h) (omega arith)
    go (pos k) (pos (suc (suc n))) h g = absurd (omega (arith, leb_yes {a = suc (suc n)} {b = 1} g))

-- Laws of the places of equation (40), and that the limit there alters no delay. Assumes nothing.
use Rattle.std.specs.Prelude.{ℕ, ◌+◌, ◌-◌, ◌*◌, ◌/◌, ◌%◌, ◌≤◌, ◌<◌, ◌≡◌, List, Bool, true, false, cond, T, leb, ℤ, pos, negsuc, ◌-ℤ◌, ◌*ℤ◌}
use Rattle.std.proofs.Common.{◌∙◌, arith, mod-lt, lit<, lit≤}
use Rattle.std.specs.Int.Signed.{lt_z}
use Rattle.std.proofs.Math.Facts.{and_yes, leb_yes}
use Rattle.laws.specs.Loops.{every, every_at, run}
use Rattle.block.specs.Places.{subframe_length, exc_length, exc_start}
use Rattle.pitch.specs.declared.Delay.{Delay}
use Rattle.pitch.specs.Pitch.{decode_t1, decode_t2, t_min, carried, nat}
use Rattle.pitch.specs.Laws.{between, between_pos, low8}
use Rattle.adaptive.specs.Adaptive.{limited, phase, lag, interpolate, adaptive_vector}

-- ---- the places of equation (40)

phase_by : (s t : Bool) → cond s 1 (cond t 2 0) ≤ 2
phase_by true t = lit≤ tt
phase_by false true = lit≤ tt
phase_by false false = lit≤ tt

phase_most : (frac : ℤ) → phase frac ≤ 2
unfolding phase
phase_most frac = phase_by (lt_z frac (pos 0)) (lt_z (pos 0) frac)

lag_least : (t0 frac : ℤ) → 10 ≤ lag t0 frac
unfolding lag
lag_least t0 frac = omega arith

lag_most : (t0 frac : ℤ) → lag t0 frac ≤ 144
unfolding lag
lag_most t0 frac = omega arith

-- every word that is read or written stands within the buffer
pub places : (t0 frac : ℤ) (k p from : ℕ) → k ≡ lag t0 frac → p ≡ phase frac → 153 ≤ from → from ≤ 194
    → (p ≤ 2) × ((10 ≤ k) × ((k ≤ 144) × ((153 ≤ from) × (from + subframe_length ≤ exc_length))))
places t0 frac k p from ek ep l h =
    rw (ek, ep) (phase_most frac, (lag_least t0 frac, (lag_most t0 frac, (l, omega arith))))

-- the vector by the code's numbers
pub vector_is : (b30 exc out : List ℤ) (second : Bool) (t0 frac : ℤ) (from k p : ℕ) → from ≡ exc_start second → k ≡ lag t0 frac → p ≡ phase frac
    → out ≡ run (λ n e. interpolate b30 p (from + n - k) e) from subframe_length exc → out ≡ adaptive_vector b30 second t0 frac exc
unfolding adaptive_vector
vector_is b30 exc out second t0 frac from k p ef ek ep e = e ∙ (λ i. run (λ n u. interpolate b30 (ep i) (ef i + n - ek i) u) (ef i) subframe_length exc)

-- ---- the limit of equation (40) alters no delay

-- k of T = k - phase / 3, with no limit
unfoldable pub k_of : Delay → ℕ
k_of d = cond (lt_z (pos 0) d.fraction) (nat d.integer + 1) (nat d.integer)

abbrev free : ℕ → Bool
free k = between (pos 10) (pos 144) (pos k)

in_limit : (k : ℕ) → T (free k) → limited k ≡ k
in_limit k t =
    let p = and_yes (leb 10 k) (leb k 144) t in
    let l : 10 ≤ k = leb_yes p.0 in
    let h : k ≤ 144 = leb_yes p.1 in
    omega arith

pub limit_t1 : (p1 : ℕ) → lag (decode_t1 p1).integer (decode_t1 p1).fraction ≡ k_of (decode_t1 p1)
unfolding every decode_t1 k_of lag nat
limit_t1 p1 = in_limit (k_of (decode_t1 p1)) (rw low8 at (every_at 256 (λ p. free (k_of (decode_t1 p))) tt (p1 % 256) (mod-lt p1 (lit< tt))))

-- of a quotient q, one more where the fraction is positive: at most 11, so that with the least delay it is at most 144
most : (p : ℕ) → p < 32 → cond (lt_z (pos 0) (pos p -ℤ pos 2 -ℤ (pos ((p + 2) / 3) -ℤ pos 1) *ℤ pos 3)) ((p + 2) / 3 + 1) ((p + 2) / 3) ≤ 11
unfolding every
most p h = leb_yes (every_at 32 (λ n. leb (cond (lt_z (pos 0) (pos n -ℤ pos 2 -ℤ (pos ((n + 2) / 3) -ℤ pos 1) *ℤ pos 3)) ((n + 2) / 3 + 1) ((n + 2) / 3)) 11) tt p h)

above : (b : Bool) (q t : ℕ) → 20 ≤ t → t ≤ 134 → cond b (q + 1) q ≤ 11 → T (free (cond b (q + t - 1 + 1) (q + t - 1)))
above true q t l h m = between_pos 10 144 (q + t - 1 + 1) (omega arith) (omega arith)
above false q t l h m = between_pos 10 144 (q + t - 1) (omega arith) (omega arith)

pub limit_t2 : (p2 : ℕ) (t1 : ℤ) → lag (decode_t2 p2 t1).integer (decode_t2 p2 t1).fraction ≡ k_of (decode_t2 p2 t1)
unfolding decode_t2 k_of lag nat
limit_t2 p2 t1 = in_limit (k_of (decode_t2 p2 t1)) (above (lt_z (pos 0) (decode_t2 p2 t1).fraction) ((p2 % 32 + 2) / 3) (t_min t1) (omega arith) (omega arith) (most (p2 % 32) (mod-lt p2 (lit< tt))))

pub limit_carried : (old : ℤ) → T (between (pos 19) (pos 144) old) → lag old (pos 0) ≡ k_of (carried old)
unfolding k_of lag nat
limit_carried (pos n) t =
    let p = and_yes (leb 19 n) (leb n 144) t in
    let l : 19 ≤ n = leb_yes p.0 in
    let h : n ≤ 144 = leb_yes p.1 in
    omega arith
limit_carried (negsuc n) t = absurd t

-- Laws of the rows: the lost frames of an hour or less are a number of 32 bits, the last line by the least depth, and that the frames lost at the greatest depth never arrived. Assumes nothing.
use Rattle.std.specs.Prelude.{◌≡◌, refl, Option, None, Some, Bool, true, false, ◌&&◌, ◌||◌, List, [], ◌∷◌, ℕ, ◌≤◌, eqb, leb}
use Rattle.std.proofs.Math.Path.{ap}
use Rattle.std.proofs.Common.{leb-true, le-leb, arith, Fits}
use Rattle.std.specs.Int.{w32}
use Rattle.playout.specs.Playout.{Arrival, Answer, answer, due, arrived, kinds, lost, enough, first, depth_of}
use Rattle.playout.specs.Playout.{least as found}
use Rattle.playout.specs.Laws.{length_kinds, lost_most}
use Rattle.depth_table.specs.Table.{least, never}
use Rattle.depths_files.specs.Rows.{told, last}

pub lost_fits : (s d : ℕ) (l : List Arrival) (n : ℕ) → n ≤ 360000 → Fits w32 (lost (kinds s d l n))
lost_fits s d l n h = record { fits = omega (arith, lost_most (kinds s d l n), length_kinds s d l n) }

-- the kinds that are left are those of a depth
left : Answer (Option ℕ) → List ℕ
left (answer f ks) = ks

module _ (s m : ℕ) (l : List Arrival) (n : ℕ) (f : Option ℕ) (ks : List ℕ) (e : answer f ks ≡ found s m l n) where
  left_kinds : ks ≡ kinds s (depth_of (first (enough s m l n) 0 4294967296)) l n
  unfolding found left
  left_kinds = ap left e

  pub left_fits : n ≤ 360000 → Fits w32 (lost ks)
  left_fits h = rw left_kinds (lost_fits s (depth_of (first (enough s m l n) 0 4294967296)) l n h)

  pub last_never : f ≡ None → last s m l n ≡ never (lost ks) m
  unfolding last told
  last_never g = rw (← e, g)

  pub last_depth : (d : ℕ) → f ≡ Some d → last s m l n ≡ least d m
  unfolding last told
  last_depth d g = rw (← e, g)

-- ---- the greatest depth

-- an arrival has this number, at whatever time
unfoldable pub came : ℕ → List Arrival → Bool
came i [] = false
came i (a ∷ l) = eqb a.number i || came i l

-- the times are of 32 bits
unfoldable pub timed : List Arrival → Bool
timed [] = true
timed (a ∷ l) = leb a.time 4294967295 && timed l

-- all that came is played there, so that what is lost never arrived
pub deepest : (s i : ℕ) (l : List Arrival) → timed l ≡ true → arrived i (due s 4294967295 i) l ≡ came i l
unfolding arrived came timed
deepest s i [] h = refl
deepest s i (a ∷ l) h = by (leb a.time 4294967295) refl h (deepest s i l)
  where
    by : (p : Bool) → leb a.time 4294967295 ≡ p → p && timed l ≡ true → (timed l ≡ true → arrived i (due s 4294967295 i) l ≡ came i l)
        → (eqb a.number i && leb a.time (due s 4294967295 i)) || arrived i (due s 4294967295 i) l ≡ eqb a.number i || came i l
    by false e h g = let z : ◌≡◌ {A = Bool} false true = h in cc
    by true e h g = rw (le-leb a.time (due s 4294967295 i) (omega (arith, leb-true a.time 4294967295 e)), g h) (both (eqb a.number i))
      where
        both : (q : Bool) → (q && true) || came i l ≡ q || came i l
        both true = refl
        both false = refl

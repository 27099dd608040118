-- A greater depth (change request 11): it never makes a played frame lost, so the lost count never grows with it. What that says of a call is in proofs/Depth.antt. Assumes nothing.
use Rattle.std.specs.Prelude.{Ok, Err}
use Rattle.std.specs.Prelude.{◌≡◌, Bool, ◌&&◌, ◌||◌, ℕ, suc, ◌≤◌, ◌<◌, eqb, leb, length, get_or}
use Rattle.std.proofs.Math.Path.{refl}
use Rattle.std.proofs.Common.{le-leb, leb-true}
use Rattle.std.proofs.Math.Bool.{true, false, cond}
use mathlib.Core.List.{List, [], ◌∷◌, map}
use native.Mathlib.Omega.{arith}
use Rattle.laws.specs.Lists.{upto}
use Rattle.playout.specs.Playout.{Arrival, arrivals, due, arrived, kind, kinds, lost, answer, refusal, playout}
use Rattle.playout.specs.Laws.{not_refused}

or_right : (p q : Bool) → q ≡ true → (p || q) ≡ true
or_right true q f = refl
or_right false q f = f

-- an arrival that is in time for one moment is for each later one
later : (i by after : ℕ) (l : List Arrival) → by ≤ after → arrived i by l ≡ true → arrived i after l ≡ true
unfolding arrived
later i by after [] h e = e
later i by after (a ∷ l) h e = go (eqb a.number i) (leb a.time by) refl e (later i by after l h)
  where
    go : (p q : Bool) → leb a.time by ≡ q → ((p && q) || arrived i by l) ≡ true → (arrived i by l ≡ true → arrived i after l ≡ true)
        → ((p && leb a.time after) || arrived i after l) ≡ true
    go true true f g k = let b : a.time ≤ by = leb-true a.time by f in rw (le-leb a.time after (omega arith))
    go true false f g k = or_right (leb a.time after) (arrived i after l) (k g)
    go false q f g k = k g

module _ (s d e : ℕ) (deep : d ≤ e) (l : List Arrival) where
  -- a frame that is played is played at each greater depth
  pub deeper : (i : ℕ) → kind s d l i ≡ 0 → kind s e l i ≡ 0
  unfolding kind
  deeper i z = go (arrived i (due s d i) l) refl z
    where
      go : (p : Bool) → arrived i (due s d i) l ≡ p → cond {A = ℕ} p 0 3 ≡ 0 → cond {A = ℕ} (arrived i (due s e i) l) 0 3 ≡ 0
      go true f y = rw (later i (due s d i) (due s e i) l (omega arith) f)
      go false f y = absurd (omega arith)

  one : (p q : Bool) → (p ≡ true → q ≡ true) → (m n : ℕ) → m ≤ n → cond (eqb (cond {A = ℕ} q 0 3) 3) (suc m) m ≤ cond (eqb (cond {A = ℕ} p 0 3) 3) (suc n) n
  one true q f m n h = let g = f refl in rw g h
  one false true f m n h = omega arith
  one false false f m n h = omega arith

  fewer_of : (is : List ℕ) → lost (map (kind s e l) is) ≤ lost (map (kind s d l) is)
  unfolding lost kind
  fewer_of [] = omega arith
  fewer_of (i ∷ is) = one (arrived i (due s d i) l) (arrived i (due s e i) l) (later i (due s d i) (due s e i) l (omega arith)) (lost (map (kind s e l) is)) (lost (map (kind s d l) is)) (fewer_of is)

  -- the lost count never grows with the depth
  pub fewer : (n : ℕ) → lost (kinds s e l n) ≤ lost (kinds s d l n)
  unfolding kinds
  fewer n = fewer_of (upto n)

-- ---- the same of two calls with the same start and arrivals: where one is not refused, the one at a greater depth is not either, it plays each frame that the first played, and it loses no more frames

pub record Deeper (f s e : ℕ) (ns ts again : List ℕ) (m : ℕ) (ks : List ℕ) : Type 0 where
  pub count : ℕ
  pub after : List ℕ
  pub given : playout f s e ns ts again ≡ answer (Ok count) after
  pub fewer : count ≤ m
  pub played : (i : ℕ) → i < f → get_or ks i 3 ≡ 0 → get_or after i 3 ≡ 0

-- a refusal is the same at every depth
pub call_refused : (f s d e : ℕ) (ns ts before : List ℕ) (n : ℕ) → playout f s d ns ts before ≡ answer (Err n) before → playout f s e ns ts before ≡ answer (Err n) before
unfolding playout
call_refused f s d e ns ts before n g = go (eqb (refusal f ns (length ts) (length before)) 0) g
  where
    after : ℕ → List ℕ
    after k = kinds s k (arrivals ns ts) f

    go : (t : Bool) → cond t (answer (Ok (lost (after d))) (after d)) (answer (Err (refusal f ns (length ts) (length before))) before) ≡ answer (Err n) before
        → cond t (answer (Ok (lost (after e))) (after e)) (answer (Err (refusal f ns (length ts) (length before))) before) ≡ answer (Err n) before
    go true q = absurd (not_refused (lost (after d)) n (after d) before q)
    go false q = q

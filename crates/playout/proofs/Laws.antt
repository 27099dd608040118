-- What a call of the playout that was not refused has. Assumes nothing.
use Rattle.std.specs.Prelude.{Result, Ok, Err}
use Rattle.std.specs.Prelude.{◌≡◌}
use Rattle.std.proofs.Math.Path.{refl, sym, ap}
use Rattle.std.proofs.Math.Bool.{cond}
use mathlib.Core.List.{List}
use Prim.Native.Nat.{ℕ, zero, suc}
use Rattle.std.proofs.Math.Dec.{eqb, eqb-suc-zero}
use Rattle.std.proofs.Math.ListN.{length}
use Rattle.playout.specs.Playout.{arrivals, kinds, lost, Answer, answer, refusal, playout}
use Rattle.playout.specs.Laws.{not_refused}

-- what a call that was not refused has: no refusal, and the count and kinds of the definition
abbrev planned : Answer (Result ℕ ℕ) → ℕ
planned (answer (Err n) ks) = 0
planned (answer (Ok m) ks) = m

abbrev left : Answer (Result ℕ ℕ) → List ℕ
left (answer a ks) = ks

pub done : (f s d : ℕ) (ns ts before : List ℕ) (m : ℕ) (ks : List ℕ) → playout f s d ns ts before ≡ answer (Ok m) ks
    → (refusal f ns (length ts) (length before) ≡ 0) × (m ≡ lost (kinds s d (arrivals ns ts) f)) × (ks ≡ kinds s d (arrivals ns ts) f)
unfolding playout
done f s d ns ts before m ks e = go (refusal f ns (length ts) (length before)) e
  where
    after : List ℕ
    after = kinds s d (arrivals ns ts) f

    go : (n : ℕ) → cond (eqb n 0) (answer (Ok (lost after)) after) (answer (Err n) before) ≡ answer (Ok m) ks → (n ≡ 0) × (m ≡ lost after) × (ks ≡ after)
    go zero g = (refl, sym (ap planned g), sym (ap left g))
    go (suc n) g = absurd (not_refused m (suc n) ks before (sym (rw eqb-suc-zero at g)))

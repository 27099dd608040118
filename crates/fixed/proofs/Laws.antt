-- The loop that sharpens, from its first turn to its last. Assumes nothing.
use Prim.Native.Nat.{zero, suc, ◌-◌, ◌<◌}
use Rattle.std.proofs.Math.Path.{◌≡◌, refl}
use Rattle.std.proofs.Common.{◌∙◌, subst, arith}
use Rattle.std.specs.Prelude.{Bool, List, ℤ, pos, negsuc}
use Rattle.std.proofs.Math.Bool.{true, false}
use Rattle.std.proofs.Math.Dec.{T}
use Rattle.std.proofs.Math.IntN.{nat_abs}
use Rattle.std.specs.Int.Signed.{lt_z}
use Rattle.laws.specs.Lists.{at}
use Rattle.laws.specs.Loops.{run, run_none, ended_from}
use Rattle.basic_op.specs.Ops.{shl}
use Rattle.fixed.specs.Fixed.{sharpen}
use Rattle.fixed.specs.Laws.{add_delayed}

module _ (code : List ℤ) (beta : ℤ) {y t0 : ℤ} (e : y ≡ t0) where
  pub sharpen_is : lt_z y (pos 1) ≡ false → run (add_delayed (nat_abs y) (shl beta (pos 1))) (nat_abs y) (40 - nat_abs y) code ≡ sharpen code t0 beta
  unfolding sharpen
  sharpen_is p = rw e (go t0 (rw e at p))
    where
      go : (t : ℤ) → lt_z t (pos 1) ≡ false → run (add_delayed (nat_abs t) (shl beta (pos 1))) (nat_abs t) (40 - nat_abs t) code ≡ sharpen code t beta
      go (pos zero) q = let h : ◌≡◌ {A = Bool} true false = q in absurd (subst T h tt)
      go (pos (suc n)) q = refl
      go (negsuc n) q = let h : ◌≡◌ {A = Bool} true false = q in absurd (subst T h tt)

  pub sharpen_far : lt_z y (pos 1) ≡ false → 39 < nat_abs y → code ≡ sharpen code t0 beta
  sharpen_far p h = ended_from (run (add_delayed (nat_abs y) (shl beta (pos 1))) (nat_abs y)) (40 - nat_abs y) (run_none _ _ code) (omega arith) ∙ sharpen_is p

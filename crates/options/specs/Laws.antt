-- Laws of the words of a command line. Assumes nothing.
use Rattle.std.specs.Prelude.{◌≡◌, refl, Bool, true, false, ◌||◌, List, ℕ, ◌<◌, ltb, length}
use Rattle.std.proofs.Common.{arith, ltb-false}
use Rattle.options.specs.Options.{no_path}

-- a word that can be a path has a byte
pub some_byte : (w : List ℕ) → no_path w ≡ false → 0 < length w
unfolding no_path
some_byte w = by (ltb (length w) 1) (ltb 4095 (length w)) refl
  where
    by : (p q : Bool) → ltb (length w) 1 ≡ p → p || q ≡ false → 0 < length w
    by true q e h = let z : ◌≡◌ {A = ℕ} 0 1 = cc in absurd (omega arith)
    by false q e h = omega (arith, ltb-false (length w) 1 e)

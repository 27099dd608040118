-- Laws of the words of `depths`. Assumes nothing.
use Rattle.std.specs.Prelude.{◌≡◌, refl, Bool, true, false, cond, not, ◌&&◌, ◌||◌, List, [], ◌∷◌, ℕ, ◌*◌, ◌^◌, ◌<◌, eqb, length}
use Rattle.std.proofs.Common.{sym, ◌∙◌, arith, mul-le-mul}
use Rattle.depth_options.specs.declared.Setting.{Setting}
use Rattle.depth_options.specs.DepthOptions.{lost, code, is_percent}

-- one of two tests, without a branch
pub choose : (p a b : Bool) → (p && a) || (not p && b) ≡ cond p a b
choose true true b = refl
choose true false b = refl
choose false a b = refl

-- a text of no byte is no percentage
pub no_byte : (option : Setting) (l : List ℕ) → length l ≡ 0 → is_percent option l ≡ false
unfolding is_percent
no_byte option [] h = by (eqb (code option) lost)
  where
    by : (p : Bool) → p && false ≡ false
    by true = refl
    by false = refl
no_byte option (b ∷ l) h = absurd (omega arith)

-- so a percentage has a byte
pub some_byte : (option : Setting) (l : List ℕ) → is_percent option l ≡ true → 0 < length l
some_byte option [] e = let f : ◌≡◌ {A = Bool} false true = sym (no_byte option [] refl) ∙ e in let z : ◌≡◌ {A = ℕ} 0 1 = cc in absurd (omega arith)
some_byte option (b ∷ l) e = omega arith

-- the product of two numbers of 32 bits has 64
pub product : (a b : ℕ) → a < 2 ^ 32 → b < 2 ^ 32 → a * b < 2 ^ 64
product a b h k = omega (arith, mul-le-mul {n₁ = a} {m₁ = b} {n₂ = 4294967295} {m₂ = 4294967295} (omega arith) (omega arith))

-- What is taken behind a place stays inside. Assumes nothing.
use Rattle.std.specs.Prelude.{◌≡◌, refl, Bool, true, false, cond, List, ℕ, ◌+◌, ◌-◌, ◌≤◌, ◌<◌, ltb, length, take, drop}
use Rattle.std.proofs.Common.{arith, ltb-true, length-take, length-drop}

pub room : (l : List ℕ) (a b : ℕ) → a ≤ length l → b ≤ length (take (length l - a) (drop a l)) → a + b ≤ length l
room l a b h k = omega (arith, length-take (length l - a) (drop a l), length-drop a l)

-- a turn takes a line, or is the last
pub falls : (n a b : ℕ) (g : Bool) → g ≡ true → a ≤ b → b ≤ n → (n - b) + cond (ltb a b) 1 0 < (n - a) + cond g 1 0
falls n a b g e h k = rw e (by (ltb a b) refl)
  where
    by : (p : Bool) → ltb a b ≡ p → (n - b) + cond p 1 0 < (n - a) + 1
    by true f = omega (arith, ltb-true a b f)
    by false f = omega arith

-- Laws of the numbers and of the loops of `replay`. Assumes nothing.
use Rattle.std.specs.Prelude.{◌≡◌, refl, List, ℕ, zero, suc, ◌+◌, ◌-◌, ◌*◌, ◌%◌, ◌≤◌, ◌<◌, ℤ, pos, negsuc, ◌-ℤ◌, length}
use Rattle.std.proofs.Common.{ap, ◌∙◌, zero-add, le-ltb, to_z}
use native.Mathlib.Omega.{arith}
use Rattle.std.specs.Int.{w32}
use Rattle.std.proofs.lemmas.Int.{to_z_pos}
use Rattle.basic_op.specs.Ops.{sat, l_sub}
use Rattle.laws.specs.Lists.{at}
use Rattle.laws.specs.Loops.{steps, steps_turn, ended_from}
use Rattle.replay.specs.Replay.{count, unequal, compare}

-- one digit more
pub shift_in : (v d : ℕ) → d < 16 → v % 268435456 * 16 + d ≡ (16 * v + d) % 4294967296
shift_in v d h = omega arith

less_one : (y : ℕ) → negsuc 0 -ℤ pos y ≡ negsuc y
less_one zero = refl
less_one (suc y) = ap (λ (n : ℕ). negsuc (suc n)) (zero-add y)

-- the upper half of the patterns are the negative numbers: -1 less what is missing to the last
pub negative : (x : ℕ) → 2147483648 ≤ x → x < 4294967296 → l_sub (negsuc 0) (to_z w32 (4294967295 - x)) ≡ to_z w32 x
unfolding l_sub sat
negative x h k =
    rw (to_z_pos w32 (4294967295 - x) (omega arith), less_one (4294967295 - x), le-ltb 2147483647 (4294967295 - x) (omega arith), le-ltb x 2147483648 h)
    (ap negsuc (omega arith))

-- ---- the words of v behind the first n against those of l from place p on

module _ (row : ℕ) (l : List ℤ) (p : ℕ) (v : List ℤ) (skip : ℕ) (t₀ : List ℕ) where
  -- after m words
  unfoldable pub first : ℕ → List ℕ
  first m = steps (λ k t. count row (unequal (at l (p + k)) (at v (skip + k))) t) m t₀

  pub first_none : (n : ℕ) → n ≡ skip → t₀ ≡ first (n - skip)
  unfolding first steps
  first_none n h = let e : n - skip ≡ 0 = omega arith in rw e

  -- one turn
  pub first_turn : (n : ℕ) (t u : List ℕ) (a b : ℤ) → skip ≤ n → t ≡ first (n - skip) → a ≡ at l (p + (n - skip)) → b ≡ at v n → u ≡ count row (unequal a b) t → u ≡ first (n + 1 - skip)
  unfolding first
  first_turn n t u a b h e f g k =
      let m : n + 1 - skip ≡ n - skip + 1 = omega arith in
      let j : skip + (n - skip) ≡ n = omega arith in
      rw m (steps_turn _ _ _ _ _ e (k ∙ rw (f, g, j)))

  -- after the last turn
  pub first_end : (n : ℕ) (t : List ℕ) → t ≡ first (n - skip) → n - skip ≡ length v - skip → t ≡ compare row l p v skip t₀
  unfolding first compare
  first_end n t e h = ended_from (steps _) _ e h

-- Where the limit of 16 bits acts (change request 10): never with one leg or two, and with three of full size (two and three: proofs/Limit.antt). Assumes nothing.
use Rattle.std.specs.Prelude.{◌≡◌, refl, List, [], ◌∷◌, ℕ, ◌<◌, ℤ, negsuc, length, get_or, take, replicate}
use Rattle.std.proofs.Common.{◌∙◌, arith}
use Rattle.std.proofs.Math.Path.{ap}
use Rattle.std.proofs.Math.IntN.{pos}
use Rattle.laws.specs.Lists.{at, tab, at_tab, upto}
use Rattle.basic_op.specs.Ops.{sat, sat16}
use Rattle.mix.specs.Mix.{sum, others, heard, mix, frames, legs_of, joined, whole, refusal, mixed, mix_call}
use Rattle.mix.specs.Laws.{mix_at}

-- ---- one leg heard nobody: 80 zeros

pub one : (x : List ℤ) → mix (x ∷ []) ≡ replicate 80 (pos 0) ∷ []
unfolding mix heard upto tab sum sat
one x = refl

-- ---- three of full size: the exact sum of two is beyond 16 bits, and each leg heard 32767, or -32768

-- a place at which three legs have the same sample
pub record Alike (x y z : List ℤ) (i : ℕ) (v : ℤ) : Type 0 where
  pub first : at x i ≡ v
  pub second : at y i ≡ v
  pub third : at z i ≡ v

-- ---- the limit acts on the exact sum alone: 30000 + 30000 - 30000 - 30000 is 0, which a limit at each step gives neither from the left nor from the right

pub after_the_sum : (v w x y z : List ℤ) (i : ℕ) → i < 80 → at v i ≡ pos 30000 → at w i ≡ pos 30000 → at x i ≡ negsuc 29999 → at y i ≡ negsuc 29999
    → at (get_or (mix (v ∷ (w ∷ (x ∷ (y ∷ (z ∷ [])))))) 4 []) i ≡ pos 0
unfolding heard sum sat
after_the_sum v w x y z i b p q r s =
    let l : List (List ℤ) = v ∷ (w ∷ (x ∷ (y ∷ (z ∷ [])))) in
    let e : sum i (others 4 l) ≡ pos 0 = rw (p, q, r, s) in
    ap (λ (t : List ℤ). at t i) (mix_at l 4 (omega arith)) ∙ at_tab (λ i. sat16 (sum i (others 4 l))) 80 i b ∙ ap sat16 e

-- ---- the same of the call

pub one_call : (l before : List ℤ) → length l ≡ 80 → length before ≡ 80 → mix_call l before ≡ mixed 0 (replicate 80 (pos 0))
unfolding mix_call refusal whole legs_of frames joined
one_call l before h b = rw (h, b, one (take 80 l))

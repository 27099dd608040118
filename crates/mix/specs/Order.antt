-- The legs in any other order: the results are in that order, otherwise equal (change request 10). The same of a call is in proofs/Order.antt. Assumes nothing.
use Rattle.std.specs.Prelude.{◌≡◌, refl, ℕ, zero, suc, ◌<◌, ℤ, ◌-ℤ◌, length}
use Rattle.std.proofs.Math.Path.{sym, ap}
use Rattle.std.proofs.Common.{◌∙◌, arith, ext_get_or}
use mathlib.Core.List.{List, [], ◌∷◌, map}
use Rattle.std.proofs.Math.ListN.{get_or}
use Rattle.std.proofs.lemmas.List.{length-map}
use Rattle.laws.specs.Lists.{at, tab_ext, upto, length_upto, map_upto, upto_at}
use Rattle.laws.specs.Perm.{Perm, none, perm_each, perm_map}
use Rattle.basic_op.specs.Ops.{sat16}
use Rattle.mix.specs.Mix.{sum, others, heard, mix}
use Rattle.mix.specs.Laws.{Adds, adds_others, adds_perm, length_mix, mix_at}

-- the legs of these numbers, in their order
unfoldable pub in_order : List ℕ → List (List ℤ) → List (List ℤ)
in_order ks l = map (λ k. get_or l k []) ks

pub length_in_order : (ks : List ℕ) (l : List (List ℤ)) → length (in_order ks l) ≡ length ks
unfolding in_order
length_in_order ks l = length-map ks (λ k. get_or l k [])

pub in_order_at : (ks : List ℕ) (l : List (List ℤ)) (j : ℕ) → j < length ks → get_or (in_order ks l) j [] ≡ get_or l (get_or ks j 0) []
unfolding in_order
in_order_at [] l j h = absurd (omega arith)
in_order_at (k ∷ ks) l zero h = refl
in_order_at (k ∷ ks) l (suc j) h = in_order_at ks l j (omega arith)

-- their own order
in_order_all : (l : List (List ℤ)) → in_order (upto (length l)) l ≡ l
unfolding in_order
in_order_all l =
    let count : length (map (λ k. get_or l k []) (upto (length l))) ≡ length l = length-map (upto (length l)) (λ k. get_or l k []) ∙ length_upto (length l) in
    ext_get_or [] (map (λ k. get_or l k []) (upto (length l))) l count (λ i h. map_upto (λ k. get_or l k []) (length l) i [] (omega (arith, count)))

-- ---- the results

-- the legs in the order of these numbers, and in their own
legs_perm : (l : List (List ℤ)) (ks : List ℕ) → Perm ks (upto (length l)) → Perm (in_order ks l) (in_order (upto (length l)) l)
unfolding in_order
legs_perm l ks p = perm_map (λ k. get_or l k []) p

module _ (l : List (List ℤ)) (ks : List ℕ) (p : Perm ks (upto (length l))) where
  -- each number is that of a leg
  pub below : (j : ℕ) → j < length ks → get_or ks j 0 < length l
  below = perm_each (λ (k : ℕ). k < length l) 0 p (λ j h. rw (upto_at (length l) j (rw length_upto at h)) (rw length_upto at h))

  -- in any order of the legs' numbers the results are in that order
  pub order : mix (in_order ks l) ≡ in_order ks (mix l)
  unfolding sum heard
  order =
      let count : length (mix (in_order ks l)) ≡ length ks = length_mix (in_order ks l) ∙ length_in_order ks l in
      ext_get_or [] (mix (in_order ks l)) (in_order ks (mix l)) (count ∙ sym (length_in_order ks (mix l)))
      (λ j h.
      let b : j < length ks = omega (arith, count) in
      mix_at (in_order ks l) j (omega (arith, length_in_order ks l)) ∙ same j b ∙ sym (mix_at l (get_or ks j 0) (below j b)) ∙ sym (in_order_at ks (mix l) j b))
    where
      adds : (i : ℕ) → Adds i (sum i)
      adds i = record { none = refl; more = λ x m. refl }

      -- the sum is the same in any order
      sums : (i : ℕ) → sum i (in_order ks l) ≡ sum i l
      sums i = adds_perm i (sum i) (adds i) (legs_perm l ks p) ∙ ap (sum i) (in_order_all l)

      same : (j : ℕ) → j < length ks → heard (in_order ks l) j ≡ heard l (get_or ks j 0)
      same j h = tab_ext 80 (λ i. sat16 (sum i (others j (in_order ks l)))) (λ i. sat16 (sum i (others (get_or ks j 0) l))) go
        where
          go : (i : ℕ) → sat16 (sum i (others j (in_order ks l))) ≡ sat16 (sum i (others (get_or ks j 0) l))
          go i =
              ap sat16
              (adds_others i (sum i) (adds i) j (in_order ks l) (omega (arith, length_in_order ks l))
              ∙ ap (λ (z : ℤ). z -ℤ at (get_or (in_order ks l) j []) i) (sums i)
              ∙ ap (λ (x : List ℤ). sum i l -ℤ at x i) (in_order_at ks l j h)
              ∙ sym (adds_others i (sum i) (adds i) (get_or ks j 0) l (below j h)))

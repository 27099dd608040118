-- What `==` says of two parts of blocks: no word is less in one than in the other. Assumes nothing.
use Rattle.std.specs.Prelude.{◌≡◌, Bool, true, false, ◌||◌, List, ℤ, pos, negsuc}
use Rattle.std.specs.Cmp.Lexicographic.{pointwise}
use Rattle.std.specs.Ordering.{int_eq}
use Rattle.std.specs.Int.Signed.{lt_z}
use Rattle.std.proofs.Math.Path.{refl}
use Rattle.std.proofs.Common.{sym, ap, ◌∙◌, true≢false, arith, le-ltb}
use Rattle.std.proofs.lemmas.Bool.Decides.{Decides-int_eq}
use Rattle.std.proofs.lemmas.Slice.Eq.{slice_eq-Decides}
use Prim.Native.Nat.{ℕ, ◌+◌, ◌<◌}
use Rattle.laws.specs.Ints.{most_both}
use Rattle.laws.specs.Lists.{at, at_tab, tab_same}
use Rattle.laws.specs.Loops.{nowhere, nowhere_each, nowhere_all}
use Rattle.block.specs.Block.{part}

pub neither_less : (x y : ℤ) → lt_z x y || lt_z y x ≡ false → x ≡ y
neither_less x y = by (lt_z x y) (lt_z y x) refl refl
  where
    by : (p q : Bool) → lt_z x y ≡ p → lt_z y x ≡ q → p || q ≡ false → x ≡ y
    by true q e f h = absurd (true≢false h)
    by false true e f h = absurd (true≢false h)
    by false false e f h = most_both x y e f

pub never_less : (x : ℤ) → lt_z x x ≡ false
never_less (pos n) = le-ltb n n (omega arith)
never_less (negsuc n) = le-ltb n n (omega arith)

both_ways : (r s : Bool) → (r ≡ true → s ≡ true) → (s ≡ true → r ≡ true) → r ≡ s
both_ways true true f g = refl
both_ways true false f g = sym (f refl)
both_ways false true f g = g refl
both_ways false false f g = refl

-- n words of a from p on, and of b from q on
module _ (a b : List ℤ) (p q n : ℕ) where
  words_of : part a p n ≡ part b q n → (k : ℕ) → k < n → at a (p + k) ≡ at b (q + k)
  unfolding part
  words_of e k h = sym (at_tab (λ i. at a (p + i)) n k h) ∙ ap (λ (l : List ℤ). at l k) e ∙ at_tab (λ i. at b (q + i)) n k h

  parts_of : ((k : ℕ) → k < n → at a (p + k) ≡ at b (q + k)) → part a p n ≡ part b q n
  unfolding part
  parts_of h = tab_same n _ _ h

  pub same_parts : (r : Bool) → r ≡ pointwise int_eq (part a p n) (part b q n) → r ≡ nowhere (λ k. lt_z (at a (p + k)) (at b (q + k)) || lt_z (at b (q + k)) (at a (p + k))) n
  same_parts r e =
      let d = slice_eq-Decides Decides-int_eq (part a p n) (part b q n) r e in
      both_ways r (nowhere (λ k. lt_z (at a (p + k)) (at b (q + k)) || lt_z (at b (q + k)) (at a (p + k))) n)
      (λ h. nowhere_all _ n (λ k l. rw (words_of (d.0 h) k l, never_less (at b (q + k)))))
      (λ h. d.1 (parts_of (λ k l. neither_less _ _ (nowhere_each _ n k h l))))

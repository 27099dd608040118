-- The legs of a call in any other order: the results are in that order, otherwise equal (change request 10). Assumes nothing.
use Rattle.std.specs.Prelude.{◌≡◌, refl, ℕ, ◌*◌, ◌/◌, ◌<◌, ℤ, length, drop}
use Rattle.std.proofs.Math.Path.{sym, ap}
use Rattle.std.proofs.Common.{◌∙◌, arith, length-drop, length-take-le}
use mathlib.Core.List.{List, []}
use Rattle.std.proofs.Math.ListN.{get_or}
use Rattle.laws.specs.Lists.{upto, length_upto}
use Rattle.laws.specs.Perm.{Perm, perm_length}
use Rattle.mix.specs.Mix.{legs_of, joined, whole, refusal, mixed, mix_call}
use Rattle.mix.specs.Laws.{length_legs, legs_at, Whole, whole_taken, joined_length, legs_joined, legs_results, mix_done}
use Rattle.mix.proofs.Laws.{done}
use Rattle.mix.specs.Order.{in_order, length_in_order, in_order_at, below, order}

length_leg : (l : List ℤ) (k : ℕ) → k < length l / 80 → length (get_or (legs_of l) k []) ≡ 80
length_leg l k h = ap length (legs_at l k h) ∙ length-take-le 80 (drop (80 * k) l) (rw length-drop (omega arith))

module _ (l : List ℤ) (ks : List ℕ) (w : Whole (length l)) (p : Perm ks (upto (length (legs_of l)))) where
  each_leg : (k : ℕ) → k < length (in_order ks (legs_of l)) → length (get_or (in_order ks (legs_of l)) k []) ≡ 80
  each_leg k h =
      let c : k < length ks = omega (arith, length_in_order ks (legs_of l)) in
      ap length (in_order_at ks (legs_of l) k c) ∙ length_leg l (get_or ks k 0) (omega (arith, below (legs_of l) ks p k c, length_legs l))

  long : length (joined (in_order ks (legs_of l))) ≡ length l
  long =
      let e : length (in_order ks (legs_of l)) ≡ length l / 80 = length_in_order ks (legs_of l) ∙ perm_length p ∙ length_upto (length (legs_of l)) ∙ length_legs l in
      joined_length (in_order ks (legs_of l)) each_leg ∙ omega (arith, e, w.rest)

  own : legs_of (joined (in_order ks (legs_of l))) ≡ in_order ks (legs_of l)
  own = legs_joined (in_order ks (legs_of l)) each_leg

-- lent in another order, a call that was not refused is not, and its results are those of before in that order
pub call_order : (l d r again : List ℤ) (ks : List ℕ) → mix_call l d ≡ mixed 0 r → length again ≡ length l → Perm ks (upto (length l / 80))
    → mix_call (joined (in_order ks (legs_of l))) again ≡ mixed 0 (joined (in_order ks (legs_of r)))
call_order l d r again ks e b p =
    let w = done l d r e in
    let q : Perm ks (upto (length (legs_of l))) = rw length_legs p in
    let n : refusal (length (joined (in_order ks (legs_of l)))) (length again) ≡ 0 = rw (long l ks w.whole q, b) (whole_taken (length l) w.whole) in
    sym (mix_done (joined (in_order ks (legs_of l))) again (joined (in_order ks (legs_of r))) 0 (sym n) refl
    (rw (legs_results l d r w, own l ks w.whole q) (ap joined (sym (order (legs_of l) ks q)))))

-- Laws of a conference that rest on what the sum is: the others' sum, and what the loops write; and what is known of a call that was not refused. Assumes nothing.
use Rattle.std.specs.Prelude.{◌≡◌, Bool, true, false, cond, ℕ, zero, suc, ◌+◌, ◌-◌, ◌*◌, ◌/◌, ◌≤◌, ◌<◌, eqb, ℤ, ◌+ℤ◌, ◌-ℤ◌, get_or, take, drop}
use Rattle.std.proofs.Math.Path.{refl}
use Rattle.std.proofs.Common.{sym, ap, ◌∙◌, add-one, arith, take-suc, take_all, take_at, drop-drop, eqb-true}
use mathlib.Core.List.{List, [], ◌∷◌, ◌++◌, append-nil}
use Rattle.std.proofs.Math.IntN.{+ℤ_idr}
use Rattle.std.proofs.Math.ListN.{length, length-append}
use Rattle.std.proofs.Math.Seq.{drop-append-add, paste}
use Rattle.std.specs.Int.Signed.{nat_abs-le}
use Rattle.std.proofs.lemmas.Bool.{eqb-false}
use Rattle.laws.specs.Lists.{at, tab, at_tab, tab_same}
use Rattle.laws.specs.Perm.{none}
use Rattle.laws.specs.Sums.{abs_add}
use Rattle.basic_op.specs.Ops.{sat16}
use Rattle.mix.specs.Mix.{sum, others, heard, mix, legs_of, joined, whole, refusal, mixed, mix_call}
use Rattle.mix.specs.Laws.{Adds, adds_append, adds_others, length_legs, sample_at, Within, SamplesAt, Summed, length_mix, mix_at, length_heard, joined_append, Heard, taken, Done}

sum_adds : (i : ℕ) → Adds i (sum i)
unfolding sum
sum_adds i = record { none = refl; more = λ x l. refl }

pub sum_append : (i : ℕ) (a b : List (List ℤ)) → sum i (a ++ b) ≡ sum i a +ℤ sum i b
sum_append i a b = adds_append i (sum i) (sum_adds i) a b

-- the others' sum is the whole sum without the leg's own sample
pub sum_others : (i k : ℕ) (l : List (List ℤ)) → k < length l → sum i (others k l) ≡ sum i l -ℤ at (get_or l k []) i
sum_others i k l h = adds_others i (sum i) (sum_adds i) k l h

-- one leg more
sum_more : (i k : ℕ) (l : List (List ℤ)) → k < length l → sum i (take (k + 1) l) ≡ sum i (take k l) +ℤ at (get_or l k []) i
unfolding sum
sum_more i k l h =
    rw add-one
    (ap (sum i) (take-suc l k [] h) ∙ sum_append i (take k l) (get_or l k [] ∷ []) ∙ ap (λ (z : ℤ). sum i (take k l) +ℤ z) (+ℤ_idr (at (get_or l k []) i)))

within_turn : (k p : ℕ) (t l out : List ℤ) → Within k t → SamplesAt l p 80 → out ≡ tab 80 (λ i. at t i +ℤ at l (p + i)) → Within (k + 1) out
within_turn k p t l out w s e =
    record {
      each = λ i b.
          rw (e, at_tab (λ i. at t i +ℤ at l (p + i)) 80 i b) (omega (arith, abs_add (at t i) (at l (p + i)), w.each i b, nat_abs-le (at l (p + i)) (s.each i b)));
    }

pub summed_turn : (l t out : List ℤ) (k p : ℕ) → k < length l / 80 → SamplesAt l p 80 → p ≡ 80 * k → Summed l k t → out ≡ tab 80 (λ i. at t i +ℤ at l (p + i)) → Summed l (k + 1) out
summed_turn l t out k p h s q w e = (
  e ∙ tab_same 80 (λ i. at t i +ℤ at l (p + i)) (λ i. sum i (take (k + 1) (legs_of l))) go,
  within_turn k p t l out w.1 s e,
)
  where
    go : (i : ℕ) → i < 80 → at t i +ℤ at l (p + i) ≡ sum i (take (k + 1) (legs_of l))
    go i b =
        let f : ℕ → ℤ = λ i. sum i (take k (legs_of l)) in
        let g : at t i ≡ f i = ap (λ (x : List ℤ). at x i) w.0 ∙ at_tab f 80 i b in
        let o : at l (p + i) ≡ at (get_or (legs_of l) k []) i = ap (λ (j : ℕ). at l (j + i)) q ∙ sym (sample_at l k i h b) in
        rw (g, o) (sym (sum_more i k (legs_of l) (omega (arith, length_legs l))))

joined_more : (k : ℕ) (m : List (List ℤ)) → k < length m → joined (take (suc k) m) ≡ joined (take k m) ++ get_or m k []
unfolding joined
joined_more k m h = ap joined (take-suc m k [] h) ∙ joined_append (take k m) (get_or m k [] ∷ []) ∙ ap (λ (z : List ℤ). joined (take k m) ++ z) (append-nil (get_or m k []))

-- the first k results
length_results : (l : List (List ℤ)) (k : ℕ) → k ≤ length l → length (joined (take k (mix l))) ≡ 80 * k
unfolding joined
length_results l zero h = refl
length_results l (suc k) h =
    let e : length (joined (take k (mix l)) ++ get_or (mix l) k []) ≡ 80 * k + 80 =
    length-append (joined (take k (mix l))) (get_or (mix l) k []) ∙ rw (length_results l k (omega arith), mix_at l k h, length_heard l k) in
    ap length (joined_more k (mix l) (omega (arith, length_mix l))) ∙ e ∙ omega arith

-- what the loop writes of a leg is what it heard
less_heard : (l t : List ℤ) (k : ℕ) → k < length l / 80 → t ≡ tab 80 (λ i. sum i (legs_of l)) → tab 80 (λ i. sat16 (at t i -ℤ at l (80 * k + i))) ≡ heard (legs_of l) k
unfolding heard
less_heard l t k h e = tab_same 80 (λ i. sat16 (at t i -ℤ at l (80 * k + i))) (λ i. sat16 (sum i (others k (legs_of l)))) go
  where
    go : (i : ℕ) → i < 80 → sat16 (at t i -ℤ at l (80 * k + i)) ≡ sat16 (sum i (others k (legs_of l)))
    go i b =
        let g : at t i ≡ sum i (legs_of l) = ap (λ (x : List ℤ). at x i) e ∙ at_tab (λ i. sum i (legs_of l)) 80 i b in
        rw (g, ← sample_at l k i h b) (ap sat16 (sym (sum_others i k (legs_of l) (omega (arith, length_legs l)))))

paste_behind : (p q d : List ℤ) (n : ℕ) → length p ≡ n → length q ≡ 80 → paste (p ++ drop n d) n q 80 ≡ p ++ q ++ drop (n + 80) d
paste_behind p q d n h b =
    let e : n + 80 ≡ length p + 80 = omega (arith, h) in
    rw (take_at p (drop n d) n h, take_all 80 q (omega (arith, b))) (ap (λ (z : List ℤ). p ++ q ++ z) (ap (λ (k : ℕ). drop k (p ++ drop n d)) e ∙ drop-append-add p (drop n d) 80 ∙ drop-drop 80 n d))

pub heard_turn : (l t d out r : List ℤ) (k p : ℕ) → k < length l / 80 → p ≡ 80 * k → t ≡ tab 80 (λ i. sum i (legs_of l)) → Heard l d k out
    → r ≡ paste out p (tab 80 (λ i. sat16 (at t i -ℤ at l (p + i)))) 80 → Heard l d (k + 1) r
heard_turn l t d out r k p h q e w g =
    let n : k < length (legs_of l) = omega (arith, length_legs l) in
    let own : List ℤ = heard (legs_of l) k in
    let before : List ℤ = joined (take k (mix (legs_of l))) in
    let place : 80 * k + 80 ≡ 80 * (k + 1) = omega arith in
    let more : before ++ own ≡ joined (take (k + 1) (mix (legs_of l))) =
    ap (λ (x : List ℤ). before ++ x) (sym (mix_at (legs_of l) k n)) ∙ sym (joined_more k (mix (legs_of l)) (omega (arith, length_mix (legs_of l)))) ∙ ap (λ (j : ℕ). joined (take j (mix (legs_of l)))) (sym (add-one k)) in
    g ∙ rw (q, w, less_heard l t k h e)
    (paste_behind before own d (80 * k) (length_results (legs_of l) k (omega arith)) (length_heard (legs_of l) k) ∙ ap (λ (j : ℕ). before ++ own ++ drop j d) place ∙ ap (λ (x : List ℤ). x ++ drop (80 * (k + 1)) d) more)

pub done : (l d r : List ℤ) → mix_call l d ≡ mixed 0 r → Done l d r
unfolding mix_call
done l d r e = go (refusal (length l) (length d)) refl (eqb (refusal (length l) (length d)) 0) refl e
  where
    go : (n : ℕ) → n ≡ refusal (length l) (length d) → (t : Bool) → eqb n 0 ≡ t → cond t (mixed 0 (joined (mix (legs_of l)))) (mixed n d) ≡ mixed 0 r → Done l d r
    go n f true z g =
        let h = taken l d n f (eqb-true n 0 z) in
        let q : r ≡ joined (mix (legs_of l)) = cc in
        record { whole = h.0; lent = h.1; results = q }
    go n f false z g = let q : n ≡ 0 = cc in absurd (eqb-false n 0 z q)

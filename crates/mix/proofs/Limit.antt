-- Where the limit of 16 bits acts (change request 10): never with two legs, and with three of full size. Assumes nothing.
use Rattle.std.specs.Prelude.{◌≡◌, List, [], ◌∷◌, ◌++◌, ℕ, zero, suc, ◌+◌, ◌*◌, ◌/◌, ◌<◌, ◌≤◌, ℤ, negsuc, ◌+ℤ◌, length, get_or, take, drop}
use Rattle.std.proofs.Common.{sym, ◌∙◌, append-nil, arith, length-drop, length-take-le, get_or-take, get_or-drop}
use Rattle.std.proofs.Math.Path.{ap}
use Rattle.std.proofs.Math.IntN.{pos, +ℤ_idr}
use Rattle.std.proofs.Math.Seq.{take_all}
use Rattle.std.specs.Int.Signed.{mag}
use Rattle.laws.specs.Lists.{at, tab, at_tab, tab_at, tab_same, upto}
use Rattle.basic_op.specs.Ops.{sat, sat16}
use Rattle.basic_op.specs.Laws.{sat_id}
use Rattle.mix.specs.Mix.{sum, others, heard, mix, frames, legs_of, joined, whole, refusal, mixed, mix_call}
use Rattle.mix.specs.Laws.{Samples, mix_at, sample_at, legs_results, length_done}
use Rattle.mix.proofs.Laws.{done}
use Rattle.mix.specs.Limit.{Alike}

module _ (x : List ℤ) (long : length x ≡ 80) (s : Samples x) where
  alone : tab 80 (λ i. sat16 (sum i (x ∷ []))) ≡ x
  unfolding sum
  alone =
      tab_same 80 (λ i. sat16 (at x i +ℤ pos 0)) (at x) (λ i b. ap sat16 (+ℤ_idr (at x i)) ∙ sat_id 32767 (at x i) (omega (arith, s.each i)))
      ∙ tab_at x 80 (omega (arith, long)) ∙ take_all 80 x (omega (arith, long))

pub two : (x y : List ℤ) → length x ≡ 80 → length y ≡ 80 → Samples x → Samples y → mix (x ∷ (y ∷ [])) ≡ y ∷ (x ∷ [])
unfolding mix heard upto
two x y a b s t = let e = alone y b t in let f = alone x a s in λ i. e i ∷ (f i ∷ [])

-- what is added for each leg there
pub exact : (x y z : List ℤ) (i k : ℕ) (v : ℤ) → k < 3 → Alike x y z i v → sum i (others k (x ∷ (y ∷ (z ∷ [])))) ≡ v +ℤ v
unfolding sum
exact x y z i zero v h a = rw (a.second, a.third, +ℤ_idr v)
exact x y z i (suc zero) v h a = rw (a.first, a.third, +ℤ_idr v)
exact x y z i (suc (suc zero)) v h a = rw (a.first, a.second, +ℤ_idr v)
exact x y z i (suc (suc (suc k))) v h a = absurd (omega arith)

limited : (x y z : List ℤ) (i k : ℕ) (v : ℤ) → i < 80 → k < 3 → Alike x y z i v → at (get_or (mix (x ∷ (y ∷ (z ∷ [])))) k []) i ≡ sat16 (v +ℤ v)
unfolding heard
limited x y z i k v b h a =
    let l : List (List ℤ) = x ∷ (y ∷ (z ∷ [])) in
    ap (λ (r : List ℤ). at r i) (mix_at l k h) ∙ at_tab (λ i. sat16 (sum i (others k l))) 80 i b ∙ ap sat16 (exact x y z i k v h a)

-- 32767: the exact sum is 65534, each heard 32767
pub three_high : (x y z : List ℤ) (i k : ℕ) → i < 80 → k < 3 → Alike x y z i (pos 32767)
    → (sum i (others k (x ∷ (y ∷ (z ∷ [])))) ≡ pos 65534) × (at (get_or (mix (x ∷ (y ∷ (z ∷ [])))) k []) i ≡ pos 32767)
unfolding sat
three_high x y z i k b h a = (exact x y z i k (pos 32767) h a, limited x y z i k (pos 32767) b h a)

-- -32768: the exact sum is -65536, each heard -32768
pub three_low : (x y z : List ℤ) (i k : ℕ) → i < 80 → k < 3 → Alike x y z i (negsuc 32767)
    → (sum i (others k (x ∷ (y ∷ (z ∷ [])))) ≡ negsuc 65535) × (at (get_or (mix (x ∷ (y ∷ (z ∷ [])))) k []) i ≡ negsuc 32767)
unfolding sat
three_low x y z i k b h a = (exact x y z i k (negsuc 32767) h a, limited x y z i k (negsuc 32767) b h a)

pub two_call : (l before : List ℤ) → length l ≡ 160 → length before ≡ 160 → Samples l → mix_call l before ≡ mixed 0 (drop 80 l ++ take 80 l)
unfolding mix_call refusal whole legs_of frames joined
two_call l before h b s =
    rw (h, b, two (take 80 l) (take 80 (drop 80 l)) first second (front 80 l s) (front 80 (drop 80 l) behind), append-nil, take_all 80 (drop 80 l) rest)
  where
    rest : length (drop 80 l) ≤ 80
    rest = rw length-drop (omega (arith, h))

    first : length (take 80 l) ≡ 80
    first = length-take-le 80 l (omega (arith, h))

    second : length (take 80 (drop 80 l)) ≡ 80
    second = length-take-le 80 (drop 80 l) (rw length-drop (omega (arith, h)))

    behind : Samples (drop 80 l)
    behind = record { each = λ i. rw get_or-drop (s.each (80 + i)) }

    front : (n : ℕ) (l : List ℤ) → Samples l → Samples (take n l)
    front zero l s = record { each = λ i. omega arith }
    front (suc n) [] s = s
    front (suc n) (x ∷ l) s = record { each = go (front n l (record { each = λ i. s.each (suc i) })) }
      where
        go : Samples (take n l) → (i : ℕ) → mag (at (x ∷ take n l) i) < 32768
        go t zero = s.each 0
        go t (suc i) = t.each i

-- three legs with one sample at a place: the limited double of it
three_call : (l d r : List ℤ) (i k : ℕ) (v : ℤ) → length l ≡ 240 → mix_call l d ≡ mixed 0 r → i < 80 → k < 3 → at l i ≡ v → at l (80 + i) ≡ v → at l (160 + i) ≡ v
    → at r (80 * k + i) ≡ sat16 (v +ℤ v)
unfolding legs_of frames
three_call l d r i k v h e b c p q s =
    let w = done l d r e in
    let n : k < length r / 80 = omega (arith, length_done l d r w) in
    sym (sample_at r k i n b) ∙ ap (λ (m : List (List ℤ)). at (get_or m k []) i) (legs_results l d r w ∙ ap mix legs)
    ∙ limited (take 80 l) (take 80 (drop 80 l)) (take 80 (drop 80 (drop 80 l))) i k v b c alike
  where
    legs : legs_of l ≡ take 80 l ∷ (take 80 (drop 80 l) ∷ (take 80 (drop 80 (drop 80 l)) ∷ []))
    legs = rw h

    alike : Alike (take 80 l) (take 80 (drop 80 l)) (take 80 (drop 80 (drop 80 l))) i v
    alike = record {
      first = get_or-take 80 l i (pos 0) b ∙ p;
      second = get_or-take 80 (drop 80 l) i (pos 0) b ∙ get_or-drop 80 l i (pos 0) ∙ q;
      third = get_or-take 80 (drop 80 (drop 80 l)) i (pos 0) b ∙ get_or-drop 80 (drop 80 l) i (pos 0) ∙ get_or-drop 80 l (80 + i) (pos 0) ∙ ap (at l) far ∙ s;
    }
      where
        far : 80 + (80 + i) ≡ 160 + i
        far = omega arith

pub three_high_call : (l d r : List ℤ) (i k : ℕ) → length l ≡ 240 → mix_call l d ≡ mixed 0 r → i < 80 → k < 3 → at l i ≡ pos 32767 → at l (80 + i) ≡ pos 32767 → at l (160 + i) ≡ pos 32767
    → at r (80 * k + i) ≡ pos 32767
unfolding sat
three_high_call l d r i k h e b c p q s = three_call l d r i k (pos 32767) h e b c p q s

pub three_low_call : (l d r : List ℤ) (i k : ℕ) → length l ≡ 240 → mix_call l d ≡ mixed 0 r → i < 80 → k < 3 → at l i ≡ negsuc 32767 → at l (80 + i) ≡ negsuc 32767 → at l (160 + i) ≡ negsuc 32767
    → at r (80 * k + i) ≡ negsuc 32767
unfolding sat
three_low_call l d r i k h e b c p q s = three_call l d r i k (negsuc 32767) h e b c p q s

-- Laws of blocks: how many words a part and a written block have, what is read of a block by parts, and what is written. Assumes nothing.
use Rattle.std.specs.Prelude.{◌≡◌, refl, Bool, true, false, List, [], ◌∷◌, ◌++◌, ℕ, suc, ◌+◌, ◌^◌, ◌-◌, ◌≤◌, ◌<◌, min, leb, ltb, ℤ, pos, length, take, drop, set, replicate}
use Rattle.std.proofs.Common.{ap, sym, ◌∙◌, append-nil, add-zero, add-one, arith, le-leb, leb-true, leb-false, ltb-true, ltb-false, eq-eqb, length-append, ne_eqb, length-drop, take-append-drop, drop_of_length-le, take_all, take_at, drop_at, drop-drop, drop-cons, get_or-drop}
use Rattle.std.proofs.lemmas.Bool.{lt-leb}
use Rattle.std.proofs.Math.ListN.{get_or-eq_default}
use Rattle.std.proofs.Math.Seq.{take-length, append_snoc, paste, paste-suc}
use Rattle.std.proofs.lemmas.List.{set_split, ext_get_or, length-replicate, get_or_append_left, get_or-append_right}
use Rattle.std.proofs.lemmas.List.Edits.{length-paste, take-paste}
use Rattle.std.specs.Int.Signed.{mag}
use Rattle.std.specs.Int.{Width}
use mir.Val.{to_z, of_z, hbits}
use Rattle.laws.specs.Lists.{at, at_tab, at_zeros, tab_ext, length_tab, tab_part, whole}
use Rattle.laws.specs.Back.{via}
use Rattle.block.specs.Block.{part, put, copy}

-- ---- parts

pub length_part : (b : List ℤ) (from n : ℕ) → length (part b from n) ≡ n
unfolding part
length_part b from n = length_tab n _

-- past the end every place reads the same
pub part_past : (b : List ℤ) (from n : ℕ) → length b ≤ from → part b (length b) n ≡ part b from n
unfolding part
part_past b from n h = tab_ext n _ _ (λ k. get_or-eq_default b (pos 0) (omega arith) ∙ sym (get_or-eq_default b (pos 0) (omega arith)))

-- from the block's end at the furthest
pub part_from : (b : List ℤ) (from n : ℕ) → part b (min from (length b)) n ≡ part b from n
part_from b from n = go (leb (length b) from) refl
  where
    go : (t : Bool) → leb (length b) from ≡ t → part b (min from (length b)) n ≡ part b from n
    go true e =
        let h : length b ≤ from = leb-true _ _ e in
        let k : min from (length b) ≡ length b = omega arith in
        rw k (part_past b from n h)
    go false e =
        let h : from < length b = leb-false _ _ e in
        let k : min from (length b) ≡ from = omega arith in
        rw k

-- where the block ends before the part does, zeros follow
pub part_short : (b : List ℤ) (from n : ℕ) → from ≤ length b → length b ≤ from + n → part b from n ≡ drop from b ++ replicate (from + n - length b) (pos 0)
unfolding part
part_short b from n h k =
    ext_get_or (pos 0) _ _ (simp (length-append, length-drop, length-replicate) (omega (arith, length_tab n (λ i. at b (from + i))))) (λ i l. at_tab (λ i. at b (from + i)) n i (omega (arith, length_tab n (λ i. at b (from + i)))) ∙ go i (ltb (from + i) (length b)) refl)
  where
    go : (i : ℕ) (t : Bool) → ltb (from + i) (length b) ≡ t → at b (from + i) ≡ at (drop from b ++ replicate (from + n - length b) (pos 0)) i
    go i true e =
        let q : from + i < length b = ltb-true _ _ e in
        sym (get_or_append_left (drop from b) (replicate (from + n - length b) (pos 0)) (pos 0) i (simp length-drop (omega arith)) ∙ get_or-drop from b i (pos 0))
    go i false e =
        let q : length b ≤ from + i = ltb-false _ _ e in
        get_or-eq_default b (pos 0) q ∙ sym (get_or-append_right (drop from b) (replicate (from + n - length b) (pos 0)) (length b - from) i (pos 0) (simp length-drop (omega arith)) (omega arith) ∙ at_zeros (from + n - length b) (i - (length b - from)))

-- ---- a block by its parts, from the front: what the next part is, and what is behind it

pub front_part : (m n : ℕ) (b x q : List ℤ) → m + n ≤ length b → length x ≡ n → drop m b ≡ x ++ q → (part b m n ≡ x) × (drop (m + n) b ≡ q)
unfolding part
front_part m n b x q g h e = (tab_part b m n g ∙ rw e (take_at x q n h), sym (drop-drop n m b) ∙ rw e (drop_at x q n h))

pub front_word : (m : ℕ) (b : List ℤ) (z : ℤ) (q : List ℤ) → drop m b ≡ z ∷ q → (at b m ≡ z) × (drop (m + 1) b ≡ q)
front_word m b z q e =
    (ap (λ (k : ℕ). at b k) (sym (add-zero m)) ∙ sym (get_or-drop m b 0 (pos 0)) ∙ ap (λ (l : List ℤ). at l 0) e, sym (drop-drop 1 m b) ∙ ap (drop 1) e)

-- ---- and from the back: a part in front of what is behind it

pub back_part : (m n : ℕ) (b q : List ℤ) → m + n ≤ length b → q ≡ drop (m + n) b → part b m n ++ q ≡ drop m b
unfolding part
back_part m n b q h e = rw (tab_part b m n h, e, ← drop-drop n m b) (take-append-drop n (drop m b))

pub back_word : (m : ℕ) (b q : List ℤ) → m < length b → q ≡ drop (m + 1) b → at b m ∷ q ≡ drop m b
back_word m b q h e = rw (e, add-one, ← drop-cons b m (pos 0))

pub last_part : (m n : ℕ) (b : List ℤ) → length b ≡ m + n → part b m n ≡ drop m b
unfolding part
last_part m n b h = tab_part b m n (omega arith) ∙ take_all n (drop m b) (simp length-drop (omega arith))

-- ---- a block that is written

-- with room, and without
pub put_room : (b v : List ℤ) (n : ℕ) → n + length v ≤ length b → put b n v ≡ paste b n v (length v)
unfolding put
put_room b v n h = rw (le-leb (n + length v) (length b) h, take-length v)

pub put_none : (b v : List ℤ) (n : ℕ) → length b < n + length v → b ≡ put b n v
unfolding put
put_none b v n h = rw (lt-leb (n + length v) (length b) h)

pub length_put : (b v : List ℤ) (n : ℕ) → length (put b n v) ≡ length b
length_put b v n = go (leb (n + length v) (length b)) refl
  where
    go : (t : Bool) → leb (n + length v) (length b) ≡ t → length (put b n v) ≡ length b
    go true e = let h : n + length v ≤ length b = leb-true _ _ e in rw (put_room b v n h) (length-paste b n v (length v) h (omega arith))
    go false e = ap length (sym (put_none b v n (leb-false _ _ e)))

-- one word
pub put_one : (b : List ℤ) (n : ℕ) (z : ℤ) → n < length b → set b n z ≡ put b n (z ∷ [])
unfolding put
put_one b n z h = rw (le-leb (n + 1) (length b) (omega arith), add-one) (set_split b n z h ∙ sym (append_snoc (take n b) z (drop (suc n) b)))

-- the whole of it
pub copy_all : (b v : List ℤ) → length b ≡ length v → v ≡ copy b v
unfolding copy
copy_all b v h = rw (eq-eqb _ _ h)

pub put_all : (b v : List ℤ) → length b ≡ length v → put b 0 v ≡ copy b v
unfolding put copy
put_all b v h =
    let e : drop (0 + length v) b ≡ [] = drop_of_length-le b {i = 0 + length v} (omega arith) in
    rw (le-leb (0 + length v) (length b) (omega arith), eq-eqb _ _ h, e) (append-nil v)

pub copy_none : (b v : List ℤ) → (length b ≡ length v → ⊥) → b ≡ copy b v
unfolding copy
copy_none b v h = rw (ne_eqb _ _ h)

-- what stands up to the end of the words that are written
pub put_front : (b v o : List ℤ) (n m : ℕ) → o ≡ put b n v → length v ≡ m → n + m ≤ length b → take (n + m) o ≡ take n b ++ v
put_front b v o n m e h g =
    let r : n + length v ≤ length b = omega arith in
    rw (e, put_room b v n r, ← h, take-paste b n v (length v) (omega arith) (omega arith), take-length v)

-- ---- a block that is written from its front, a part at a time

-- b has `size` words, of which the first n are p
pub record Front (size : ℕ) (b : List ℤ) (n : ℕ) (p : List ℤ) : Type 0 where
  pub words : take n b ≡ p
  pub whole : length b ≡ size

-- nothing is written yet
pub front_none : {size : ℕ} (b : List ℤ) → length b ≡ size → Front size b 0 []
front_none b h = record { words = refl; whole = h }

-- the m words v more
pub front_more : {size n : ℕ} {b o p : List ℤ} (v : List ℤ) (m : ℕ) → Front size b n p → o ≡ put b n v → length v ≡ m → n + m ≤ size → Front size o (n + m) (p ++ v)
front_more {n = n} {b = b} {o = o} v m f e h g =
    record { words = put_front b v o n m e h (omega (arith, f.whole)) ∙ rw f.words; whole = rw e (length_put b v n ∙ f.whole) }

-- the word z more, which went through a local
pub front_one : {size n : ℕ} {b o p : List ℤ} (w : Width) (z : ℤ) → Front size b n p → o ≡ put b n (to_z w (of_z w z) ∷ []) → mag z < 2 ^ hbits w → n + 1 ≤ size
    → Front size o (n + 1) (p ++ (z ∷ []))
front_one w z f e h g = front_more (z ∷ []) 1 f (e ∙ rw (via w z h)) refl g

-- all are written
pub front_all : {size : ℕ} {b p : List ℤ} → Front size b size p → b ≡ p
front_all {size = size} {b = b} {p = p} f = whole p b size f.words f.whole

-- ---- the loop that writes v into b: one turn, and the end

pub paste_turn : (b v o : List ℤ) (n i : ℕ) (z : ℤ) → n + length v ≤ length b → i < length v → o ≡ paste b n v i → z ≡ at v i → set o (n + i) z ≡ paste b n v (i + 1)
paste_turn b v o n i z h k e g = rw (e, g) (paste-suc b n v i (pos 0) (omega arith) k ∙ rw add-one)

pub paste_put : (b v o : List ℤ) (n i : ℕ) → n + length v ≤ length b → o ≡ paste b n v i → i ≡ length v → o ≡ put b n v
paste_put b v o n i h e g = (rw g at e) ∙ sym (put_room b v n h)

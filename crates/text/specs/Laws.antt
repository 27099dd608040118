-- Laws of a text that is written part by part, and of texts compared by `==` and `starts_with`. Assumes nothing.
use Rattle.std.specs.Prelude.{◌≡◌, refl, Bool, List, [], ◌∷◌, ◌++◌, ℕ, ◌+◌, ◌-◌, ◌≤◌, ◌<◌, length, take, drop, set, nat_eq}
use Rattle.std.proofs.Common.{sym, ◌∙◌, append_assoc, append-nil, arith, add-zero, add_assoc, length-append, length-take, length-drop, take-append-drop, drop_of_length-le, drop-drop, take_all}
use Rattle.std.proofs.lemmas.List.Edits.{sets-eq}
use Rattle.std.proofs.Math.Seq.{take-append_seam, drop-append-add, take-length}
use Rattle.std.proofs.lemmas.Bool.Decides.{same_from_decides, Decides-eqb}
use Rattle.std.proofs.lemmas.Slice.Eq.{slice_eq-Decides}
use Rattle.std.specs.Bool.{Decides}
use Rattle.std.specs.Cmp.Lexicographic.{pointwise}
use Rattle.laws.specs.Bytes.{same, same_self, same_true}
use Rattle.text.specs.Text.{written, Put}

-- what `==` of two slices tells
pub equal_same : (l m : List ℕ) (r : Bool) → r ≡ pointwise nat_eq l m → r ≡ same l m
equal_same l m r e = same_from_decides r (same l m) (slice_eq-Decides Decides-eqb l m r e) (same_true l m, λ z. rw z (same_self m))

-- and in the other order
pub equal_same' : (l m : List ℕ) (r : Bool) → r ≡ pointwise nat_eq m l → r ≡ same l m
equal_same' l m r e =
    let d : Decides r (m ≡ l) = slice_eq-Decides Decides-eqb m l r e in
    same_from_decides r (same l m) (λ z. sym (d.0 z), λ z. d.1 (sym z)) (same_true l m, λ z. rw z (same_self m))

-- lent bytes keep their number
pub kept : {s lent out : List ℕ} {from r : ℕ} → Put s from lent r out → length out ≡ length lent
unfolding written
kept {s} {lent} {out} {from} p = rw p.bytes (simp (length-append, length-take, length-drop) (omega (arith, p.room)))

-- a part behind another: the two are one
pub then : {p q lent y out : List ℕ} {from m r : ℕ} → Put p from lent m y → Put q m y r out → Put (p ++ q) from lent r out
unfolding written
then {p} {q} {lent} {y} {out} {from} {m} {r} a b =
    let h : List ℕ = take from lent ++ p in
    let d : List ℕ = drop (from + length p) lent in
    let f : from + length p ≤ length lent = a.room in
    let n : length h ≡ m = simp (length-append, length-take) (omega (arith, a.place)) in
    let e : y ≡ h ++ d = a.bytes in
    let w : length y ≡ length lent = kept a in
    let t : take m y ≡ h = rw (e, ← n) (take-append_seam h d) in
    let u : drop (m + length q) y ≡ drop (from + length (p ++ q)) lent =
    rw (e, ← n, drop-append-add h d (length q), drop-drop (length q) (from + length p) lent, length-append p q, add_assoc) in
    record {
      room = rw length-append (omega (arith, b.room, a.place));
      place = rw length-append (omega (arith, a.place, b.place));
      bytes = b.bytes ∙ rw (t, u) (simp append_assoc);
    }

-- a part at the front of memory that was just lent
pub begun : {s lent l out : List ℕ} {a r : ℕ} → (a ≡ 0) × (l ≡ lent) → Put s a l r out → Put s 0 lent r out
begun {s} {lent} {l} {out} {a} {r} e p = rw (e.0, e.1) at p

-- no part
pub nothing : (lent : List ℕ) (from : ℕ) → from ≤ length lent → Put [] from lent from lent
unfolding written
nothing lent from h = record { room = omega arith; place = omega arith; bytes = sym (rw (add-zero, append-nil) (take-append-drop from lent)) }

-- one byte
pub one : (lent : List ℕ) (from v r : ℕ) → from < length lent → r ≡ from + 1 → Put (v ∷ []) from lent r (set lent from v)
unfolding written
one lent from v r h e = record { room = omega arith; place = omega arith; bytes = sets-eq (v ∷ []) lent from (omega arith) }

-- two bytes, and four
pub two : (lent : List ℕ) (from m r a b : ℕ) → m ≡ from + 1 → r ≡ from + 2 → r ≤ length lent → Put (a ∷ b ∷ []) from lent r (set (set lent from a) m b)
two lent from m r a b e f h =
    let p : Put (a ∷ []) from lent m (set lent from a) = one lent from a m (omega arith) e in
    then p (one (set lent from a) m b r (omega (arith, kept p)) (omega arith))

pub four : (lent : List ℕ) (from a b c d : ℕ) → from + 4 ≤ length lent
    → Put (a ∷ b ∷ c ∷ d ∷ []) from lent (from + 4) (set (set (set (set lent from a) (from + 1) b) (from + 2) c) (from + 3) d)
four lent from a b c d h =
    let p : Put (a ∷ b ∷ []) from lent (from + 2) (set (set lent from a) (from + 1) b) = two lent from (from + 1) (from + 2) a b refl refl (omega arith) in
    then p (two _ (from + 2) (from + 3) (from + 4) c d (omega arith) (omega arith) (omega (arith, kept p)))

-- a part copied to a place, as `octets::copy` leaves the lent bytes from that place on
pub copied : (s lent v : List ℕ) (from r : ℕ) → from + length s ≤ length lent → r ≡ length s
    → v ≡ take (length s) s ++ drop (length s) (take (length lent - from) (drop from lent))
    → Put s from lent (from + r) (take from lent ++ (v ++ drop (length lent - from) (drop from lent)))
unfolding written
copied s lent v from r h e g =
    let d : List ℕ = drop from lent in
    let n : length d ≡ length lent - from = length-drop from lent in
    let t : take (length lent - from) d ≡ d = take_all (length lent - from) d (omega arith) in
    let k : drop (length lent - from) d ≡ [] = drop_of_length-le d {i = length lent - from} (omega arith) in
    record {
      room = h;
      place = rw e;
      bytes = rw (g, t, k, append-nil, take-length, drop-drop (length s) from lent) (sym (append_assoc (take from lent) s _));
    }

-- What two frames' words of excitation leave: nothing of the words before them. Assumes nothing.
use Rattle.std.specs.Prelude.{ℕ, ◌+◌, ◌≡◌, Bool, List, ◌++◌, ℤ, length, take, drop}
use Rattle.std.proofs.Common.{sym, ap, subst, ◌∙◌, append_assoc, arith, length-append, length-drop, length-take, take-append-drop, take_at, drop_at}
use Rattle.std.proofs.lemmas.List.{drop-append-le}
use Rattle.std.proofs.Math.Seq.{drop-append-add}
use Rattle.inverse.specs.Inverse.{shrunk, shrunk_before, window_words}
use Rattle.inverse.specs.Window.{LeftByOne, LeftByTwo, length_shrunk, shrunk_append}

-- a subframe at place n that is shrunk divides the n words before it
before_at : (h : Bool) (n : ℕ) (l r : List ℤ) → length l ≡ n → shrunk_before h n (l ++ r) ≡ shrunk h l ++ r
unfolding shrunk_before
before_at h n l r e = rw (take_at l r n e, drop_at l r n e)

window_parts : (h2 h3 h4 : Bool) (e1 e2 e3 e4 : List ℤ) → length e1 ≡ 40 → length e2 ≡ 40 → length e3 ≡ 40
    → window_words h2 h3 h4 ((e1 ++ e2) ++ (e3 ++ e4)) ≡ drop 6 (shrunk h4 (shrunk h3 (shrunk h2 e1 ++ e2) ++ e3) ++ e4)
unfolding window_words
window_parts h2 h3 h4 e1 e2 e3 e4 l1 l2 l3 =
    ap (λ (w : List ℤ). drop 6 (shrunk_before h4 120 (shrunk_before h3 80 w))) one
    ∙ ap (λ (w : List ℤ). drop 6 (shrunk_before h4 120 w)) two ∙ ap (drop 6) three
  where
    w2 : List ℤ
    w2 = shrunk h2 e1 ++ e2

    w3 : List ℤ
    w3 = shrunk h3 w2 ++ e3

    long2 : length w2 ≡ 80
    long2 = simp (length-append, length_shrunk, l1, l2)

    long3 : length w3 ≡ 120
    long3 = simp (length-append, length_shrunk, l1, l2, l3)

    one : shrunk_before h2 40 ((e1 ++ e2) ++ (e3 ++ e4)) ≡ w2 ++ (e3 ++ e4)
    one = ap (shrunk_before h2 40) (append_assoc e1 e2 (e3 ++ e4)) ∙ before_at h2 40 e1 (e2 ++ (e3 ++ e4)) l1 ∙ sym (append_assoc (shrunk h2 e1) e2 (e3 ++ e4))

    two : shrunk_before h3 80 (w2 ++ (e3 ++ e4)) ≡ w3 ++ e4
    two = before_at h3 80 w2 (e3 ++ e4) long2 ∙ sym (append_assoc (shrunk h3 w2) e3 e4)

    three : shrunk_before h4 120 (w3 ++ e4) ≡ shrunk h4 w3 ++ e4
    three = before_at h4 120 w3 e4 long3

drop_seam : (l r : List ℤ) → length l ≡ 74 → drop 80 (l ++ r) ≡ drop 6 r
drop_seam l r e = subst (λ (n : ℕ). drop (n + 6) (l ++ r) ≡ drop 6 r) e (drop-append-add l r 6)

-- of the words before two frames none is left
window_is : (h1 h2 h3 h4 : Bool) (p e1 e2 e3 e4 : List ℤ) → length p ≡ 154
    → drop 80 (shrunk h4 (shrunk h3 (drop 80 (shrunk h2 (shrunk h1 p ++ e1) ++ e2)) ++ e3) ++ e4) ≡ drop 6 (shrunk h4 (shrunk h3 (shrunk h2 e1 ++ e2) ++ e3) ++ e4)
window_is h1 h2 h3 h4 p e1 e2 e3 e4 h =
    ap (λ (x : List ℤ). drop 80 (shrunk h4 (shrunk h3 (drop 80 x) ++ e3) ++ e4)) early
    ∙ ap (λ (x : List ℤ). drop 80 (shrunk h4 (shrunk h3 x ++ e3) ++ e4)) (drop-append-le 80 q w (omega (arith, long)))
    ∙ ap (drop 80) late
    ∙ drop_seam (shrunk h4 (shrunk h3 r)) (shrunk h4 (shrunk h3 w ++ e3) ++ e4) short
  where
    q : List ℤ
    q = shrunk h2 (shrunk h1 p)

    w : List ℤ
    w = shrunk h2 e1 ++ e2

    r : List ℤ
    r = drop 80 q

    long : length q ≡ 154
    long = length_shrunk h2 (shrunk h1 p) ∙ length_shrunk h1 p ∙ h

    short : length (shrunk h4 (shrunk h3 (drop 80 q))) ≡ 74
    short = length_shrunk h4 (shrunk h3 (drop 80 q)) ∙ length_shrunk h3 (drop 80 q) ∙ simp length-drop (omega (arith, long))

    early : shrunk h2 (shrunk h1 p ++ e1) ++ e2 ≡ q ++ w
    early = ap (λ (x : List ℤ). x ++ e2) (shrunk_append h2 (shrunk h1 p) e1) ∙ append_assoc (shrunk h2 (shrunk h1 p)) (shrunk h2 e1) e2

    late : shrunk h4 (shrunk h3 (r ++ w) ++ e3) ++ e4 ≡ shrunk h4 (shrunk h3 r) ++ (shrunk h4 (shrunk h3 w ++ e3) ++ e4)
    late =
        ap (λ (x : List ℤ). shrunk h4 (x ++ e3) ++ e4) (shrunk_append h3 r w)
        ∙ ap (λ (x : List ℤ). shrunk h4 x ++ e4) (append_assoc (shrunk h3 r) (shrunk h3 w) e3)
        ∙ ap (λ (x : List ℤ). x ++ e4) (shrunk_append h4 (shrunk h3 r) (shrunk h3 w ++ e3))
        ∙ append_assoc (shrunk h4 (shrunk h3 r)) (shrunk h4 (shrunk h3 w ++ e3)) e4

-- a second frame of the words v, its subframes shrunk or not, behind a frame of the words w
pub two_left : (third fourth : Bool) (w v x : List ℤ) → length w ≡ 80 → length v ≡ 80 → LeftByOne w x
    → LeftByTwo (w ++ v) (drop 80 (shrunk fourth (shrunk third x ++ take 40 v) ++ drop 40 v))
two_left third fourth w v x l m o =
    record {
      second = o.second;
      third = third;
      fourth = fourth;
      is = ap (λ (y : List ℤ). drop 80 (shrunk fourth (shrunk third y ++ take 40 v) ++ drop 40 v)) o.is
          ∙ window_is o.first o.second third fourth o.before (take 40 w) (drop 40 w) (take 40 v) (drop 40 v) o.room
          ∙ sym (window_parts o.second third fourth (take 40 w) (drop 40 w) (take 40 v) (drop 40 v) (simp (length-take, l)) (simp (length-drop, l)) (simp (length-take, m)))
          ∙ ap (λ (y : List ℤ). window_words o.second third fourth (y ++ (take 40 v ++ drop 40 v))) (take-append-drop 40 w)
          ∙ ap (λ (y : List ℤ). window_words o.second third fourth (w ++ y)) (take-append-drop 40 v);
    }

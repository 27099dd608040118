-- The words of a frame as one list of 80. Assumes nothing.
use Prim.Native.Nat.{ℕ, zero, suc, ◌+◌, ◌≤◌, ◌<◌}
use mathlib.Core.Path.{◌≡◌, refl, sym, ap, ap₂, ◌∙◌}
use mathlib.Core.Bool.{cond}
use mathlib.Core.List.{List, [], ◌∷◌, ◌++◌, map, map-append, append_assoc, append-nil}
use native.Mathlib.Nat.{add-zero, add-suc}
use native.Mathlib.Omega.{arith}
use borrow.Author.Tests.{lt-ltb, le-ltb}
use lib.Dec.{ltb}
use lib.IntN.{ℤ}
use Rattle.laws.specs.Lists.{tab}
use Rattle.inverse.specs.Inverse.{inverse, subframe_words, frame_words, word}

map_tab : (g : ℤ → ℤ) (f : ℕ → ℤ) (n : ℕ) → map g (tab n f) ≡ tab n (λ k. g (f k))
unfolding tab
map_tab g f zero = refl
map_tab g f (suc n) = map-append g (tab n f) (f n ∷ []) ∙ ap (λ (l : List ℤ). l ++ (g (f n) ∷ [])) (map_tab g f n)

tab_append : (f : ℕ → ℤ) (m n : ℕ) → tab (m + n) f ≡ tab m f ++ tab n (λ k. f (m + k))
unfolding tab
tab_append f m zero = rw add-zero (sym (append-nil (tab m f)))
tab_append f m (suc n) = rw add-suc (ap (λ (l : List ℤ). l ++ (f (m + n) ∷ [])) (tab_append f m n) ∙ append_assoc (tab m f) (tab n (λ k. f (m + k))) (f (m + n) ∷ []))

tab_upto : (n : ℕ) (f g : ℕ → ℤ) → ((k : ℕ) → k < n → f k ≡ g k) → tab n f ≡ tab n g
unfolding tab
tab_upto zero f g h = refl
tab_upto (suc n) f g h = rw (tab_upto n f g (λ k b. h k (omega arith)), h n (omega arith))

-- word k of a frame: the first 40 are the first subframe's
unfoldable pub frame_word : List ℤ → List ℤ → List ℤ → ℕ → ℤ
frame_word a b y k = word (inverse (cond (ltb k 40) a b) y (10 + k))

pub first_word : (a b y : List ℤ) (k : ℕ) → k < 40 → frame_word a b y k ≡ word (inverse a y (10 + k))
unfolding frame_word
first_word a b y k h = rw (lt-ltb k 40 h)

pub second_word : (a b y : List ℤ) (k : ℕ) → 40 ≤ k → frame_word a b y k ≡ word (inverse b y (10 + k))
unfolding frame_word
second_word a b y k h = rw (le-ltb k 40 h)

pub all_words : (a b y : List ℤ) → tab 80 (frame_word a b y) ≡ map word (frame_words a b y)
unfolding frame_words subframe_words
all_words a b y =
    tab_append (frame_word a b y) 40 40
    ∙ ap₂ (λ (l r : List ℤ). l ++ r) (tab_upto 40 _ _ (λ k h. first_word a b y k h) ∙ sym (map_tab word (λ k. inverse a y (10 + k)) 40))
    (tab_upto 40 _ _ (λ k h. second_word a b y (40 + k) (omega arith) ∙ ap (λ (n : ℕ). word (inverse b y n)) (omega arith)) ∙ sym (map_tab word (λ k. inverse b y (50 + k)) 40))
    ∙ sym (map-append word (tab 40 (λ k. inverse a y (10 + k))) (tab 40 (λ k. inverse b y (50 + k))))

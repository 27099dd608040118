-- Laws of the printed forms: how long they are, how they are written part by part, and a printed sample or count read back. Assumes nothing.
use Rattle.std.specs.Prelude.{◌≡◌, refl, Bool, true, false, List, [], ◌∷◌, ◌++◌, ℕ, zero, suc, ◌+◌, ◌-◌, ◌*◌, ◌/◌, ◌%◌, ◌^◌, ◌≤◌, ◌<◌, ltb, ℤ, length, get_or, set}
use Rattle.std.proofs.Common.{sym, ◌∙◌, arith, add-one, zero-add, length-append, get_or-append-add, ltb-true, ltb-false, lt-ltb, le-ltb, to_z, SFits, to_z-of_z}
use Rattle.std.proofs.Math.ListN.{get_or-append}
use Rattle.std.specs.Int.{w16}
use Rattle.basic_op.specs.Ops.{low16}
use Rattle.basic_op.specs.Low.{low_lt, low_bits}
use Rattle.laws.specs.Lists.{at}
use Rattle.laws.specs.Digits.{value, value_digit}
use Rattle.count.specs.declared.Counts.{Counts}
use Rattle.text.specs.Text.{ascii, written, Put}
use Rattle.text.specs.Laws.{then, nothing, one}
use Rattle.print.specs.Print.{frame_least, frame_room, form_room, word, words, pcm, digits, decimal, figure, figures, refused, over}

-- ---- what is printed has room

pub length_words : (n : ℕ) (l : List ℤ) → length (words n l) ≡ 4 * n
unfolding words word
length_words zero l = refl
length_words (suc n) l = rw (length-append, length_words n l) (omega arith)

-- 320 digits in `(pcm )` and a line feed
pub length_pcm : (l : List ℤ) → length (pcm l) ≡ 327
unfolding pcm
length_pcm l = simp (length-append, length_words) (omega arith)

pub pcm_least : (l : List ℤ) → frame_least ≤ length (pcm l)
pcm_least l = omega (arith, length_pcm l)

pub pcm_room : (l : List ℤ) → length (pcm l) ≤ frame_room
pcm_room l = omega (arith, length_pcm l)

-- ---- a printed sample read back

-- the number of four digits
unfoldable pub number : List ℕ → ℕ
number l = 4096 * value (get_or l 0 0) + 256 * value (get_or l 1 0) + 16 * value (get_or l 2 0) + value (get_or l 3 0)

pub number_word : (n : ℕ) → n < 65536 → number (word n) ≡ n
unfolding number word
number_word n h =
    rw (
      value_digit (n / 4096) (omega arith),
      value_digit (n / 256 % 16) (omega arith),
      value_digit (n / 16 % 16) (omega arith),
      value_digit (n % 16) (omega arith),
    )
    (omega arith)

-- the four digits of a sample, read in two's complement, are the sample
pub sample_back : (z : ℤ) → SFits w16 z → to_z w16 (number (word (low16 z))) ≡ z
sample_back z f = rw (number_word (low16 z) (low_lt z), low_bits z f.sfits) (to_z-of_z f)

-- digit j of sample k
pub words_at : (n k j : ℕ) (l : List ℤ) → k < n → j < 4 → get_or (words n l) (4 * k + j) 0 ≡ get_or (word (low16 (at l k))) j 0
unfolding words
words_at zero k j l h i = absurd (omega arith)
words_at (suc n) k j l h i = by (ltb k n) refl (words_at n k j l)
  where
    by : (t : Bool) → ltb k n ≡ t → (k < n → j < 4 → get_or (words n l) (4 * k + j) 0 ≡ get_or (word (low16 (at l k))) j 0)
        → get_or (words n l ++ word (low16 (at l n))) (4 * k + j) 0 ≡ get_or (word (low16 (at l k))) j 0
    by true e g =
        let m : k < n = ltb-true _ _ e in
        get_or-append (words n l) (word (low16 (at l n))) 0 (4 * k + j) (omega (arith, length_words n l)) ∙ g m i
    by false e g =
        let m : k ≡ n = omega (arith, ltb-false k n e) in
        let q : 4 * k + j ≡ length (words n l) + j = omega (arith, length_words n l) in
        rw (q, get_or-append-add (words n l) (word (low16 (at l n))) j 0, m)

-- ---- decimal digits

digits_none : (n : ℕ) → digits 0 n ≡ []
unfolding digits
digits_none n = refl

digits_one : (j n : ℕ) → n < 10 → digits (suc j) n ≡ (48 + n) ∷ []
unfolding digits
digits_one j n h = rw (lt-ltb n 10 h)

digits_more : (j n : ℕ) → 10 ≤ n → digits (suc j) n ≡ digits j (n / 10) ++ ((48 + n % 10) ∷ [])
unfolding digits
digits_more j n h = rw (le-ltb n 10 h)

-- more than enough is enough
enough : (j k n : ℕ) → n < j → n < k → digits j n ≡ digits k n
enough zero k n h i = absurd (omega arith)
enough (suc j) zero n h i = absurd (omega arith)
enough (suc j) (suc k) n h i = by (ltb n 10) refl (enough j k (n / 10))
  where
    by : (p : Bool) → ltb n 10 ≡ p → (n / 10 < j → n / 10 < k → digits j (n / 10) ≡ digits k (n / 10)) → digits (suc j) n ≡ digits (suc k) n
    by true e f = let l : n < 10 = ltb-true _ _ e in digits_one j n l ∙ sym (digits_one k n l)
    by false e f =
        let l : 10 ≤ n = ltb-false _ _ e in
        digits_more j n l ∙ rw (f (omega arith) (omega arith)) (sym (digits_more k n l))

pub decimal_one : (n : ℕ) → n < 10 → decimal n ≡ (48 + n) ∷ []
unfolding decimal
decimal_one n h = digits_one n n h

pub decimal_more : (n : ℕ) → 10 ≤ n → decimal n ≡ decimal (n / 10) ++ ((48 + n % 10) ∷ [])
unfolding decimal
decimal_more n h = digits_more n n h ∙ rw (enough n (suc (n / 10)) (n / 10) (omega arith) (omega arith))

-- a number below the power of ten has no more digits
few : (j k n : ℕ) → n < 10 ^ suc k → length (digits j n) ≤ suc k
few zero k n h = rw (digits_none n) (omega arith)
few (suc j) k n h = by (ltb n 10) refl k h (few j)
  where
    by : (p : Bool) → ltb n 10 ≡ p → (k : ℕ) → n < 10 ^ suc k → ((i m : ℕ) → m < 10 ^ suc i → length (digits j m) ≤ suc i) → length (digits (suc j) n) ≤ suc k
    by true e k h f = rw (digits_one j n (ltb-true _ _ e)) (omega arith)
    by false e zero h f = let l : 10 ≤ n = ltb-false _ _ e in absurd (omega arith)
    by false e (suc k) h f =
        let l : 10 ≤ n = ltb-false _ _ e in
        let r : length (digits j (n / 10)) ≤ suc k = f k (n / 10) (omega arith) in
        rw (digits_more j n l, length-append) (omega arith)

pub decimal_few : (k n : ℕ) → n < 10 ^ suc k → length (decimal n) ≤ suc k
unfolding decimal
decimal_few k n h = few (suc n) k n h

-- all digits but the last are nine at most
pub but_last : (n : ℕ) → n < 2 ^ 32 → length (decimal (n / 10)) ≤ 9
but_last n h = decimal_few 8 (n / 10) (omega arith)

-- a number of 32 bits has ten at most
decimal_ten : (n : ℕ) → n < 2 ^ 32 → length (decimal n) ≤ 10
decimal_ten n h = decimal_few 9 n (omega arith)

-- so each last form has room: two numbers behind labels of 15 and 8 bytes, and `))` with a line feed
two_few : (a b : List ℕ) (m n : ℕ) → length a ≡ 15 → length b ≡ 8 → m < 2 ^ 32 → n < 2 ^ 32 → length (figure a m ++ figure b n ++ ascii "))\n") ≤ form_room
unfolding figure
two_few a b m n f g h k = simp length-append (omega (arith, decimal_ten m h, decimal_ten n k))

pub figures_room : (o : List ℕ) (c : Counts) → length o ≡ 15 → c.frames < 2 ^ 32 → c.lost < 2 ^ 32 → length (figures o c) ≤ form_room
unfolding figures
figures_room o c f h k = two_few o _ c.frames c.lost f refl h k

pub refused_room : (code line : ℕ) → code < 2 ^ 32 → line < 2 ^ 32 → length (refused code line) ≤ form_room
unfolding refused
refused_room code line h k = two_few _ _ code line refl refl h k

-- ---- the loops and parts

-- one sample more
pub word_more : (l : List ℤ) (n w : ℕ) {lent out next : List ℕ} {from m r : ℕ} → Put (words n l) from lent m out → w ≡ low16 (at l n) → Put (word w) m out r next
    → Put (words (n + 1) l) from lent r next
unfolding words
word_more l n w a e b = rw add-one (then a (rw e at b))

pub word_none : (l : List ℤ) (lent : List ℕ) (from : ℕ) → from ≤ length lent → Put (words 0 l) from lent from lent
unfolding words
word_none l lent from h = nothing lent from h

-- a number of one digit, and one digit behind the others
pub number_one : (n from : ℕ) (lent : List ℕ) → n < 10 → from < length lent → (from + 1 ≤ from + 10) × Put (decimal n) from lent (from + 1) (set lent from (48 + n))
number_one n from lent h i = (omega arith, rw (decimal_one n h) (one lent from (48 + n) (from + 1) i refl))

pub number_more : (n from last : ℕ) (lent out : List ℕ) → 10 ≤ n → n < 2 ^ 32 → last < length out → Put (decimal (n / 10)) from lent last out
    → (last + 1 ≤ from + 10) × Put (decimal n) from lent (last + 1) (set out last (48 + n % 10))
number_more n from last lent out h f i p = (
  omega (arith, but_last n f, p.place),
  rw (decimal_more n h) (then p (one out last (48 + n % 10) (last + 1) i refl)),
)

-- what is written from the front is written over it
pub front : {s lent out : List ℕ} {r : ℕ} → Put s 0 lent r out → (r ≡ length s) × (out ≡ over s lent)
unfolding over written
front {s} p = (p.place ∙ zero-add (length s), p.bytes ∙ rw zero-add)

pub over_fits : (s lent : List ℕ) {out : List ℕ} → out ≡ over s lent → length s ≤ length out
unfolding over
over_fits s lent e = rw (e, length-append) (omega arith)

-- the number whose decimal digits are those of a and then l
unfoldable pub read : ℕ → List ℕ → ℕ
read a [] = a
read a (d ∷ l) = read (10 * a + (d - 48)) l

read_last : (a : ℕ) (l : List ℕ) (d : ℕ) → read a (l ++ (d ∷ [])) ≡ 10 * read a l + (d - 48)
unfolding read
read_last a [] d = refl
read_last a (x ∷ l) d = read_last (10 * a + (x - 48)) l d

read_digits : (j n : ℕ) → n < j → read 0 (digits j n) ≡ n
unfolding read
read_digits zero n h = absurd (omega arith)
read_digits (suc j) n h = by (ltb n 10) refl (read_digits j (n / 10))
  where
    by : (p : Bool) → ltb n 10 ≡ p → (n / 10 < j → read 0 (digits j (n / 10)) ≡ n / 10) → read 0 (digits (suc j) n) ≡ n
    by true e f = rw (digits_one j n (ltb-true _ _ e)) (omega arith)
    by false e f =
        let l : 10 ≤ n = ltb-false _ _ e in
        rw (digits_more j n l, read_last, f (omega arith)) (omega arith)

-- the digits, read back, are the number
pub number_decimal : (n : ℕ) → read 0 (decimal n) ≡ n
unfolding decimal
number_decimal n = read_digits (suc n) n (omega arith)

head_more : (l r : List ℕ) → 48 < get_or l 0 0 → 48 < get_or (l ++ r) 0 0
head_more [] r h = absurd (omega arith)
head_more (x ∷ l) r h = h

head_digits : (j n : ℕ) → n < j → 0 < n → 48 < get_or (digits j n) 0 0
head_digits zero n h i = absurd (omega arith)
head_digits (suc j) n h i = by (ltb n 10) refl (head_digits j (n / 10))
  where
    by : (p : Bool) → ltb n 10 ≡ p → (n / 10 < j → 0 < n / 10 → 48 < get_or (digits j (n / 10)) 0 0) → 48 < get_or (digits (suc j) n) 0 0
    by true e f = rw (digits_one j n (ltb-true _ _ e)) (omega arith)
    by false e f =
        let l : 10 ≤ n = ltb-false _ _ e in
        rw (digits_more j n l) (head_more (digits j (n / 10)) _ (f (omega arith) (omega arith)))

-- the first digit of a number that is not 0 is no `0`
pub no_leading_zero : (n : ℕ) → 0 < n → 48 < get_or (decimal n) 0 0
unfolding decimal
no_leading_zero n h = head_digits (suc n) n (omega arith) h

-- the most frames of a call, as text
example : decimal 360000 ≡ 51 ∷ 54 ∷ 48 ∷ 48 ∷ 48 ∷ 48 ∷ []
unfolding decimal digits
example = refl

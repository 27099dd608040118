-- Laws of numbers in a file: the loops of `words`, and what was written read back. Assumes nothing.
use Rattle.std.specs.Prelude.{◌≡◌, refl, List, [], ◌∷◌, ◌++◌, ℕ, zero, suc, ◌+◌, ◌-◌, ◌*◌, ◌/◌, ◌%◌, ◌^◌, ◌≤◌, ◌<◌, min, Bool, true, false, leb, ℤ, pos, length, take, drop, get_or, set}
use Rattle.std.proofs.Common.{sym, ap, ◌∙◌, append_assoc, append-nil, leb-true, leb-false, arith, add-one, lt_of_lt_of_le, length-append, length-take, length-drop, drop_of_length-le, take-append-drop, take-suc, drop-cons, take_all, take_at, drop_at, take-suc-set, drop-set-lt, drop-drop, get_or-take, get_or-drop, pow-add, pow_mono, to_z-of_z}
use Rattle.std.proofs.Math.Nat.{pow-succ'}
use Rattle.std.specs.Int.{w16}
use Rattle.std.specs.Int.Signed.{mag}
use Rattle.std.proofs.Math.Seq.{append_snoc, take-length}
use Rattle.basic_op.specs.Ops.{low16, extract_l}
use Rattle.basic_op.specs.Low.{low_lt, low_bits}
use Rattle.laws.specs.Lists.{at, filled, tab_at}
use Rattle.words.specs.Words.{word, words, bytes, from_bytes, to_bytes, number, number_bytes, numbers_bytes, numbers, read_numbers, put_numbers, Bytes}

-- ---- bytes to words

pub length_words : (l : List ℕ) → length (words l) ≡ length l / 2
unfolding words
length_words [] = refl
length_words (a ∷ []) = refl
length_words (a ∷ b ∷ l) = ap suc (length_words l) ∙ omega arith

-- word k is that of bytes 2k and 2k + 1
at_words : (l : List ℕ) (k : ℕ) → 2 * k + 1 < length l → at (words l) k ≡ word (get_or l (2 * k) 0) (get_or l (2 * k + 1) 0)
unfolding words
at_words [] k h = absurd (omega arith)
at_words (a ∷ []) k h = absurd (omega arith)
at_words (a ∷ b ∷ l) zero h = refl
at_words (a ∷ b ∷ l) (suc k) h =
    at_words l k (omega arith) ∙ rw (two (2 * suc k) (2 * k) (omega arith), two (2 * suc k + 1) (2 * k + 1) (omega arith))
  where
    two : (m n : ℕ) → m ≡ suc (suc n) → get_or (a ∷ b ∷ l) m 0 ≡ get_or l n 0
    two m n e = rw e

-- what a turn of the loop writes
pub word_here : (l : List ℕ) (k : ℕ) (z : ℤ) → 2 * k + 1 < length l → z ≡ word (get_or l (2 * k) 0) (get_or l (2 * k + 1) 0) → z ≡ at (words l) k
word_here l k z h e = e ∙ sym (at_words l k h)

pub from_end : (l : List ℕ) (out z : List ℤ) (i : ℕ) → z ≡ filled (at (words l)) i out → i ≡ min (length l / 2) (length out) → z ≡ from_bytes l out
unfolding from_bytes filled
from_end l out z i e h = e ∙ rw (tab_at (words l) i (omega (arith, length_words l)), h)

-- as many bytes as the lent words have
pub from_whole : (l : List ℕ) (out : List ℤ) → length l ≡ 2 * length out → from_bytes l out ≡ words l
unfolding from_bytes
from_whole l out h =
    let n : min (length l / 2) (length out) ≡ length out = omega arith in
    rw (n, take_all (length out) (words l) (omega (arith, length_words l)), drop_of_length-le out {i = length out} (omega arith), append-nil)

-- ---- words to bytes

pub length_bytes : (l : List ℤ) → length (bytes l) ≡ 2 * length l
unfolding bytes
length_bytes [] = refl
length_bytes (z ∷ l) = rw (length_bytes l) (omega arith)

bytes_append : (l m : List ℤ) → bytes (l ++ m) ≡ bytes l ++ bytes m
unfolding bytes
bytes_append [] m = refl
bytes_append (z ∷ l) m = rw (bytes_append l m)

-- before turn i: the bytes of i words
unfoldable pub put : List ℤ → ℕ → List ℕ → List ℕ
put l i out = bytes (take i l) ++ drop (2 * i) out

pub put_none : (l : List ℤ) (out : List ℕ) → out ≡ put l 0 out
unfolding put bytes
put_none l out = refl

-- one turn: the bytes of word i over the two at its place
pub put_more : (l : List ℤ) (out z v : List ℕ) (i n : ℕ) → i < length l → 2 * i + 1 < length out → n ≡ 2 → z ≡ put l i out → v ≡ low16 (at l i) % 256 ∷ low16 (at l i) / 256 ∷ []
    → take (2 * i) z ++ (v ++ drop n (drop (2 * i) z)) ≡ put l (i + 1) out
unfolding put bytes
put_more l out z v i n h k m e g =
    let b : length (bytes (take i l)) ≡ 2 * i = length_bytes (take i l) ∙ rw length-take (omega arith) in
    let d : 2 * i + 2 ≡ 2 * (i + 1) = omega arith in
    let t : take (2 * i) z ≡ bytes (take i l) = rw e (take_at (bytes (take i l)) (drop (2 * i) out) (2 * i) b) in
    let u : drop (2 * i) z ≡ drop (2 * i) out = rw e (drop_at (bytes (take i l)) (drop (2 * i) out) (2 * i) b) in
    let w : drop 2 (drop (2 * i) out) ≡ drop (2 * (i + 1)) out = drop-drop 2 (2 * i) out ∙ ap (λ (j : ℕ). drop j out) d in
    let y : bytes (take (i + 1) l) ≡ bytes (take i l) ++ v = rw (add-one, take-suc l i (pos 0) h, bytes_append, g) in
    rw (t, u, m, w, y) (sym (append_assoc (bytes (take i l)) v _))

pub to_end : (l : List ℤ) (out z : List ℕ) (i : ℕ) → z ≡ put l i out → i ≡ min (length l) (length out / 2) → z ≡ to_bytes l out
unfolding to_bytes put
to_end l out z i e h = e ∙ rw h

-- as many bytes as the words have
pub to_whole : (l : List ℤ) (out : List ℕ) → length out ≡ 2 * length l → to_bytes l out ≡ bytes l
unfolding to_bytes
to_whole l out h =
    let n : min (length l) (length out / 2) ≡ length l = omega arith in
    rw (n, take_all (length l) l (omega arith), drop_of_length-le out {i = 2 * length l} (omega arith), append-nil)

-- ---- a number

-- with m bytes, before the turn for byte i - 1: the number of the bytes from i on, and that byte, fit their bits
pub room : (m i n b : ℕ) → 0 < i → i ≤ m → n < 2 ^ (8 * (m - i)) → b < 256 → 256 * n + b < 2 ^ (8 * (m - (i - 1)))
room m i n b h k e f =
    let p : 2 ^ (8 * (m - (i - 1))) ≡ 2 ^ 8 * 2 ^ (8 * (m - i)) = ap (λ (j : ℕ). 2 ^ j) (omega arith) ∙ pow-add 2 8 (8 * (m - i)) in
    omega arith

pub fits : (m i n : ℕ) → m ≤ 8 → n < 2 ^ (8 * (m - i)) → n < 2 ^ 64
fits m i n k e = let h : 8 * (m - i) ≤ 64 = omega arith in lt_of_lt_of_le e (pow_mono h)

number_more : (l : List ℕ) (i n : ℕ) → i < length l → n ≡ number (drop (suc i) l) → 256 * n + get_or l i 0 ≡ number (drop i l)
unfolding number
number_more l i n h e = rw (drop-cons l i 0 h, e) (omega arith)

-- one byte more, from the last to the first
pub number_turn : (l : List ℕ) (i n : ℕ) → 0 < i → i ≤ min 8 (length l) → n ≡ number (drop i (take 8 l)) → 256 * n + get_or l (i - 1) 0 ≡ number (drop (i - 1) (take 8 l))
number_turn l i n h k e =
    let j : i ≡ suc (i - 1) = omega arith in
    let b : i - 1 < 8 = omega arith in
    let f : n ≡ number (drop (suc (i - 1)) (take 8 l)) = rw j at e in
    rw (← get_or-take 8 l (i - 1) 0 b) (number_more (take 8 l) (i - 1) n (rw length-take (omega arith)) f)

pub number_end : (l : List ℕ) (i n : ℕ) → i ≡ 0 → n < 2 ^ (8 * (min 8 (length l) - i)) → n ≡ number (drop i (take 8 l))
    → (n ≡ number (take 8 l)) × (n < 2 ^ (8 * min 8 (length l)))
number_end l i n h k e =
    let z : min 8 (length l) - i ≡ min 8 (length l) = omega arith in
    (rw h at e, rw z at k)

pub number_none : (l : List ℕ) (i : ℕ) → i ≡ min 8 (length l) → 0 ≡ number (drop i (take 8 l))
unfolding number
number_none l i h = rw (drop_of_length-le (take 8 l) {i = i} (rw length-take (omega arith)))

-- ---- the bytes of a number

-- before turn i: i bytes are done, and what is left is the number of the others
pub rest_none : (n k : ℕ) (out : List ℕ) → number_bytes k n ≡ take 0 out ++ number_bytes (k - 0) n
rest_none n k out = rw (ap (λ (m : ℕ). number_bytes m n) (same k))
  where
    same : (k : ℕ) → k - 0 ≡ k
    same k = omega arith

pub rest_more : (n k i r : ℕ) (out : List ℕ) → i < k → k ≡ length out → number_bytes k n ≡ take i out ++ number_bytes (k - i) r
    → number_bytes k n ≡ take (i + 1) (set out i (r % 256)) ++ number_bytes (k - (i + 1)) (r / 256)
unfolding number_bytes
rest_more n k i r out h e g =
    let d : k - i ≡ suc (k - (i + 1)) = omega arith in
    let b : i < length out = omega arith in
    g ∙ rw (d, add-one, take-suc-set out i (r % 256) b) (sym (append_snoc (take i out) (r % 256) _))

pub rest_end : (n k i r : ℕ) (out : List ℕ) → k ≡ length out → i ≡ k → number_bytes k n ≡ take i out ++ number_bytes (k - i) r → out ≡ number_bytes k n
unfolding number_bytes
rest_end n k i r out e h g =
    let d : k - i ≡ 0 = omega arith in
    sym (g ∙ rw (d, append-nil) (take_all i out (omega arith)))

-- ---- read back

low_pair : (n : ℕ) → n < 65536 → low16 (pos (n % 256 + 256 * (n / 256))) ≡ n
unfolding low16
low_pair n h = omega arith

pub word_back : (z : ℤ) → mag z < 32768 → word (low16 z % 256) (low16 z / 256) ≡ z
unfolding word extract_l
word_back z h = rw (low_pair (low16 z) (low_lt z), low_bits z h) (to_z-of_z {w = w16} (record { sfits = h }))

-- the words of the bytes of a list of words are that list
pub words_back : (l : List ℤ) → ((k : ℕ) → mag (at l k) < 32768) → words (bytes l) ≡ l
unfolding words bytes
words_back [] h = refl
words_back (z ∷ l) h = rw (word_back z (h 0), words_back l (λ k. h (suc k)))

pub length_number_bytes : (k n : ℕ) → length (number_bytes k n) ≡ k
unfolding number_bytes
length_number_bytes zero n = refl
length_number_bytes (suc k) n = ap suc (length_number_bytes k (n / 256))

-- the number of k bytes of a number below 256 ^ k is that number
pub number_back : (k n : ℕ) → n < 256 ^ k → number (number_bytes k n) ≡ n
unfolding number number_bytes
number_back zero n h = omega arith
number_back (suc k) n h =
    let p : 256 ^ suc k ≡ 256 * 256 ^ k = pow-succ' 256 k in
    rw (number_back k (n / 256) (omega arith)) (omega arith)

-- ---- several numbers

take_min : (w : ℕ) (l : List ℕ) → take (min w (length l)) l ≡ take w l
take_min w l = by (leb w (length l)) refl
  where
    by : (t : Bool) → leb w (length l) ≡ t → take (min w (length l)) l ≡ take w l
    by true e = let n : min w (length l) ≡ w = omega (arith, leb-true w (length l) e) in rw n
    by false e = let h : length l < w = leb-false w (length l) e in let n : min w (length l) ≡ length l = omega arith in rw (n, take-length, take_all w l (omega arith))

drop_min : (w : ℕ) (l : List ℕ) → drop (min w (length l)) l ≡ drop w l
drop_min w l = by (leb w (length l)) refl
  where
    by : (t : Bool) → leb w (length l) ≡ t → drop (min w (length l)) l ≡ drop w l
    by true e = let n : min w (length l) ≡ w = omega (arith, leb-true w (length l) e) in rw n
    by false e =
        let h : length l < w = leb-false w (length l) e in
        let n : min w (length l) ≡ length l = omega arith in
        rw (n, drop_of_length-le l {i = length l} (omega arith), drop_of_length-le l {i = w} (omega arith))

-- before turn i: i numbers are read, and the bytes from `at` on have the others
pub read_more : (ws l out g : List ℕ) (at e i v : ℕ) → i < length ws → i < length out → e ≡ at + min (get_or ws i 0) (length l - at)
    → v ≡ number (take 8 (take (e - at) (drop at l))) → g ≡ take i out ++ read_numbers (drop i ws) (drop at l) (drop i out)
    → g ≡ take (i + 1) (set out i v) ++ read_numbers (drop (i + 1) ws) (drop e l) (drop (i + 1) (set out i v))
unfolding read_numbers
read_more ws l out g at e i v h k f n p =
    let r : List ℕ = drop at l in
    let w : ℕ = get_or ws i 0 in
    let m : length r ≡ length l - at = length-drop at l in
    let d : e - at ≡ min w (length r) = rw m (omega arith) in
    let a : take w r ≡ take (e - at) r = rw d (sym (take_min w r)) in
    let j : at + min w (length r) ≡ e = omega arith in
    let b : drop w r ≡ drop e l = sym (drop_min w r) ∙ drop-drop (min w (length r)) at l ∙ ap (λ (x : ℕ). drop x l) j in
    p ∙ rw (drop-cons ws i 0 h, drop-cons out i 0 k, add-one, take-suc-set out i v k, drop-set-lt (suc i) out i v (omega arith), a, b, n) (sym (append_snoc (take i out) _ _))

pub read_end : (ws l out g : List ℕ) (at i : ℕ) → i ≡ min (length ws) (length out) → g ≡ take i out ++ read_numbers (drop i ws) (drop at l) (drop i out) → out ≡ g
unfolding read_numbers
read_end ws l out g at i h p = sym (p ∙ ap (λ (x : List ℕ). take i out ++ x) (rest (drop i ws) (drop at l) (drop i out) (simp length-drop (omega arith))) ∙ take-append-drop i out)
  where
    rest : (ws l out : List ℕ) → min (length ws) (length out) ≡ 0 → read_numbers ws l out ≡ out
    rest [] l out e = refl
    rest (w ∷ ws) l [] e = refl
    rest (w ∷ ws) l (x ∷ out) e = absurd (omega arith)

-- before turn i: i numbers are written, up to place `at`
pub put_more_numbers : (ws vs out z v g : List ℕ) (at e i : ℕ) → i < length ws → i < length vs → at ≤ length out → e ≡ at + min (get_or ws i 0) (length out - at)
    → v ≡ number_bytes (length (take (e - at) (drop at out))) (get_or vs i 0) → z ≡ take at out ++ (v ++ drop (e - at) (drop at out))
    → g ≡ take at out ++ put_numbers (drop i ws) (drop i vs) (drop at out)
    → g ≡ take e z ++ put_numbers (drop (i + 1) ws) (drop (i + 1) vs) (drop e z)
unfolding put_numbers
put_more_numbers ws vs out z v g at e i h k j f n q p =
    let r : List ℕ = drop at out in
    let w : ℕ = get_or ws i 0 in
    let m : length r ≡ length out - at = length-drop at out in
    let d : min w (length r) ≡ e - at = rw m (omega arith) in
    let t : length (take (e - at) r) ≡ e - at = rw (length-take, m) (omega arith) in
    let a : v ≡ number_bytes (e - at) (get_or vs i 0) = n ∙ rw t in
    let c : length v ≡ e - at = rw a (length_number_bytes (e - at) (get_or vs i 0)) in
    let u : length (take at out ++ v) ≡ e = simp (length-append, length-take) (omega arith) in
    let y : z ≡ (take at out ++ v) ++ drop (e - at) r = q ∙ sym (append_assoc (take at out) v _) in
    let x : take e z ≡ take at out ++ v = rw y (take_at (take at out ++ v) _ e u) in
    let o : drop e z ≡ drop (e - at) r = rw y (drop_at (take at out ++ v) (drop (e - at) r) e u) in
    p ∙ rw (drop-cons ws i 0 h, drop-cons vs i 0 k, d, ← a, add-one, x, o) (sym (append_assoc (take at out) v _))

pub put_end : (ws vs out g : List ℕ) (at i : ℕ) → i ≡ min (length ws) (length vs) → g ≡ take at out ++ put_numbers (drop i ws) (drop i vs) (drop at out) → out ≡ g
unfolding put_numbers
put_end ws vs out g at i h p = sym (p ∙ ap (λ (x : List ℕ). take at out ++ x) (rest (drop i ws) (drop i vs) (drop at out) (simp length-drop (omega arith))) ∙ take-append-drop at out)
  where
    rest : (ws vs out : List ℕ) → min (length ws) (length vs) ≡ 0 → put_numbers ws vs out ≡ out
    rest [] vs out e = refl
    rest (w ∷ ws) [] out e = refl
    rest (w ∷ ws) (v ∷ vs) out e = absurd (omega arith)

-- as many numbers as are lent
pub read_whole : (ws l out : List ℕ) → length out ≡ length ws → read_numbers ws l out ≡ numbers ws l
unfolding read_numbers numbers
read_whole [] l [] h = refl
read_whole [] l (x ∷ out) h = absurd (omega arith)
read_whole (w ∷ ws) l [] h = absurd (omega arith)
read_whole (w ∷ ws) l (x ∷ out) h = rw (read_whole ws (drop w l) out (omega arith))

-- how many bytes they have
unfoldable pub total : List ℕ → ℕ
total [] = 0
total (w ∷ ws) = w + total ws

pub length_numbers_bytes : (ws vs : List ℕ) → length ws ≡ length vs → length (numbers_bytes ws vs) ≡ total ws
unfolding numbers_bytes total
length_numbers_bytes [] vs h = refl
length_numbers_bytes (w ∷ ws) [] h = absurd (omega arith)
length_numbers_bytes (w ∷ ws) (v ∷ vs) h = rw (length-append, length_number_bytes, length_numbers_bytes ws vs (omega arith))

-- as many bytes as are lent
pub put_whole : (ws vs out : List ℕ) → length ws ≡ length vs → length out ≡ total ws → put_numbers ws vs out ≡ numbers_bytes ws vs
unfolding put_numbers numbers_bytes total
put_whole [] vs [] h k = refl
put_whole [] vs (x ∷ out) h k = absurd (omega arith)
put_whole (w ∷ ws) [] out h k = absurd (omega arith)
put_whole (w ∷ ws) (v ∷ vs) out h k =
    let n : min w (length out) ≡ w = omega arith in
    rw (n, put_whole ws vs (drop w out) (omega arith) (rw length-drop (omega arith)))

-- numbers that have room in their widths, none of more than eight bytes
pub data Fit : List ℕ → List ℕ → Type 0 where
  none : Fit [] []
  more : (w v : ℕ) {ws vs : List ℕ} → w ≤ 8 → v < 256 ^ w → Fit ws vs → Fit (w ∷ ws) (v ∷ vs)

-- what was written is read back, whatever lies behind it
pub numbers_back : (ws vs l : List ℕ) → Fit ws vs → numbers ws (numbers_bytes ws vs ++ l) ≡ vs
unfolding numbers numbers_bytes
numbers_back [] [] l none = refl
numbers_back [] (v ∷ vs) l f = elim f [ ]
numbers_back (w ∷ ws) [] l f = elim f [ ]
numbers_back (w ∷ ws) (v ∷ vs) l (more _ _ h k f) =
    let n : length (number_bytes w v) ≡ w = length_number_bytes w v in
    rw (append_assoc, take_at (number_bytes w v) (numbers_bytes ws vs ++ l) w n, drop_at (number_bytes w v) (numbers_bytes ws vs ++ l) w n, take_all 8 (number_bytes w v) (omega arith), number_back w v k, numbers_back ws vs l f)

-- ---- bytes

pub bytes_join : (l m : List ℕ) → Bytes l → Bytes m → Bytes (l ++ m)
bytes_join [] m a c k = c k
bytes_join (b ∷ l) m a c zero = a 0
bytes_join (b ∷ l) m a c (suc k) = bytes_join l m (λ i. a (suc i)) c k

pub bytes_take : (n : ℕ) (l : List ℕ) → Bytes l → Bytes (take n l)
bytes_take zero l a k = omega arith
bytes_take (suc n) [] a k = a k
bytes_take (suc n) (b ∷ l) a zero = a 0
bytes_take (suc n) (b ∷ l) a (suc k) = bytes_take n l (λ i. a (suc i)) k

pub bytes_drop : (n : ℕ) (l : List ℕ) → Bytes l → Bytes (drop n l)
bytes_drop n l a k = rw get_or-drop (a (n + k))

pub bytes_number : (n m : ℕ) → Bytes (number_bytes n m)
unfolding number_bytes
bytes_number zero m k = omega arith
bytes_number (suc n) m zero = omega arith
bytes_number (suc n) m (suc k) = bytes_number n (m / 256) k

pub bytes_numbers : (ws vs : List ℕ) → Bytes (numbers_bytes ws vs)
unfolding numbers_bytes
bytes_numbers [] vs k = omega arith
bytes_numbers (w ∷ ws) [] k = omega arith
bytes_numbers (w ∷ ws) (v ∷ vs) k = bytes_join (number_bytes w v) _ (bytes_number w v) (bytes_numbers ws vs) k

pub bytes_words : (l : List ℤ) → Bytes (bytes l)
unfolding bytes
bytes_words [] k = omega arith
bytes_words (z ∷ l) zero = omega arith
bytes_words (z ∷ l) (suc zero) = omega (arith, low_lt z)
bytes_words (z ∷ l) (suc (suc k)) = bytes_words l k

-- a number of w bytes
number_lt : (n w : ℕ) (l : List ℕ) → Bytes l → number (take n (take w l)) < 256 ^ w
unfolding number
number_lt zero zero l a = omega arith
number_lt zero (suc w) l a = let p : 256 ^ suc w ≡ 256 * 256 ^ w = pow-succ' 256 w in omega (arith, number_lt zero w l a)
number_lt (suc n) zero l a = omega arith
number_lt (suc n) (suc w) [] a = let p : 256 ^ suc w ≡ 256 * 256 ^ w = pow-succ' 256 w in omega (arith, number_lt zero w [] a)
number_lt (suc n) (suc w) (b ∷ l) a =
    let p : 256 ^ suc w ≡ 256 * 256 ^ w = pow-succ' 256 w in
    omega (arith, number_lt n w l (λ k. a (suc k)), a 0)

pub numbers_lt : (ws l : List ℕ) (k : ℕ) → Bytes l → get_or (numbers ws l) k 0 < 256 ^ get_or ws k 0
unfolding numbers
numbers_lt [] l k a = omega arith
numbers_lt (w ∷ ws) l zero a = number_lt 8 w l a
numbers_lt (w ∷ ws) l (suc k) a = numbers_lt ws (drop w l) k (bytes_drop w l a)

-- a number stays the same only where its bytes do
pub number_set : (l : List ℕ) (k v : ℕ) → Bytes l → k < length l → v < 256 → number (set l k v) ≡ number l → v ≡ get_or l k 0
unfolding number
number_set [] k v a h j e = absurd (omega arith)
number_set (b ∷ l) zero v a h j e = omega arith
number_set (b ∷ l) (suc k) v a h j e = number_set l k v (λ n. a (suc n)) (omega arith) j (omega arith)

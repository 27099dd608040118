-- Laws of the call text: what Line takes is the text of the payload that it writes, and every such text is taken. Assumes nothing.
use Rattle.std.specs.Prelude.{◌≡◌, Bool, true, false, cond, ℕ, zero, suc, ◌+◌, ◌-◌, ◌*◌, ◌/◌, ◌%◌, ◌≤◌, ◌<◌, eqb, get_or, take, drop, set, ◌&&◌, Ok, Err}
use Rattle.std.specs.List.{list_all}
use Rattle.std.proofs.Math.Path.{refl, ap}
use Rattle.std.proofs.Common.{sym, ◌∙◌, add-one, length-append, length-take, take-append-drop, get_or-drop, take-suc, drop-cons, take_at, drop_at, drop-drop, take_all, eq-eqb, ne_eqb, eqb-true}
use mathlib.Core.List.{List, [], ◌∷◌, ◌++◌, append_assoc, append-nil}
use native.Mathlib.Omega.{arith}
use Rattle.std.proofs.Math.ListN.{length, length-drop}
use Rattle.std.proofs.lemmas.List.{set_at}
use Rattle.std.proofs.Math.Seq.{append_snoc, take-length}
use Rattle.std.proofs.lemmas.Bool.{eqb-false}
use lib.Pointwise.{pointwise}
use Rattle.laws.specs.Bytes.{same, same_self, same_true, unlike, same_parts}
use Rattle.laws.specs.Digits.{digit, is_digit, value, value_lt, digit_is, value_digit, high, low}
use Rattle.text.specs.Text.{ascii, Put}
use Rattle.text.specs.Laws.{then, nothing}
use Rattle.kind.specs.Kind.{payload_length}
use Rattle.kind.specs.Laws.{by_kind, payload_few}
use Rattle.line.specs.Line.{shortest, longest, pair, hex, opening, closing, form, text, bytes, is_hex, is_form, is, payload, Answer, answer, took, line}

-- whether each byte is a digit
unfoldable pub all_digits : List ℕ → Bool
all_digits [] = true
all_digits (b ∷ l) = cond (is_digit b) (all_digits l) false

-- ---- a line of a form, by its parts

twice : (n : ℕ) → 2 * suc n ≡ suc (suc (2 * n))
twice n = omega arith

pub length_hex : (l : List ℕ) → length (hex l) ≡ 2 * length l
unfolding hex pair
length_hex [] = refl
length_hex (b ∷ l) = rw (length_hex l, twice (length l))

-- the digits of a part of the bytes are a part of their digits
pub hex_take : (n : ℕ) (l : List ℕ) → hex (take n l) ≡ take (2 * n) (hex l)
unfolding hex pair
hex_take zero l = refl
hex_take (suc n) [] = rw (twice n)
hex_take (suc n) (b ∷ l) = rw (twice n, hex_take n l)

pub hex_drop : (n : ℕ) (l : List ℕ) → hex (drop n l) ≡ drop (2 * n) (hex l)
unfolding hex pair
hex_drop zero l = refl
hex_drop (suc n) [] = rw (twice n)
hex_drop (suc n) (b ∷ l) = rw (twice n, hex_drop n l)

pub length_bytes : (n : ℕ) (l : List ℕ) → length (bytes n l) ≡ n
unfolding bytes
length_bytes zero l = refl
length_bytes (suc n) l = rw (length_bytes n (drop 2 l))

pub length_form : (o l : List ℕ) → length (form o l) ≡ length o + (2 * length l + 2)
unfolding form closing
length_form o l = simp (length-append, length_hex)

-- read and written again they are the same where they are digits
digits_all : (n : ℕ) (l : List ℕ) → 2 * n ≤ length l → same (take (2 * n) l) (hex (bytes n l)) ≡ all_digits (take (2 * n) l)
unfolding same hex pair bytes all_digits
digits_all zero l h = refl
digits_all (suc n) [] h = absurd (omega arith)
digits_all (suc n) (a ∷ []) h = absurd (omega arith)
digits_all (suc n) (a ∷ b ∷ l) h = rw (twice n, high (value a) (value b) (value_lt b), low (value a) (value b) (value_lt b), digit_is a, digit_is b, digits_all n l (omega arith))

-- a text in hexadecimal is an even number of digits
pub hex_odd : (l : List ℕ) → (length l % 2 ≡ 0 → ⊥) → is_hex l ≡ false
unfolding is_hex
hex_odd l h = unlike l (hex (bytes (length l / 2) l)) (λ e. h (let f : length l ≡ 2 * (length l / 2) = e ∙ length_hex _ ∙ rw (length_bytes (length l / 2) l) in omega arith))

pub hex_even : (l : List ℕ) → length l % 2 ≡ 0 → all_digits l ≡ is_hex l
unfolding is_hex
hex_even l h =
    let e : 2 * (length l / 2) ≡ length l = omega arith in
    let d : same (take (length l) l) (hex (bytes (length l / 2) l)) ≡ all_digits (take (length l) l) = rw e at (digits_all (length l / 2) l (omega arith)) in
    sym (rw take-length at d)

pub hex_same : (l : List ℕ) → is_hex l ≡ true → l ≡ hex (bytes (length l / 2) l)
unfolding is_hex
hex_same l e = same_true l _ e

pub by_parts : (o l : List ℕ) (n : ℕ) → length l ≡ length o + 2 * n + 2
    → is_form o n l ≡ cond (same (take (length o) l) o) (cond (all_digits (take (2 * n) (drop (length o) l))) (same (drop (length o + 2 * n) l) closing) false) false
unfolding is_form form
by_parts o l n h =
    let d : List ℕ = drop (length o) l in
    let b : List ℕ = bytes n d in
    let ld : length d ≡ 2 * n + 2 = length-drop (length o) l ∙ omega arith in
    let lb : length (hex b) ≡ 2 * n = length_hex b ∙ rw (length_bytes n d) in
    let lt : length (take (length o) l) ≡ length o = length-take (length o) l ∙ omega arith in
    let le : length (take (2 * n) d) ≡ length (hex b) = length-take (2 * n) d ∙ omega arith in
    let s1 : same l (o ++ (hex b ++ closing)) ≡ cond (same (take (length o) l) o) (same d (hex b ++ closing)) false =
    ap (λ (x : List ℕ). same x (o ++ (hex b ++ closing))) (sym (take-append-drop (length o) l)) ∙ same_parts (take (length o) l) d o (hex b ++ closing) lt in
    let s2 : same d (hex b ++ closing) ≡ cond (same (take (2 * n) d) (hex b)) (same (drop (2 * n) d) closing) false =
    ap (λ (x : List ℕ). same x (hex b ++ closing)) (sym (take-append-drop (2 * n) d)) ∙ same_parts (take (2 * n) d) (drop (2 * n) d) (hex b) closing le in
    s1 ∙ rw (s2, digits_all n d (omega arith), drop-drop (2 * n) (length o) l)

-- what each test of the code says of the form
module _ (o l : List ℕ) (n : ℕ) (h : length l ≡ length o + 2 * n + 2) {r : Bool} (e : r ≡ same (take (length o) l) o) where
  pub no_opening : r ≡ false → is_form o n l ≡ false
  no_opening a = by_parts o l n h ∙ rw (← e, a)

  pub no_digits : {q : Bool} → r ≡ true → q ≡ all_digits (take (2 * n) (drop (length o) l)) → q ≡ false → is_form o n l ≡ false
  no_digits a f b = by_parts o l n h ∙ rw (← e, a, ← f, b)

  pub ending : {q x : Bool} → r ≡ true → q ≡ all_digits (take (2 * n) (drop (length o) l)) → q ≡ true → x ≡ same (take 2 (drop (length o + 2 * n) l)) (41 ∷ 41 ∷ [])
      → x ≡ is_form o n l
  unfolding closing
  ending a f b g =
      let k : length (drop (length o + 2 * n) l) ≤ 2 = simp length-drop (omega arith) in
      g ∙ rw (take_all 2 (drop (length o + 2 * n) l) k) (sym (by_parts o l n h ∙ rw (← e, a, ← f, b)))

pub form_length : (o l : List ℕ) (n : ℕ) → is_form o n l ≡ true → length l ≡ length o + (2 * n + 2)
unfolding is_form
form_length o l n e =
    let b : List ℕ = bytes n (drop (length o) l) in
    ap length (same_true l (form o b) e) ∙ length_form o b ∙ rw (length_bytes n (drop (length o) l))

pub other_length : (o l : List ℕ) (n : ℕ) → (length l ≡ length o + 2 * n + 2 → ⊥) → is_form o n l ≡ false
unfolding is_form
other_length o l n h =
    let b : List ℕ = bytes n (drop (length o) l) in
    unlike l (form o b) (λ e. h (e ∙ length_form o b ∙ rw (length_bytes n (drop (length o) l)) (omega arith)))

-- ---- what the library's tests say: each byte is a digit, a text begins with another

also : (p q : Bool) → (p && q) ≡ cond p q false
also true q = refl
also false q = refl

pub each_digit : (l : List ℕ) → list_all is_digit l ≡ all_digits l
unfolding all_digits
each_digit [] = refl
each_digit (a ∷ l) = rw (each_digit l) (also (is_digit a) (all_digits l))

eqb_turned : (a b : ℕ) → eqb a b ≡ eqb b a
eqb_turned a b = by (eqb b a) refl
  where
    by : (p : Bool) → eqb b a ≡ p → eqb a b ≡ p
    by true e = eq-eqb a b (sym (eqb-true b a e))
    by false e = ne_eqb a b (λ h. eqb-false b a e (sym h))

pub begins : (o l : List ℕ) → pointwise eqb o l ≡ same l o
unfolding same
begins [] [] = refl
begins [] (b ∷ l) = refl
begins (a ∷ o) [] = refl
begins (a ∷ o) (b ∷ l) = rw (eqb_turned a b, begins o l) (also (eqb b a) (same l o))

-- a part that goes up to the end
pub up_to_end : (l : List ℕ) (n : ℕ) → take (length l - n) (drop n l) ≡ drop n l
up_to_end l n = take_all (length l - n) (drop n l) (rw length-drop (omega arith))

-- ---- the loops: bytes read and written, from the front

bytes_more : (n : ℕ) (l : List ℕ) → bytes (suc n) l ≡ bytes n l ++ ((16 * value (get_or l (2 * n) 0) + value (get_or l (2 * n + 1) 0)) ∷ [])
unfolding bytes
bytes_more zero l = refl
bytes_more (suc n) l =
    let e : 2 + 2 * n ≡ 2 * suc n = omega arith in
    let f : 2 + (2 * n + 1) ≡ 2 * suc n + 1 = omega arith in
    rw (bytes_more n (drop 2 l), get_or-drop 2 l (2 * n) 0, get_or-drop 2 l (2 * n + 1) 0, e, f)

pub put_more : (l lent out : List ℕ) (n v : ℕ) → n < length lent → out ≡ bytes n l ++ drop n lent → v ≡ 16 * value (get_or l (2 * n) 0) + value (get_or l (2 * n + 1) 0)
    → set out n v ≡ bytes (n + 1) l ++ drop (n + 1) lent
put_more l lent out n v h e g =
    rw (e, drop-cons lent n 0 h, set_at (bytes n l) (get_or lent n 0) (drop (suc n) lent) v n (length_bytes n l), add-one, bytes_more n l, g)
    (sym (append_snoc (bytes n l) _ (drop (suc n) lent)))

pub put_none : (l lent : List ℕ) → lent ≡ bytes 0 l ++ drop 0 lent
unfolding bytes
put_none l lent = refl

-- ---- sound: what is taken is the text of its kind with the bytes written, and the bytes behind those are unchanged

pub record Took (l lent : List ℕ) (kind : ℕ) (left : List ℕ) : Type 0 where
  pub low : kind ≤ 3
  pub one_of : l ≡ text kind (take (payload_length kind) left)
  pub behind : drop (payload_length kind) left ≡ drop (payload_length kind) lent
  pub ten : length left ≡ 10
  pub least : shortest ≤ length l
  pub most : length l ≤ longest

-- the four lengths
module _ (l : List ℕ) where
  Between : ℕ → Type 0
  Between k = length l ≡ length (opening k) + (2 * payload_length k + 2) → (shortest ≤ length l) × (length l ≤ longest)

  between : (k : ℕ) → k ≤ 3 → Between k
  unfolding Between opening payload_length
  between = by_kind Between (λ e. (omega arith, omega arith)) (λ e. (omega arith, omega arith)) (λ e. (omega arith, omega arith)) (λ e. (omega arith, omega arith))

fits : (k : ℕ) (l lent left : List ℕ) → k ≤ 3 → length lent ≡ 10 → is k l ≡ true → left ≡ payload k l ++ drop (payload_length k) lent → Took l lent k left
unfolding is is_form text payload Between
fits k l lent left h t e g =
    let n : length (payload k l) ≡ payload_length k = length_bytes (payload_length k) (drop (length (opening k)) l) in
    let b : (shortest ≤ length l) × (length l ≤ longest) = between l k h (form_length (opening k) l (payload_length k) e) in
    record {
      low = h;
      one_of = rw (g, take_at (payload k l) (drop (payload_length k) lent) (payload_length k) n) (same_true _ _ e);
      behind = rw g (drop_at (payload k l) (drop (payload_length k) lent) (payload_length k) n);
      ten = rw (g, length-append, length-drop) (omega (arith, n, payload_few k));
      least = b.0;
      most = b.1;
    }

-- what Line can answer
cases : (l lent : List ℕ) (P : Answer → Type 0) → ((k : ℕ) → k ≤ 3 → length lent ≡ 10 → is k l ≡ true → P (took k l lent))
    → P (answer (Err 9) lent) → ((length lent ≡ 10 → ⊥) → P (answer (Err 11) lent)) → P (line l lent)
unfolding line
cases l lent P f g h = by (eqb (length lent) 10) (is 0 l) (is 1 l) (is 2 l) (is 3 l) refl refl refl refl refl
  where
    by : (t a b c d : Bool) → eqb (length lent) 10 ≡ t → is 0 l ≡ a → is 1 l ≡ b → is 2 l ≡ c → is 3 l ≡ d
        → P (cond t (cond a (took 0 l lent) (cond b (took 1 l lent) (cond c (took 2 l lent) (cond d (took 3 l lent) (answer (Err 9) lent))))) (answer (Err 11) lent))
    by false a b c d e i j k m = h (eqb-false _ _ e)
    by true true b c d e i j k m = f 0 (omega arith) (eqb-true _ _ e) i
    by true false true c d e i j k m = f 1 (omega arith) (eqb-true _ _ e) j
    by true false false true d e i j k m = f 2 (omega arith) (eqb-true _ _ e) k
    by true false false false true e i j k m = f 3 (omega arith) (eqb-true _ _ e) m
    by true false false false false e i j k m = g

pub sound : (l lent left : List ℕ) (kind : ℕ) → line l lent ≡ answer (Ok kind) left → Took l lent kind left
unfolding took
sound l lent left kind = cases l lent (λ (a : Answer). a ≡ answer (Ok kind) left → Took l lent kind left) yes (no 9) (λ h. no 11)
  where
    yes : (k : ℕ) → k ≤ 3 → length lent ≡ 10 → is k l ≡ true → took k l lent ≡ answer (Ok kind) left → Took l lent kind left
    yes k h t e g =
        let p : k ≡ kind = cc in
        let q : left ≡ payload k l ++ drop (payload_length k) lent = cc in
        rw (← p) (fits k l lent left h t e q)

    no : (n : ℕ) → answer (Err n) lent ≡ answer (Ok kind) left → Took l lent kind left
    no n g = let z : ◌≡◌ {A = ℕ} 0 1 = cc in absurd (omega arith)

pub frame_line : (l lent left : List ℕ) (kind : ℕ) → line l lent ≡ answer (Ok kind) left → (kind ≤ 3) × (length left ≡ 10)
frame_line l lent left kind e = let t = sound l lent left kind e in (t.low, t.ten)

pub frame_length : (l lent left : List ℕ) (kind : ℕ) → line l lent ≡ answer (Ok kind) left → (shortest ≤ length l) × (length l ≤ longest)
frame_length l lent left kind e = let t = sound l lent left kind e in (t.least, t.most)

-- a refusal has a number, and with ten bytes lent it is 9
pub refused_some : (l lent left : List ℕ) (n : ℕ) → line l lent ≡ answer (Err n) left → 0 < n
unfolding took
refused_some l lent left n =
    cases l lent (λ (a : Answer). a ≡ answer (Err n) left → 0 < n)
    (λ k h t e g. let z : ◌≡◌ {A = ℕ} 0 1 = cc in absurd (omega arith))
    (λ g. let z : 9 ≡ n = cc in omega arith)
    (λ h g. let z : 11 ≡ n = cc in omega arith)

pub refused_line : (l lent left : List ℕ) (n : ℕ) → length lent ≡ 10 → line l lent ≡ answer (Err n) left → n ≡ 9
unfolding took
refused_line l lent left n h =
    cases l lent (λ (a : Answer). a ≡ answer (Err n) left → n ≡ 9)
    (λ k i t e g. let z : ◌≡◌ {A = ℕ} 0 1 = cc in absurd (omega arith))
    (λ g. cc)
    (λ i. absurd (i h))

-- ---- complete: the text of each kind with each payload is taken, as that kind and those bytes

hex_back : (l r : List ℕ) → ((i : ℕ) → get_or l i 0 < 256) → bytes (length l) (hex l ++ r) ≡ l
unfolding bytes hex pair
hex_back [] r h = refl
hex_back (b ∷ l) r h =
    let k : b < 256 = h 0 in
    let e : value (digit (b / 16)) ≡ b / 16 = value_digit (b / 16) (omega arith) in
    let f : value (digit (b % 16)) ≡ b % 16 = value_digit (b % 16) (omega arith) in
    let g : 16 * (b / 16) + b % 16 ≡ b = omega arith in
    rw (e, f, g, hex_back l r (λ i. h (suc i)))

module _ (k : ℕ) (l : List ℕ) (n : length l ≡ payload_length k) where
  read_back : ((i : ℕ) → get_or l i 0 < 256) → payload k (text k l) ≡ l
  unfolding payload text form
  read_back h = rw (drop_at (opening k) (hex l ++ closing) (length (opening k)) refl, ← n) (hex_back l closing h)

  is_text : ((i : ℕ) → get_or l i 0 < 256) → is k (text k l) ≡ true
  unfolding is is_form payload text
  is_text h = ap (λ (x : List ℕ). same (text k l) (form (opening k) x)) (read_back h) ∙ same_self (text k l)

  not_text : (j : ℕ) → (length (opening k) + 2 * payload_length k ≡ length (opening j) + 2 * payload_length j → ⊥) → is j (text k l) ≡ false
  unfolding is text
  not_text j h =
      other_length (opening j) (text k l) (payload_length j)
      (λ e. h (let f : length (text k l) ≡ length (opening k) + (2 * length l + 2) = length_form (opening k) l in omega arith))

pub complete : (k : ℕ) → k ≤ 3 → (l lent : List ℕ) → length l ≡ payload_length k → ((i : ℕ) → get_or l i 0 < 256) → length lent ≡ 10
    → line (text k l) lent ≡ answer (Ok k) (l ++ drop (payload_length k) lent)
unfolding line took opening payload_length
complete k h l lent =
    by_kind (λ (k : ℕ). length l ≡ payload_length k → ((i : ℕ) → get_or l i 0 < 256) → length lent ≡ 10 → line (text k l) lent ≡ answer (Ok k) (l ++ drop (payload_length k) lent))
    (λ n b e. rw (eq-eqb (length lent) 10 e, is_text 0 l n b, read_back 0 l n b))
    (λ n b e. rw (eq-eqb (length lent) 10 e, not_text 1 l n 0 (λ z. omega arith), is_text 1 l n b, read_back 1 l n b))
    (λ n b e. rw (eq-eqb (length lent) 10 e, not_text 2 l n 0 (λ z. omega arith), not_text 2 l n 1 (λ z. omega arith), is_text 2 l n b, read_back 2 l n b))
    (λ n b e. rw (eq-eqb (length lent) 10 e, not_text 3 l n 0 (λ z. omega arith), not_text 3 l n 1 (λ z. omega arith), not_text 3 l n 2 (λ z. omega arith), is_text 3 l n b, read_back 3 l n b))
    k h

-- ---- the digits of a payload written byte by byte

hex_snoc : (l : List ℕ) (b : ℕ) → hex (l ++ (b ∷ [])) ≡ hex l ++ pair b
unfolding hex
hex_snoc [] b = append-nil (pair b)
hex_snoc (x ∷ l) b = rw (hex_snoc l b) (sym (append_assoc (pair x) (hex l) (pair b)))

pub hex_none : (l lent : List ℕ) (from : ℕ) → from ≤ length lent → Put (hex (take 0 l)) from lent from lent
unfolding hex
hex_none l lent from h = nothing lent from h

pub hex_more : (l : List ℕ) (i : ℕ) {lent out next : List ℕ} {from m r : ℕ} → i < length l → Put (hex (take i l)) from lent m out → Put (pair (get_or l i 0)) m out r next
    → Put (hex (take (i + 1) l)) from lent r next
hex_more l i h a b = rw (add-one, take-suc l i 0 h, hex_snoc) (then a b)

pub length_hex_take : (l : List ℕ) (i : ℕ) → i ≤ length l → length (hex (take i l)) ≡ 2 * i
length_hex_take l i h = length_hex (take i l) ∙ rw length-take (omega arith)

-- ---- the text of a kind, from its opening

pub opening_few : (kind : ℕ) → length (opening kind) ≤ 14
unfolding opening
opening_few kind = by (eqb kind 0) (eqb kind 1) (eqb kind 2)
  where
    by : (p q r : Bool) → length (cond p (ascii "(frame (voice ") (cond q (ascii "(frame (sid ") (cond r (ascii "(frame (quiet") (ascii "(frame (lost")))) ≤ 14
    by true q r = omega arith
    by false true r = omega arith
    by false false true = omega arith
    by false false false = omega arith

-- it has room
pub kind_room : (kind : ℕ) (l : List ℕ) → kind ≤ 3 → length l ≡ payload_length kind → length (opening kind) + (2 * length l + 2) ≤ longest
unfolding opening payload_length
kind_room kind l h n =
    by_kind (λ (k : ℕ). length l ≡ payload_length k → length (opening k) + (2 * length l + 2) ≤ longest) (λ i. omega arith) (λ i. omega arith) (λ i. omega arith) (λ i. omega arith)
    kind h n

-- ---- the kinds tried one by one

-- the first that fits is taken
pub first_kind : (l lent : List ℕ) (k : ℕ) → k ≤ 3 → length lent ≡ 10 → ((j : ℕ) → j < k → is j l ≡ false) → is k l ≡ true → line l lent ≡ took k l lent
unfolding line
first_kind l lent k h n =
    by_kind (λ (k : ℕ). ((j : ℕ) → j < k → is j l ≡ false) → is k l ≡ true → line l lent ≡ took k l lent)
    (λ f e. rw (eq-eqb _ _ n, e))
    (λ f e. rw (eq-eqb _ _ n, f 0 (omega arith), e))
    (λ f e. rw (eq-eqb _ _ n, f 0 (omega arith), f 1 (omega arith), e))
    (λ f e. rw (eq-eqb _ _ n, f 0 (omega arith), f 1 (omega arith), f 2 (omega arith), e))
    k h

pub no_kind : (l lent : List ℕ) → length lent ≡ 10 → ((j : ℕ) → j < 4 → is j l ≡ false) → line l lent ≡ answer (Err 9) lent
unfolding line
no_kind l lent n f = rw (eq-eqb _ _ n, f 0 (omega arith), f 1 (omega arith), f 2 (omega arith), f 3 (omega arith))

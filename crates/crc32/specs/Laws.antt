-- Laws of the check sum: its loops, sums of parts, and that two lists that differ in one byte have different sums. Each step can be undone, so two sums that differ once differ
-- to the end. Assumes nothing.
use Rattle.std.specs.Prelude.{◌≡◌, refl, Bool, true, false, List, [], ◌∷◌, ◌++◌, ◌≢◌, ◌⊎◌, ℕ, zero, suc, ◌+◌, ◌*◌, ◌/◌, ◌%◌, ◌^◌, ◌≤◌, ◌<◌, eqb, length, take, get_or, set}
use Rattle.std.proofs.Common.{sym, ap, ◌∙◌, inl, inr, ⊎_elim, arith, add-one, eq-eqb, ne_eqb, eqb-true, lit<, take-suc}
use Rattle.std.proofs.lemmas.Bool.{eqb-false}
use Rattle.std.specs.Int.Bits.{bit_xor, differ, xor_step, xor_zero_l, xor_self}
use Rattle.std.proofs.lemmas.Nat.{xor_lt, xor_comm, xor_block}
use Rattle.std.proofs.Math.Seq.{take-length}
use Rattle.words.specs.Words.{Bytes}
use Rattle.crc32.specs.Crc32.{bit, bits, byte, run, crc32, more}

-- ---- the loops of the check sum

pub bits_none : (x : ℕ) → x ≡ bits 0 x
unfolding bits
bits_none x = refl

pub bits_more : (i x₀ x y : ℕ) → x ≡ bits i x₀ → y ≡ bit x → y ≡ bits (i + 1) x₀
unfolding bits
bits_more i x₀ x y e g = rw (add-one, ← e) g

pub bits_end : (i c b x : ℕ) → x ≡ bits i (bit_xor c b) → i ≡ 8 → x ≡ byte c b
unfolding byte
bits_end i c b x e h = e ∙ rw h

pub run_none : (c : ℕ) (l : List ℕ) → c ≡ run c (take 0 l)
unfolding run
run_none c l = refl

run_last : (c : ℕ) (l : List ℕ) (b : ℕ) → run c (l ++ (b ∷ [])) ≡ byte (run c l) b
unfolding run
run_last c [] b = refl
run_last c (x ∷ l) b = run_last (byte c x) l b

pub run_more : (c : ℕ) (l : List ℕ) (i x y : ℕ) → i < length l → x ≡ run c (take i l) → y ≡ byte x (get_or l i 0) → y ≡ run c (take (i + 1) l)
run_more c l i x y h e g = rw (add-one, take-suc l i 0 h, run_last, ← e) g

pub run_end : (sum : ℕ) (l : List ℕ) (i x : ℕ) → i ≡ length l → x ≡ run (bit_xor sum 4294967295) (take i l) → bit_xor x 4294967295 ≡ more sum l
unfolding more
run_end sum l i x h e = rw (e, h, take-length)

-- ---- a step of the check sum undone

differ_is : (x z : ℕ) → x < 2 → z < 2 → differ x z ≡ (x + z) % 2
differ_is zero z h k = omega arith
differ_is (suc zero) zero h k = refl
differ_is (suc zero) (suc zero) h k = refl
differ_is (suc zero) (suc (suc z)) h k = absurd (omega arith)
differ_is (suc (suc x)) z h k = absurd (omega arith)

halves : (p q x y z : ℕ) → x < 2 → y < 2 → z < 2 → p * 2 + differ x z ≡ q * 2 + differ y z → (p ≡ q) × (x ≡ y)
halves p q x y z a b d e =
    let f : differ x z ≡ (x + z) % 2 = differ_is x z a d in
    let g : differ y z ≡ (y + z) % 2 = differ_is y z b d in
    let i : p * 2 + (x + z) % 2 ≡ q * 2 + (y + z) % 2 = rw (f, g) at e in
    (omega arith, omega arith)

xor_left : (n a b k : ℕ) → a ≤ n → b ≤ n → bit_xor a k ≡ bit_xor b k → a ≡ b
xor_left zero a b k h i e = omega arith
xor_left (suc n) a b k h i e =
    let s : bit_xor (a / 2) (k / 2) * 2 + differ (a % 2) (k % 2) ≡ bit_xor (b / 2) (k / 2) * 2 + differ (b % 2) (k % 2) = sym (xor_step a k) ∙ e ∙ xor_step b k in
    let t = halves (bit_xor (a / 2) (k / 2)) (bit_xor (b / 2) (k / 2)) (a % 2) (b % 2) (k % 2) (omega arith) (omega arith) (omega arith) s in
    let u : a / 2 ≡ b / 2 = xor_left n (a / 2) (b / 2) (k / 2) (omega arith) (omega arith) t.0 in
    omega (arith, t.1)

xor_inj : (a b k : ℕ) → bit_xor a k ≡ bit_xor b k → a ≡ b
xor_inj a b k e = xor_left (a + b) a b k (omega arith) (omega arith) e

-- the polynomial has the highest bit, so a sum tells whether the bit that was shifted out was 1
poly_high : (c : ℕ) → c < 2 ^ 31 → 2 ^ 31 ≤ bit_xor c 3988292384
poly_high c h =
    let e : bit_xor (0 * 2 ^ 31 + c) (1 * 2 ^ 31 + 1840808736) ≡ bit_xor 0 1 * 2 ^ 31 + bit_xor c 1840808736 = xor_block 31 0 1 c 1840808736 h (lit< tt) in
    let z : 0 * 2 ^ 31 + c ≡ c = omega arith in
    let g : bit_xor c 3988292384 ≡ 1 * 2 ^ 31 + bit_xor c 1840808736 = ap (λ (m : ℕ). bit_xor m 3988292384) (sym z) ∙ e in
    omega arith

bit_odd : (c : ℕ) → c % 2 ≡ 1 → bit c ≡ bit_xor (c / 2) 3988292384
unfolding bit
bit_odd c h = rw (eq-eqb _ _ h)

bit_even : (c : ℕ) → c % 2 ≡ 0 → bit c ≡ c / 2
unfolding bit
bit_even c h = rw (ne_eqb (c % 2) 1 (λ e. omega arith))

parity : (c : ℕ) → (c % 2 ≡ 0) ⊎ (c % 2 ≡ 1)
parity c = by (eqb (c % 2) 0) refl
  where
    by : (t : Bool) → eqb (c % 2) 0 ≡ t → (c % 2 ≡ 0) ⊎ (c % 2 ≡ 1)
    by true e = inl (eqb-true _ _ e)
    by false e = inr (let h : c % 2 ≡ 0 → ⊥ = eqb-false _ _ e in omega arith)

bit_inj : (c d : ℕ) → c < 2 ^ 32 → d < 2 ^ 32 → bit c ≡ bit d → c ≡ d
bit_inj c d h k e = ⊎_elim (λ p. ⊎_elim (λ q. ee p q) (λ q. eo p q) (parity d)) (λ p. ⊎_elim (λ q. oe p q) (λ q. oo p q) (parity d)) (parity c)
  where
    ee : c % 2 ≡ 0 → d % 2 ≡ 0 → c ≡ d
    ee p q = let i : c / 2 ≡ d / 2 = sym (bit_even c p) ∙ e ∙ bit_even d q in omega arith

    oo : c % 2 ≡ 1 → d % 2 ≡ 1 → c ≡ d
    oo p q = let i : c / 2 ≡ d / 2 = xor_inj (c / 2) (d / 2) 3988292384 (sym (bit_odd c p) ∙ e ∙ bit_odd d q) in omega arith

    eo : c % 2 ≡ 0 → d % 2 ≡ 1 → c ≡ d
    eo p q =
        let i : c / 2 ≡ bit_xor (d / 2) 3988292384 = sym (bit_even c p) ∙ e ∙ bit_odd d q in
        absurd (omega (arith, poly_high (d / 2) (omega arith)))

    oe : c % 2 ≡ 1 → d % 2 ≡ 0 → c ≡ d
    oe p q =
        let i : bit_xor (c / 2) 3988292384 ≡ d / 2 = sym (bit_odd c p) ∙ e ∙ bit_even d q in
        absurd (omega (arith, poly_high (c / 2) (omega arith)))

bit_lt : (c : ℕ) → c < 2 ^ 32 → bit c < 2 ^ 32
bit_lt c h = ⊎_elim (λ p. rw (bit_even c p) (omega arith)) (λ p. rw (bit_odd c p) (xor_lt 32 (c / 2) 3988292384 (omega arith) (lit< tt))) (parity c)

bits_lt : (n c : ℕ) → c < 2 ^ 32 → bits n c < 2 ^ 32
unfolding bits
bits_lt zero c h = h
bits_lt (suc n) c h = bit_lt (bits n c) (bits_lt n c h)

bits_inj : (n c d : ℕ) → c < 2 ^ 32 → d < 2 ^ 32 → bits n c ≡ bits n d → c ≡ d
unfolding bits
bits_inj zero c d h k e = e
bits_inj (suc n) c d h k e = bits_inj n c d h k (bit_inj (bits n c) (bits n d) (bits_lt n c h) (bits_lt n d k) e)

wide : (b : ℕ) → b < 256 → b < 2 ^ 32
wide b h = omega arith

pub byte_lt : (c b : ℕ) → c < 2 ^ 32 → b < 256 → byte c b < 2 ^ 32
unfolding byte
byte_lt c b h k = bits_lt 8 (bit_xor c b) (xor_lt 32 c b h (wide b k))

byte_inj : (c d b : ℕ) → c < 2 ^ 32 → d < 2 ^ 32 → b < 256 → byte c b ≡ byte d b → c ≡ d
unfolding byte
byte_inj c d b h k i e = xor_inj c d b (bits_inj 8 _ _ (xor_lt 32 c b h (wide b i)) (xor_lt 32 d b k (wide b i)) e)

byte_inj_r : (c a b : ℕ) → c < 2 ^ 32 → a < 256 → b < 256 → byte c a ≡ byte c b → a ≡ b
unfolding byte
byte_inj_r c a b h k i e =
    let f : bit_xor c a ≡ bit_xor c b = bits_inj 8 _ _ (xor_lt 32 c a h (wide a k)) (xor_lt 32 c b h (wide b i)) e in
    xor_inj a b c (xor_comm a c ∙ f ∙ xor_comm c b)

-- ---- a list of bytes

run_inj : (l : List ℕ) (c d : ℕ) → Bytes l → c < 2 ^ 32 → d < 2 ^ 32 → run c l ≡ run d l → c ≡ d
unfolding run
run_inj [] c d a h k e = e
run_inj (b ∷ l) c d a h k e =
    byte_inj c d b h k (a 0) (run_inj l (byte c b) (byte d b) (λ i. a (suc i)) (byte_lt c b h (a 0)) (byte_lt d b k (a 0)) e)

pub run_lt : (l : List ℕ) (c : ℕ) → Bytes l → c < 2 ^ 32 → run c l < 2 ^ 32
unfolding run
run_lt [] c a h = h
run_lt (b ∷ l) c a h = run_lt l (byte c b) (λ i. a (suc i)) (byte_lt c b h (a 0))

pub crc32_lt : (l : List ℕ) → Bytes l → crc32 l < 2 ^ 32
unfolding crc32
crc32_lt l a = xor_lt 32 (run 4294967295 l) 4294967295 (run_lt l 4294967295 a (lit< tt)) (lit< tt)

run_set : (l : List ℕ) (c k v : ℕ) → Bytes l → c < 2 ^ 32 → k < length l → v < 256 → run c (set l k v) ≡ run c l → v ≡ get_or l k 0
unfolding run
run_set [] c k v a h i j e = absurd (omega arith)
run_set (b ∷ l) c zero v a h i j e =
    byte_inj_r c v b h j (a 0) (run_inj l (byte c v) (byte c b) (λ n. a (suc n)) (byte_lt c v h j) (byte_lt c b h (a 0)) e)
run_set (b ∷ l) c (suc k) v a h i j e = run_set l (byte c b) k v (λ n. a (suc n)) (byte_lt c b h (a 0)) (omega arith) j e

-- a sum stays the same only where the byte does
pub crc32_set : (l : List ℕ) (k v : ℕ) → Bytes l → k < length l → v < 256 → crc32 (set l k v) ≡ crc32 l → v ≡ get_or l k 0
unfolding crc32
crc32_set l k v a h j e = run_set l 4294967295 k v a (lit< tt) h j (xor_inj _ _ 4294967295 e)

-- a byte changed gives another sum
pub other_byte : (l : List ℕ) (k v : ℕ) → Bytes l → k < length l → v < 256 → (v ≡ get_or l k 0 → ⊥) → crc32 l ≢ crc32 (set l k v)
other_byte l k v a h j d e = d (crc32_set l k v a h j (sym e))

-- ---- sums of parts

-- a difference taken twice
xor_back : (n a k : ℕ) → a ≤ n → bit_xor (bit_xor a k) k ≡ a
xor_back zero a k h =
    let z : a ≡ 0 = omega arith in
    ap (λ (x : ℕ). bit_xor (bit_xor x k) k) z ∙ ap (λ (x : ℕ). bit_xor x k) (xor_zero_l k) ∙ xor_self k ∙ sym z
xor_back (suc n) a k h =
    let x : ℕ = bit_xor a k in
    let s : x ≡ bit_xor (a / 2) (k / 2) * 2 + differ (a % 2) (k % 2) = xor_step a k in
    let d : differ (a % 2) (k % 2) ≡ (a % 2 + k % 2) % 2 = differ_is (a % 2) (k % 2) (omega arith) (omega arith) in
    let q : x / 2 ≡ bit_xor (a / 2) (k / 2) = omega arith in
    let t : bit_xor x k ≡ bit_xor (x / 2) (k / 2) * 2 + differ (x % 2) (k % 2) = xor_step x k in
    let u : bit_xor (x / 2) (k / 2) ≡ a / 2 = ap (λ (y : ℕ). bit_xor y (k / 2)) q ∙ xor_back n (a / 2) (k / 2) (omega arith) in
    let v : differ (x % 2) (k % 2) ≡ (x % 2 + k % 2) % 2 = differ_is (x % 2) (k % 2) (omega arith) (omega arith) in
    omega arith

run_append : (c : ℕ) (l m : List ℕ) → run c (l ++ m) ≡ run (run c l) m
unfolding run
run_append c [] m = refl
run_append c (b ∷ l) m = run_append (byte c b) l m

pub more_none : (s : ℕ) → more s [] ≡ s
unfolding more run
more_none s = xor_back s s 4294967295 (omega arith)

pub more_append : (s : ℕ) (l m : List ℕ) → more (more s l) m ≡ more s (l ++ m)
unfolding more
more_append s l m = rw (xor_back (run (bit_xor s 4294967295) l) (run (bit_xor s 4294967295) l) 4294967295 (omega arith), run_append)

-- the sum of none is 0
pub crc32_more : (l : List ℕ) → crc32 l ≡ more 0 l
unfolding crc32 more
crc32_more l = refl

pub crc32_append : (l m : List ℕ) → more (crc32 l) m ≡ crc32 (l ++ m)
crc32_append l m = rw (crc32_more l, crc32_more (l ++ m)) (more_append 0 l m)

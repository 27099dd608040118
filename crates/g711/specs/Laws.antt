-- Laws of G.711: the tables by one computed test over all entries, what the code reads off the bits of a sample's size, and the loops. Assumes nothing.
use Rattle.std.proofs.Math.Path.{◌≡◌, refl, sym}
use Rattle.std.proofs.Common.{ap, ◌∙◌, le→leb}
use Rattle.std.specs.Prelude.{Bool, not, ◌&&◌, ◌||◌, leb, Float, ℤ, pos, negsuc, nat_abs, length, get_or}
use Rattle.std.proofs.Math.Bool.{true, false, cond}
use mathlib.Core.List.{List, [], ◌∷◌, map}
use Prim.Native.Nat.{ℕ, zero, suc, ◌+◌, ◌/◌, ◌^◌, ◌≤◌, ◌<◌}
use native.Mathlib.Omega.{arith}
use Rattle.std.proofs.Math.Dec.{T, eqb, ltb}
use Rattle.std.specs.Float.{Format, nan, inf, fin, binary32}
use Rattle.std.specs.Float.Ieee.{of_int, to_bits, in_unsigned, in_float, is_nan}
use Rattle.std.specs.Float.Ieee.Back.{unsigned_back}
use Rattle.std.specs.Float.Ieee.Bits.{to_bits-lt}
use Rattle.std.specs.Float.Ieee.Fits.{of_int-fits}
use Rattle.std.specs.Int.Signed.{mag, lt_z}
use borrow.Author.Tests.{eq-eqb, ne_eqb, eqb-true, ltb-true, ltb-false}
use Rattle.laws.specs.Ints.{sameZ, sameZ_yes, sameZ_true, sameZ_false}
use Rattle.laws.specs.Lists.{at}
use Rattle.laws.specs.Loops.{every, every_at}
use Rattle.g711.specs.declared.Form.{Form}
use Rattle.g711.specs.G711.{mu, a, known, value, last, read, written, refusal, read_call, write_call}
use Rattle.g711.specs.Fast.{form, sized, lowest, five_above, fault, leading, sign_bit}

-- ---- the tables

-- every entry of a table is the rule at its place
pub record Meets (rule : ℕ → ℤ) (l : List ℤ) : Type 0 where
  pub each : (b : ℕ) → b < 256 → at l b ≡ rule b

-- the samples of bytes by a table: those of the rule that it meets
pub record Expanded (t : List ℤ) (bytes : List ℕ) (out : List ℤ) : Type 0 where
  pub by : (rule : ℕ → ℤ) → Meets rule t → ((k : ℕ) → get_or bytes k 0 < 256) → out ≡ map rule bytes

-- the test of all entries, and the lemma that both tables share
unfoldable pub meets : (ℕ → ℤ) → List ℤ → Bool
meets rule l = every 256 (λ k. sameZ (at l k) (rule k))

pub entry : (rule : ℕ → ℤ) (l : List ℤ) → T (meets rule l) → Meets rule l
unfolding meets
entry rule l t = record { each = λ b h. sameZ_yes (at l b) (rule b) (every_at 256 (λ k. sameZ (at l k) (rule k)) t b h) }

-- a table that meets a rule gives what the rule gives, for all bytes of a list
pub met : (rule : ℕ → ℤ) (t : List ℤ) (l : List ℕ) → Meets rule t → ((k : ℕ) → get_or l k 0 < 256) → map (at t) l ≡ map rule l
met rule t [] m h = refl
met rule t (x ∷ l) m h = let e = m.each x (h 0) in let r = met rule t l m (λ k. h (suc k)) in λ i. e i ∷ r i

-- ---- the last place of a value

module _ (f : ℕ → ℤ) (z : ℤ) where
  pub last_none : (n : ℕ) → ((k : ℕ) → k < n → f k ≡ z → ⊥) → last f z n ≡ 256
  unfolding last
  last_none zero h = refl
  last_none (suc n) h = by (sameZ (f n) z) refl (last_none n (λ k l. h k (omega arith)))
    where
      by : (t : Bool) → sameZ (f n) z ≡ t → last f z n ≡ 256 → cond t n (last f z n) ≡ 256
      by true e g = absurd (h n (omega arith) (sameZ_true (f n) z e))
      by false e g = g

  pub last_at : (n k : ℕ) → k < n → f k ≡ z → ((j : ℕ) → j < n → f j ≡ z → j ≤ k) → last f z n ≡ k
  unfolding last
  last_at zero k l e h = absurd (omega arith)
  last_at (suc n) k l e h = by (sameZ (f n) z) refl (λ g. last_at n k g e (λ j m. h j (omega arith)))
    where
      by : (t : Bool) → sameZ (f n) z ≡ t → (k < n → last f z n ≡ k) → cond t n (last f z n) ≡ k
      by true q g = omega (arith, h n (omega arith) (sameZ_true (f n) z q))
      by false q g = g (go (ltb k n) refl)
        where
          go : (t : Bool) → ltb k n ≡ t → k < n
          go true m = ltb-true k n m
          go false m =
              let i : n ≤ k = ltb-false k n m in
              let same : k ≡ n = omega arith in
              absurd (sameZ_false (f n) z q (rw same at e))

  -- where there is one, the value is there
  pub last_is : (n : ℕ) → last f z n < 256 → f (last f z n) ≡ z
  unfolding last
  last_is zero h = absurd (omega arith)
  last_is (suc n) h = by (sameZ (f n) z) refl h (last_is n)
    where
      by : (t : Bool) → sameZ (f n) z ≡ t → cond t n (last f z n) < 256 → (last f z n < 256 → f (last f z n) ≡ z) → f (cond t n (last f z n)) ≡ z
      by true e g r = sameZ_true (f n) z e
      by false e g r = r g

-- ---- tests

pub yes_le : (m n : ℕ) → m ≤ n → leb m n ≡ true
yes_le m n h = by (leb m n) (le→leb m n h)
  where
    by : (t : Bool) → T t → t ≡ true
    by true t = refl
    by false t = absurd t

module _ (f : Form) (z : ℤ) (x l : ℕ) (e : x ≡ sized f z) (g : l ≡ lowest x) where
  pub fault_none : nat_abs z ≤ 32768 → (ltb (x / 64) l && leb l (x / 32)) ≡ true → 0 ≡ fault f z
  unfolding fault five_above
  fault_none h t = rw (← e, ← g, t, yes_le (nat_abs z) 32768 h)

  pub fault_one : (ltb (x / 64) l && leb l (x / 32)) ≡ false → 1 ≡ fault f z
  unfolding fault five_above
  fault_one t = rw (← e, ← g, t)

-- ---- by law

-- what holds of both holds of a law that is known
pub both : (P : ℕ → Type 0) → P 1 → P 2 → (law : ℕ) → known law ≡ true → P law
unfolding known
both P p q law e = by (eqb law 1) (eqb law 2) refl refl e
  where
    by : (s t : Bool) → eqb law 1 ≡ s → eqb law 2 ≡ t → (s || t) ≡ true → P law
    by true t f g e = rw (eqb-true law 1 f) p
    by false true f g e = rw (eqb-true law 2 g) q
    by false false f g e = let n : ◌≡◌ {A = ℕ} 0 1 = cc in absurd (omega arith)

-- ---- the calls, by the code's tests

module _ (law : ℕ) (e : known law ≡ true) where
  module _ (bytes : List ℕ) (before out : List ℤ) (n : length bytes ≡ length before) where
    pub read_done : out ≡ map (value law) bytes → read 0 out ≡ read_call law bytes before
    unfolding read_call refusal
    read_done g = rw (e, eq-eqb (length bytes) (length before) n) (ap (read 0) g)

    pub read_a : law ≡ 1 → out ≡ map a bytes → read 0 out ≡ read_call law bytes before
    unfolding value
    read_a f g = let e : (b : ℕ) → a b ≡ value law b = λ b. sym (rw (eq-eqb law 1 f)) in read_done (g ∙ (λ i. map (λ b. e b i) bytes))

    pub read_mu : (law ≡ 1 → ⊥) → out ≡ map mu bytes → read 0 out ≡ read_call law bytes before
    unfolding value
    read_mu f g = let e : (b : ℕ) → mu b ≡ value law b = λ b. sym (rw (ne_eqb law 1 f)) in read_done (g ∙ (λ i. map (λ b. e b i) bytes))

pub bias_le : (law : ℕ) (f : Form) → f ≡ form law → f.bias ≤ 132
unfolding form
bias_le law f e = rw e (by (eqb law 1))
  where
    A : Form
    A = record { bias = 0; lift = 256; flips = 0xd5 }

    M : Form
    M = record { bias = 132; lift = 0; flips = 0xff }

    by : (p : Bool) → (cond p A M).bias ≤ 132
    by true = omega arith
    by false = omega arith

-- not refused: the law is known, and the lengths are equal
pub taken : (law m n code : ℕ) → code ≡ refusal law m n → code ≡ 0 → (known law ≡ true) × (m ≡ n)
unfolding refusal
taken law m n code c z = by (known law) (eqb m n) refl refl (sym c ∙ z)
  where
    by : (p q : Bool) → known law ≡ p → eqb m n ≡ q → ◌≡◌ {A = ℕ} (cond p (cond q 0 7) 16) 0 → (known law ≡ true) × (m ≡ n)
    by true true f g h = (f, eqb-true m n g)
    by true false f g h = absurd (omega arith)
    by false q f g h = absurd (omega arith)

pub read_refused : (law : ℕ) (bytes : List ℕ) (before : List ℤ) (code : ℕ) → code ≡ refusal law (length bytes) (length before) → (code ≡ 0 → ⊥)
    → read code before ≡ read_call law bytes before
unfolding read_call
read_refused law bytes before code c n = rw (← c, ne_eqb code 0 n)

pub write_refused : (law : ℕ) (samples : List ℤ) (before : List ℕ) (code : ℕ) → code ≡ refusal law (length before) (length samples) → (code ≡ 0 → ⊥)
    → written code before ≡ write_call law samples before
unfolding write_call
write_refused law samples before code c n = rw (← c, ne_eqb code 0 n, ne_eqb code 0 n)

-- ---- words of 16 bits, by the code's test on y, which is z read back

module _ {y z : ℤ} (e : y ≡ z) where
  pub sign_neg : lt_z y (pos 0) ≡ true → 128 ≡ sign_bit z
  unfolding sign_bit
  sign_neg p = go z (rw e at p)
    where
      go : (z : ℤ) → lt_z z (pos 0) ≡ true → 128 ≡ sign_bit z
      go (pos n) q = let h : n < 0 = ltb-true n 0 q in absurd (omega arith)
      go (negsuc n) q = refl

  pub sign_pos : lt_z y (pos 0) ≡ false → 0 ≡ sign_bit z
  unfolding sign_bit
  sign_pos p = go z (rw e at p)
    where
      go : (z : ℤ) → lt_z z (pos 0) ≡ false → 0 ≡ sign_bit z
      go (pos n) q = refl
      go (negsuc n) q = let b : ◌≡◌ {A = Bool} true false = q in let k : ◌≡◌ {A = ℕ} 0 1 = cc in absurd (omega arith)

  -- without its sign, by way of its magnitude, which is one less where it is negative
  pub size_neg : lt_z y (pos 0) ≡ true → mag z + 1 ≡ nat_abs z
  size_neg p = go z (rw e at p)
    where
      go : (z : ℤ) → lt_z z (pos 0) ≡ true → mag z + 1 ≡ nat_abs z
      go (pos n) q = let h : n < 0 = ltb-true n 0 q in absurd (omega arith)
      go (negsuc n) q = omega arith

  pub size_pos : lt_z y (pos 0) ≡ false → mag z ≡ nat_abs z
  size_pos p = go z (rw e at p)
    where
      go : (z : ℤ) → lt_z z (pos 0) ≡ false → mag z ≡ nat_abs z
      go (pos n) q = refl
      go (negsuc n) q = let b : ◌≡◌ {A = Bool} true false = q in let k : ◌≡◌ {A = ℕ} 0 1 = cc in absurd (omega arith)

pub abs_of : (z : ℤ) → mag z < 2 ^ 15 → nat_abs z ≤ 32768
abs_of (pos n) h = omega arith
abs_of (negsuc n) h = omega arith

-- ---- a number of 16 bits as a float

no_nan : (f : Format) (w : ℕ) (x : Float) → T (in_unsigned f w x) → T (not (is_nan x))
unfolding in_unsigned is_nan
no_nan f w nan t = absurd t
no_nan f w (inf s) t = absurd t
no_nan f w (fin s m e) t = tt

fits_float : (n : ℕ) → n < 2 ^ 16 → T (in_float binary32 (pos n))
unfolding in_float
fits_float n h = le→leb n (2 ^ 24) (omega arith)

pub float_no_nan : (n : ℕ) → n < 2 ^ 16 → T (not (is_nan (of_int binary32 (pos n))))
float_no_nan n h = no_nan binary32 16 (of_int binary32 (pos n)) (unsigned_back binary32 16 n (fits_float n h) h).0

pub leading_lt : (n : ℕ) → leading n < 8192
unfolding leading
leading_lt n = let h : to_bits binary32 (of_int binary32 (pos n)) < 4294967296 = to_bits-lt binary32 (of_int binary32 (pos n)) (of_int-fits binary32 (pos n)) in omega arith

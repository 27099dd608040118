-- Laws of G.711 that rest on which byte comes back: the byte that is found for a table value, all samples of a call, and what `write` answers. Assumes nothing.
use Rattle.std.proofs.Math.Path.{◌≡◌, refl, sym}
use Rattle.std.proofs.Common.{ap, ◌∙◌, add-zero, pow-suc, lt_of_mul-lt-mul_right, lit<, ltb→lt, leb→le}
use Rattle.std.specs.Prelude.{Bool, ◌&&◌, leb, ℤ, pos, negsuc, neg_ℤ, nat_abs, length}
use Rattle.std.proofs.Math.Bool.{true, false, cond}
use mathlib.Core.List.{List, [], ◌∷◌, map}
use Prim.Native.Nat.{ℕ, zero, suc, ◌+◌, ◌-◌, ◌*◌, ◌/◌, ◌%◌, ◌^◌, ◌≤◌, ◌<◌}
use native.Mathlib.Omega.{arith}
use Rattle.std.specs.Int.Bits.{bit_and, bit_or, bit_xor, and_step, and_self, or_add_and}
use Rattle.std.proofs.lemmas.Nat.{and_le_l, and_le_r, xor_lt}
use Rattle.std.proofs.Math.Dec.{T, eqb, ltb, eqb→eq}
use Rattle.std.specs.Float.Ieee.{of_int, to_bits}
use borrow.Author.Tests.{eq-eqb, eqb-true, eqb-false, lt-ltb, le-ltb, ltb-true, ltb-false}
use Rattle.std.proofs.Math.Facts.{and_yes}
use Rattle.laws.specs.Ints.{sameZ, sameZ_yes}
use Rattle.laws.specs.Lists.{at}
use Rattle.laws.specs.Loops.{both_hold, every, every_at, steps}
use Rattle.g711.specs.declared.Form.{Form}
use Rattle.g711.specs.G711.{segment, step, mu, a, known, value, byte_of, back, all_values, written, refusal, write_call}
use Rattle.g711.specs.Fast.{form, lifted, sized, lowest, five_above, fault, faults, leading, sign_bit, segment_less, found_byte}
use Rattle.g711.specs.Laws.{last_none, last_at, yes_le, both}

-- where a test holds of all pairs below two numbers that another holds of, it holds of each such pair
implied : (ℕ → ℕ → Bool) → (ℕ → ℕ → Bool) → ℕ → ℕ → Bool
implied p q m n = every m (λ j. every n (λ k. cond (p j k) (q j k) true))

implied_at : (p q : ℕ → ℕ → Bool) (m n j k : ℕ) → T (implied p q m n) → j < m → k < n → p j k ≡ true → T (q j k)
unfolding implied
implied_at p q m n j k t h g e =
    let r : T (cond (p j k) (q j k) true) = every_at n (λ k. cond (p j k) (q j k) true) (every_at m (λ j. every n (λ k. cond (p j k) (q j k) true)) t j h) k g in
    rw e at r

-- x is an odd number times a power of two, which is that bit
record Odd (n x : ℕ) : Type 0 where
  k : ℕ
  q : ℕ
  below : k < n
  is : x ≡ (2 * q + 1) * 2 ^ k
  low : lowest x ≡ 2 ^ k

lowest_odd : (y : ℕ) → lowest (2 * y + 1) ≡ 1
unfolding lowest
lowest_odd y =
    let h : (2 * y + 1) / 2 ≡ y = omega arith in
    let g : (2 * y + 1 - 1) / 2 ≡ y = omega arith in
    let o : (2 * y + 1) % 2 ≡ 1 = omega arith in
    let z : (2 * y + 1 - 1) % 2 ≡ 0 = omega arith in
    let e : bit_and (2 * y + 1) (2 * y + 1 - 1) ≡ y * 2 + 0 = and_step (2 * y + 1) (2 * y + 1 - 1) ∙ rw (h, g, o, z, and_self y) in
    omega (arith, e)

lowest_even : (y : ℕ) → 0 < y → lowest (2 * y) ≡ 2 * lowest y
unfolding lowest
lowest_even y p =
    let h : (2 * y) / 2 ≡ y = omega arith in
    let g : (2 * y - 1) / 2 ≡ y - 1 = omega arith in
    let o : (2 * y) % 2 ≡ 0 = omega arith in
    let z : (2 * y - 1) % 2 ≡ 1 = omega arith in
    let e : bit_and (2 * y) (2 * y - 1) ≡ bit_and y (y - 1) * 2 + 0 = and_step (2 * y) (2 * y - 1) ∙ rw (h, g, o, z) in
    omega (arith, e, and_le_l y (y - 1))

odd_part : (n x : ℕ) → 0 < x → x < 2 ^ n → Odd n x
odd_part zero x p h = absurd (omega arith)
odd_part (suc n) x p h = by (x % 2) refl (odd_part n (x / 2))
  where
    y : ℕ
    y = x / 2

    twice : (m : ℕ) → 2 ^ suc m ≡ 2 * 2 ^ m
    twice m = pow-suc 2 m ∙ omega arith

    even : x ≡ 2 * y → Odd n y → Odd (suc n) x
    even e o =
        record {
          k = suc o.k;
          q = o.q;
          below = omega (arith, o.below);
          is = e ∙ ap (λ (v : ℕ). 2 * v) o.is ∙ again (2 * o.q + 1) (2 ^ o.k) ∙ ap (λ (v : ℕ). (2 * o.q + 1) * v) (sym (twice o.k));
          low = ap lowest e ∙ lowest_even y (omega (arith, e)) ∙ ap (λ (v : ℕ). 2 * v) o.low ∙ sym (twice o.k);
        }
      where
        again : (a b : ℕ) → 2 * (a * b) ≡ a * (2 * b)
        again a b = omega arith

    by : (r : ℕ) → x % 2 ≡ r → (0 < y → y < 2 ^ n → Odd n y) → Odd (suc n) x
    by zero e o =
        let d : x ≡ 2 * y = omega (arith, e) in
        even d (o (omega (arith, d)) (omega (arith, d, twice n)))
    by (suc r) e o =
        let d : x ≡ 2 * y + 1 = omega (arith, e) in
        record { k = 0; q = y; below = omega arith; is = d ∙ omega arith; low = ap lowest d ∙ lowest_odd y }

-- the highest bit is the fifth above it: the odd number is below 64
few : (x l q : ℕ) → 0 < l → x ≡ (2 * q + 1) * l → x / 64 < l → q < 32
few x l q p e h =
    let g : (2 * q + 1) * l < 64 * l = omega (arith, e) in
    let i : 2 * q + 1 < 64 = lt_of_mul-lt-mul_right l g in
    omega arith

mu_size : ℕ → ℕ
mu_size t = (8 * step t + 132) * 2 ^ segment t

a_size : ℕ → ℕ
a_size t = cond (eqb (segment t) 0) (16 * step t + 8) ((16 * step t + 264) * 2 ^ (segment t - 1))

-- a size whose highest bit is the fifth above its lowest, in bounds, is that of seven bits less some: one test of all odd numbers below 64 times the powers of two
fitting : ℕ → ℕ → ℕ → ℕ → Bool
fitting least most k q =
    let x : ℕ = (2 * q + 1) * 2 ^ k in
    (ltb (x / 64) (2 ^ k) && leb (2 ^ k) (x / 32)) && (leb least x && leb x most)

seven : ℕ → (ℕ → ℕ) → ℕ → ℕ → Bool
seven less size k q = ltb (16 * k + q - (48 + less)) 128 && eqb (size (16 * k + q - (48 + less)) + 16 * less) ((2 * q + 1) * 2 ^ k)

record Seven (less : ℕ) (size : ℕ → ℕ) (x : ℕ) : Type 0 where
  t : ℕ
  small : t < 128
  is : size t + 16 * less ≡ x

seven_bits : (least most less : ℕ) (size : ℕ → ℕ) → T (implied (fitting least most) (seven less size) 16 32) → (x : ℕ) → 0 < x → x < 2 ^ 16 → least ≤ x → x ≤ most
    → five_above x ≡ true → Seven less size x
unfolding five_above fitting seven
seven_bits least most less size t x p h i j e =
    let o = odd_part 16 x p h in
    let k : ℕ = o.k in
    let q : ℕ = o.q in
    let f : (ltb (x / 64) (2 ^ k) && leb (2 ^ k) (x / 32)) ≡ true = rw o.low at e in
    let l : x / 64 < 2 ^ k = ltb-true (x / 64) (2 ^ k) (both_hold (ltb (x / 64) (2 ^ k)) (leb (2 ^ k) (x / 32)) f).0 in
    let b : q < 32 = few x (2 ^ k) q (omega arith) o.is l in
    let g : fitting least most k q ≡ true = rw (← o.is, f, yes_le least x i, yes_le x most j) in
    let r = implied_at (fitting least most) (seven less size) 16 32 k q t o.below b g in
    let s = and_yes (ltb (16 * k + q - (48 + less)) 128) (eqb (size (16 * k + q - (48 + less)) + 16 * less) ((2 * q + 1) * 2 ^ k)) r in
    record {
      t = 16 * k + q - (48 + less);
      small = ltb→lt (16 * k + q - (48 + less)) 128 s.0;
      is = eqb→eq (size (16 * k + q - (48 + less)) + 16 * less) ((2 * q + 1) * 2 ^ k) s.1 ∙ sym o.is;
    }

-- seven bits under a sign's flipping have the size with that sign: one test of all, for each law and sign
turned : (ℕ → ℤ) → ℕ → (ℕ → ℤ) → Bool
turned rule flips f = every 128 (λ k. sameZ (rule (bit_xor k flips)) (f k))

turn : (rule : ℕ → ℤ) (flips : ℕ) (f : ℕ → ℤ) → T (turned rule flips f) → (k : ℕ) → k < 128 → rule (bit_xor k flips) ≡ f k
unfolding turned
turn rule flips f t k h = sameZ_yes (rule (bit_xor k flips)) (f k) (every_at 128 (λ k. sameZ (rule (bit_xor k flips)) (f k)) t k h)

mu_up : (k : ℕ) → k < 128 → mu (bit_xor k 0xff) ≡ pos (mu_size k - 132)
unfolding turned every sameZ mu mu_size
mu_up = turn mu 0xff (λ k. pos (mu_size k - 132)) tt

mu_down : (k : ℕ) → k < 128 → mu (bit_xor k 0x7f) ≡ neg_ℤ (pos (mu_size k - 132))
unfolding turned every sameZ mu mu_size
mu_down = turn mu 0x7f (λ k. neg_ℤ (pos (mu_size k - 132))) tt

a_up : (k : ℕ) → k < 128 → a (bit_xor k 0xd5) ≡ pos (a_size k)
unfolding turned every sameZ a a_size
a_up = turn a 0xd5 (λ k. pos (a_size k)) tt

a_down : (k : ℕ) → k < 128 → a (bit_xor k 0x55) ≡ neg_ℤ (pos (a_size k))
unfolding turned every sameZ a a_size
a_down = turn a 0x55 (λ k. neg_ℤ (pos (a_size k))) tt

record Byte (rule : ℕ → ℤ) (z : ℤ) : Type 0 where
  b : ℕ
  small : b < 256
  is : rule b ≡ z

-- by its size in seven bits, where these under either sign's flipping have it
signed : (rule : ℕ → ℤ) (size : ℕ → ℕ) (up down : ℕ) → up < 256 → down < 256 → ((k : ℕ) → k < 128 → rule (bit_xor k up) ≡ pos (size k))
    → ((k : ℕ) → k < 128 → rule (bit_xor k down) ≡ neg_ℤ (pos (size k))) → (z : ℤ) (t : ℕ) → t < 128 → size t ≡ nat_abs z → Byte rule z
signed rule size up down u d f g (pos n) t h e =
    record { b = bit_xor t up; small = xor_lt 8 t up (omega arith) u; is = f t h ∙ ap pos e }
signed rule size up down u d f g (negsuc n) t h e =
    record { b = bit_xor t down; small = xor_lt 8 t down (omega arith) d; is = g t h ∙ ap (λ (s : ℕ). neg_ℤ (pos s)) e }

faultless : (f : Form) (z : ℤ) → fault f z ≡ 0 → (five_above (sized f z) ≡ true) × (nat_abs z ≤ 32768)
unfolding fault
faultless f z e = by (five_above (sized f z)) (leb (nat_abs z) 32768) refl refl e
  where
    by : (p q : Bool) → five_above (sized f z) ≡ p → leb (nat_abs z) 32768 ≡ q → ◌≡◌ {A = ℕ} (cond (p && q) 0 1) 0 → (five_above (sized f z) ≡ true) × (nat_abs z ≤ 32768)
    by true true g h e = (g, leb→le (nat_abs z) 32768 (rw h tt))
    by true false g h e = absurd (omega arith)
    by false q g h e = absurd (omega arith)

mu_byte : (z : ℤ) → fault (form 2) z ≡ 0 → Byte mu z
unfolding form sized lifted implied every fitting seven mu_size
mu_byte z e =
    let x : ℕ = nat_abs z + 132 in
    let h : nat_abs z ≤ 32768 = (faultless (form 2) z e).1 in
    let f : five_above x ≡ true = rw (le-ltb x 0 (omega arith)) at (faultless (form 2) z e).0 in
    let s = seven_bits 132 32900 0 mu_size tt x (omega arith) (omega arith) (omega arith) (omega arith) f in
    signed mu (λ k. mu_size k - 132) 0xff 0x7f (lit< tt) (lit< tt) mu_up mu_down z s.t s.small (omega (arith, s.is))

a_byte : (z : ℤ) → fault (form 1) z ≡ 0 → Byte a z
unfolding form sized lifted implied every fitting seven a_size
a_byte z e = by (ltb (nat_abs z) 256) refl (rw add-zero at (faultless (form 1) z e).0)
  where
    n : ℕ
    n = nat_abs z

    h : n ≤ 32768
    h = (faultless (form 1) z e).1

    given : (t : ℕ) → t < 128 → a_size t ≡ n → Byte a z
    given = signed a a_size 0xd5 0x55 (lit< tt) (lit< tt) a_up a_down z

    by : (p : Bool) → ltb n 256 ≡ p → five_above (cond p (n + 256) n) ≡ true → Byte a z
    by true g f =
        let l : n < 256 = ltb-true n 256 g in
        let s = seven_bits 256 511 16 a_size tt (n + 256) (omega arith) (omega arith) (omega arith) (omega arith) f in
        given s.t s.small (omega (arith, s.is))
    by false g f =
        let l : 256 ≤ n = ltb-false n 256 g in
        let s = seven_bits 256 32768 0 a_size tt n (omega arith) (omega (arith, h)) l h f in
        given s.t s.small (omega (arith, s.is))

-- one test over all bytes of a law: a byte's sample has no fault, and the byte found of it is the one that it turns back into
finds : ℕ → Bool
finds law = every 256 (λ b. eqb (fault (form law) (value law b)) 0 && eqb (found_byte (form law) (value law b)) (back law b))

a_finds : T (finds 1)
unfolding finds every form value a back sized lifted lowest five_above fault leading of_int to_bits sign_bit segment_less found_byte
a_finds = tt

mu_finds : T (finds 2)
unfolding finds every form value mu back sized lifted lowest five_above fault leading of_int to_bits sign_bit segment_less found_byte
mu_finds = tt

-- zero has two bytes in mu-law
a_both : value 1 (back 1 127) ≡ value 1 127
unfolding value back a
a_both = refl

mu_both : value 2 (back 2 127) ≡ value 2 127
unfolding value back mu
mu_both = refl

of_a : (z : ℤ) → fault (form 1) z ≡ 0 → Byte (value 1) z
unfolding value
of_a = a_byte

of_mu : (z : ℤ) → fault (form 2) z ≡ 0 → Byte (value 2) z
unfolding value
of_mu = mu_byte

module _ (law : ℕ) (e : known law ≡ true) where
  any_byte : (z : ℤ) → fault (form law) z ≡ 0 → Byte (value law) z
  any_byte z = both (λ l. fault (form l) z ≡ 0 → Byte (value l) z) (of_a z) (of_mu z) law e

  found : (b : ℕ) → b < 256 → (fault (form law) (value law b) ≡ 0) × (found_byte (form law) (value law b) ≡ back law b)
  unfolding finds
  found b h =
      let t = every_at 256 (λ b. eqb (fault (form law) (value law b)) 0 && eqb (found_byte (form law) (value law b)) (back law b)) (both (λ l. T (finds l)) a_finds mu_finds law e) b h in
      let p = and_yes (eqb (fault (form law) (value law b)) 0) (eqb (found_byte (form law) (value law b)) (back law b)) t in
      (eqb→eq (fault (form law) (value law b)) 0 p.0, eqb→eq (found_byte (form law) (value law b)) (back law b) p.1)

  back_range : (b : ℕ) → b < 256 → (b ≤ back law b) × (back law b < 256)
  unfolding back
  back_range b h = by (eqb law 1) (eqb b 127) refl
    where
      by : (p q : Bool) → eqb b 127 ≡ q → (b ≤ cond p b (cond q 255 b)) × (cond p b (cond q 255 b) < 256)
      by true q f = (omega arith, h)
      by false true f = let g : b ≡ 127 = eqb-true b 127 f in (omega arith, omega arith)
      by false false f = (omega arith, h)

  pub back_lt : (b : ℕ) → b < 256 → back law b < 256
  back_lt b h = (back_range b h).1

  value_back : (b : ℕ) → value law (back law b) ≡ value law b
  unfolding back
  value_back b = by (eqb law 1) (eqb b 127) refl refl (both (λ l. value l (back l 127) ≡ value l 127) a_both mu_both law e)
    where
      by : (p q : Bool) → eqb law 1 ≡ p → eqb b 127 ≡ q → value law (cond (eqb law 1) 127 255) ≡ value law 127
          → value law (cond p b (cond q 255 b)) ≡ value law b
      by true q d f z = refl
      by false true d f z = let g : b ≡ 127 = eqb-true b 127 f in rw g (rw d at z)
      by false false d f z = refl

  -- bytes of one sample turn back into one byte, the greatest
  greatest : (b j : ℕ) → b < 256 → j < 256 → value law j ≡ value law b → j ≤ back law b
  greatest b j h l g =
      let s : back law j ≡ back law b = sym (found j l).1 ∙ ap (found_byte (form law)) g ∙ (found b h).1 in
      omega (arith, (back_range j l).0)

  pub there_back : (b : ℕ) → b < 256 → byte_of law (value law b) ≡ back law b
  unfolding byte_of
  there_back b h = last_at (value law) (value law b) 256 (back law b) (back_range b h).1 (value_back b) (λ j l g. greatest b j h l g)

  byte_none : (z : ℤ) → (fault (form law) z ≡ 0 → ⊥) → byte_of law z ≡ 256
  unfolding byte_of
  byte_none z f = last_none (value law) z 256 (λ k l g. f (sym (ap (fault (form law)) g) ∙ (found k l).0))

  byte_found : (z : ℤ) → fault (form law) z ≡ 0 → (byte_of law z ≡ found_byte (form law) z) × (byte_of law z < 256)
  byte_found z f =
      let y = any_byte z f in
      let t : byte_of law z ≡ back law y.b = ap (byte_of law) (sym y.is) ∙ there_back y.b y.small in
      (t ∙ sym (found y.b y.small).1 ∙ ap (found_byte (form law)) y.is, rw t (back_lt y.b y.small))

  all_fit : (l : List ℤ) → ((k : ℕ) → k < length l → fault (form law) (at l k) ≡ 0)
      → (all_values law l ≡ true) × (map (found_byte (form law)) l ≡ map (byte_of law) l)
  unfolding all_values
  all_fit [] h = (refl, refl)
  all_fit (z ∷ l) h =
      let g = byte_found z (h 0 (omega arith)) in
      let q = all_fit l (λ k i. h (suc k) (omega arith)) in
      (rw (lt-ltb (byte_of law z) 256 g.1, q.0), rw (g.0, q.1))

  each_fits : (l : List ℤ) → all_values law l ≡ true → (k : ℕ) → k < length l → fault (form law) (at l k) ≡ 0
  unfolding all_values
  each_fits [] v k h = absurd (omega arith)
  each_fits (z ∷ l) v k h = by (eqb (fault (form law) z) 0) refl k h (each_fits l)
    where
      two : (ltb (byte_of law z) 256 ≡ true) × (all_values law l ≡ true)
      two = both_hold (ltb (byte_of law z) 256) (all_values law l) v

      by : (t : Bool) → eqb (fault (form law) z) 0 ≡ t → (k : ℕ) → k < suc (length l)
          → (all_values law l ≡ true → (k : ℕ) → k < length l → fault (form law) (at l k) ≡ 0) → fault (form law) (at (z ∷ l) k) ≡ 0
      by true f zero h r = eqb-true (fault (form law) z) 0 f
      by true f (suc k) h r = r two.1 k (omega arith)
      by false f k h r =
          let n : byte_of law z < 256 = ltb-true (byte_of law z) 256 two.0 in
          absurd (omega (arith, byte_none z (eqb-false (fault (form law) z) 0 f)))

or_none : (a b : ℕ) → bit_or a b ≡ 0 → (a ≡ 0) × (b ≡ 0)
or_none a b e = (omega (arith, or_add_and a b, and_le_l a b, and_le_r a b), omega (arith, or_add_and a b, and_le_l a b, and_le_r a b))

module _ (f : Form) (l : List ℤ) where
  each_faultless : (n : ℕ) → faults f l n ≡ 0 → (k : ℕ) → k < n → fault f (at l k) ≡ 0
  unfolding faults steps
  each_faultless zero e k h = absurd (omega arith)
  each_faultless (suc n) e k h = by (eqb k n) refl (λ g i. each_faultless n g k i)
    where
      two : (faults f l n ≡ 0) × (fault f (at l n) ≡ 0)
      two = or_none (faults f l n) (fault f (at l n)) e

      by : (t : Bool) → eqb k n ≡ t → (faults f l n ≡ 0 → k < n → fault f (at l k) ≡ 0) → fault f (at l k) ≡ 0
      by true g r = rw (eqb-true k n g) two.1
      by false g r = r two.0 (omega (arith, eqb-false k n g))

  all_faultless : (n : ℕ) → ((k : ℕ) → k < n → fault f (at l k) ≡ 0) → faults f l n ≡ 0
  unfolding faults steps
  all_faultless zero h = refl
  all_faultless (suc n) h = rw (all_faultless n (λ k i. h k (omega arith)), h n (omega arith))

module _ (law : ℕ) (e : known law ≡ true) where
  module _ (samples : List ℤ) (before : List ℕ) (n : length before ≡ length samples) where
    pub write_none : (faults (form law) samples (length samples) ≡ 0 → ⊥) → written 17 before ≡ write_call law samples before
    unfolding write_call refusal
    write_none f = rw (e, eq-eqb (length before) (length samples) n) (by (all_values law samples) refl)
      where
        by : (t : Bool) → all_values law samples ≡ t
            → written 17 before ≡ cond (eqb (cond t 0 17) 0) (written 0 (map (byte_of law) samples)) (written (cond t 0 17) before)
        by true v = absurd (f (all_faultless (form law) samples (length samples) (each_fits law e samples v)))
        by false v = refl

    pub write_done : (out : List ℕ) → faults (form law) samples (length samples) ≡ 0 → out ≡ map (found_byte (form law)) samples
        → written 0 out ≡ write_call law samples before
    unfolding write_call refusal
    write_done out f g =
        let h = all_fit law e samples (each_faultless (form law) samples (length samples) f) in
        rw (e, eq-eqb (length before) (length samples) n, h.0) (ap (written 0) (g ∙ h.1))

-- The period of the draws (specs/Draws.antt): seed = 31821 · seed + 13849 modulo 65,536 (equation (96) of ITU-T G.729) visits all seeds, because 31821 is 1 modulo 4 and 13849 is odd.
-- By halving: 2 ^ j draws are z ↦ (1 + 4 · 2 ^ j · u) z + 2 ^ j (1 + 2 v), so that a return modulo 2 ^ (j + 1) takes an even number of them. No orbit is computed. Assumes nothing.
use Rattle.std.specs.Prelude.{ℕ, zero, suc, ◌+◌, ◌*◌, ◌-◌, ◌/◌, ◌%◌, ◌^◌, ◌≤◌, ◌<◌, ◌≡◌, refl, Bool, true, false, ◌↔◌, T, ltb, leb, ℤ, pos, negsuc, neg_ℤ, ◌+ℤ◌, ◌*ℤ◌}
use Rattle.std.proofs.Common.{sym, ap, ◌∙◌, subst, arith, add-zero, add-suc, suc-mul, zero-mul, pow_pos, pow-add, ltb-true, ltb-false, lt-ltb}
use Rattle.std.proofs.Math.Nat.{add-mul-mod_self_right, mod-add-div', mul-div_cancel_left}
use Rattle.std.proofs.Math.Facts.{and_yes, leb_yes}
use Rattle.std.specs.Int.{w16}
use mir.Val.{to_z, sel}
use mir.ValLaws.{to_z_pos, to_z-neg}
use Rattle.laws.specs.Loops.{steps}
use Rattle.basic_op.specs.Ops.{low16, extract_l}
use Rattle.basic_op.specs.Low.{low_lt}
use Rattle.fixed.specs.Fixed.{random, random_index}
use Rattle.fixed.specs.Draws.{draws, word, all_seeds, Period}

-- ---- numbers that are equal modulo m

record Congruent (m x y : ℕ) : Type 0 where
  a : ℕ
  b : ℕ
  is : x + a * m ≡ y + b * m

chain : (m x y z : ℕ) → Congruent m x y → Congruent m y z → Congruent m x z
chain m x y z s t = let e = s.is in let f = t.is in record { a = s.a + t.a; b = s.b + t.b; is = omega arith }

turned : (m x y : ℕ) → Congruent m x y → Congruent m y x
turned m x y s = record { a = s.b; b = s.a; is = sym s.is }

remainders : (m x y : ℕ) → Congruent m x y → x % m ≡ y % m
remainders m x y s = sym (add-mul-mod_self_right x s.a m) ∙ ap (λ (n : ℕ). n % m) s.is ∙ add-mul-mod_self_right y s.b m

congruent : (m x y : ℕ) → x % m ≡ y % m → Congruent m x y
congruent m x y e = record { a = y / m; b = x / m; is = crossed x y (x % m) (y % m) (x / m * m) (y / m * m) (mod-add-div' x m) (mod-add-div' y m) e }
  where
    crossed : (x y r s p q : ℕ) → r + p ≡ x → s + q ≡ y → r ≡ s → x + q ≡ y + p
    crossed x y r s p q e g h = omega arith

-- modulo 65,536, and so modulo each power of two up to it
low : (j x : ℕ) → j ≤ 16 → Congruent (2 ^ j) (x % 65536) x
low j x h =
    let e : j + (16 - j) ≡ 16 = omega arith in
    let k : 2 ^ j * 2 ^ (16 - j) ≡ 65536 = sym (pow-add 2 j (16 - j)) ∙ ap (λ (n : ℕ). 2 ^ n) e in
    record { a = x / 65536 * 2 ^ (16 - j); b = 0; is = whole (x % 65536) (x / 65536) (2 ^ j) (2 ^ (16 - j)) k ∙ mod-add-div' x 65536 ∙ omega arith }
  where
    whole : (r q m n : ℕ) → m * n ≡ 65536 → r + q * n * m ≡ r + q * 65536
    whole r q m n e = rw (← e) (omega arith)

-- ---- draws with no remainder taken

unfoldable iter : ℕ → ℕ → ℕ
iter zero z = z
iter (suc k) z = 31821 * iter k z + 13849

iter_add : (k m x : ℕ) → iter (k + m) x ≡ iter m (iter k x)
unfolding iter
iter_add k zero x = rw add-zero
iter_add k (suc m) x = rw add-suc (ap (λ (y : ℕ). 31821 * y + 13849) (iter_add k m x))

-- n draws take z to z + n (1 + 2 v) + 4 n u z, for some u and v
record Jump (n : ℕ) : Type 0 where
  u : ℕ
  v : ℕ
  is : (z : ℕ) → iter n z ≡ (1 + 4 * n * u) * z + n * (1 + 2 * v)

twice : (m u v z : ℕ) → (1 + 4 * m * u) * ((1 + 4 * m * u) * z + m * (1 + 2 * v)) + m * (1 + 2 * v) ≡ (1 + 4 * (m + m) * (u + 2 * m * u * u)) * z + (m + m) * (1 + 2 * (v + m * u + 2 * m * u * v))
twice m u v z = omega arith

doubled : (n : ℕ) → Jump n → Jump (n + n)
doubled n g =
    record {
      u = g.u + 2 * n * g.u * g.u;
      v = g.v + n * g.u + 2 * n * g.u * g.v;
      is = λ z. iter_add n n z ∙ ap (iter n) (g.is z) ∙ g.is ((1 + 4 * n * g.u) * z + n * (1 + 2 * g.v)) ∙ twice n g.u g.v z;
    }

double : (j : ℕ) → 2 ^ suc j ≡ 2 ^ j + 2 ^ j
double j = omega arith

jump : (j : ℕ) → Jump (2 ^ j)
unfolding iter
jump zero = record { u = 7955; v = 6924; is = λ z. omega arith }
jump (suc j) = rw double (doubled (2 ^ j) (jump j))

-- q times m draws add q m, modulo 2 m
record Moved (m q z : ℕ) : Type 0 where
  w : ℕ
  is : iter (q * m) z ≡ z + q * m + 2 * m * w

moved : (m : ℕ) → Jump m → (q z : ℕ) → Moved m q z
unfolding iter
moved m g zero z = record { w = 0; is = rw (zero-mul m) (omega arith) }
moved m g (suc q) z = more (moved m g q z)
  where
    more : Moved m q z → Moved m (suc q) z
    more r =
        let y : ℕ = z + q * m + 2 * m * r.w in
        record {
          w = r.w + (2 * g.u * y + g.v);
          is = rw (suc-mul q m, iter_add (q * m) m z, r.is) (g.is y ∙ omega arith);
        }

-- ---- modulo 2 ^ j a number returns after the multiples of 2 ^ j draws, and after no others

record Multiple (m n : ℕ) : Type 0 where
  q : ℕ
  is : n ≡ q * m

even : (m q w a b z : ℕ) → 0 < m → z + q * m + 2 * m * w + a * (m + m) ≡ z + b * (m + m) → q ≡ 2 * (b - w - a)
even m q w a b z h e =
    let f : m * (q + 2 * (w + a)) ≡ m * (2 * b) = omega arith in
    let g : q + 2 * (w + a) ≡ 2 * b = sym (mul-div_cancel_left (q + 2 * (w + a)) h) ∙ ap (λ (x : ℕ). x / m) f ∙ mul-div_cancel_left (2 * b) h in
    omega arith

halve : (m n z : ℕ) → 0 < m → Jump m → Congruent (m + m) (iter n z) z → Multiple m n → Multiple (m + m) n
halve m n z h g s k =
    let r : Moved m k.q z = moved m g k.q z in
    let e : iter n z ≡ z + k.q * m + 2 * m * r.w = ap (λ (x : ℕ). iter x z) k.is ∙ r.is in
    let f : z + k.q * m + 2 * m * r.w + s.a * (m + m) ≡ z + s.b * (m + m) = ap (λ (x : ℕ). x + s.a * (m + m)) (sym e) ∙ s.is in
    let q2 : k.q ≡ 2 * (s.b - r.w - s.a) = even m k.q r.w s.a s.b z h f in
    record { q = s.b - r.w - s.a; is = k.is ∙ ap (λ (x : ℕ). x * m) q2 ∙ omega arith }

weaker : (m z y : ℕ) → Congruent (m + m) z y → Congruent m z y
weaker m z y s = let e = s.is in record { a = s.a + s.a; b = s.b + s.b; is = omega arith }

returns : (j n z : ℕ) → Congruent (2 ^ j) (iter n z) z → Multiple (2 ^ j) n
returns zero n z s = record { q = n; is = omega arith }
returns (suc j) n z s =
    let t : Congruent (2 ^ j + 2 ^ j) (iter n z) z = rw double at s in
    rw double (halve (2 ^ j) n z (pow_pos j) (jump j) t (returns j n z (weaker (2 ^ j) (iter n z) z t)))

multiples : (j q z : ℕ) → Congruent (2 ^ j) (iter (q * 2 ^ j) z) z
multiples j q z =
    let r : Moved (2 ^ j) q z = moved (2 ^ j) (jump j) q z in
    record { a = 0; b = q + 2 * r.w; is = rw r.is (sums (2 ^ j) q z r.w) }
  where
    sums : (m q z w : ℕ) → z + q * m + 2 * m * w + 0 * m ≡ z + (q + 2 * w) * m
    sums m q z w = omega arith

-- so two numbers of draws from z meet just where they are equal modulo 2 ^ j
module _ (j z : ℕ) where
  further : (k a : ℕ) → Congruent (2 ^ j) (iter (k + a * 2 ^ j) z) (iter k z)
  further k a = rw (iter_add k (a * 2 ^ j) z) (multiples j a (iter k z))

  meet : (k l : ℕ) → Congruent (2 ^ j) k l → Congruent (2 ^ j) (iter k z) (iter l z)
  meet k l s =
      chain (2 ^ j) _ _ _ (turned (2 ^ j) _ _ (further k s.a))
      (subst (λ (n : ℕ). Congruent (2 ^ j) (iter n z) (iter l z)) (sym s.is) (further l s.b))

  less : (k d : ℕ) → Congruent (2 ^ j) (iter (k + d) z) (iter k z) → Congruent (2 ^ j) k (k + d)
  less k d s =
      let r : Multiple (2 ^ j) d = returns j d (iter k z) (rw (iter_add k d z) at s) in
      record { a = r.q; b = 0; is = sums (2 ^ j) r.q r.is }
    where
      sums : (m q : ℕ) → d ≡ q * m → k + q * m ≡ k + d + 0 * m
      sums m q e = omega arith

  met : (k l : ℕ) → Congruent (2 ^ j) (iter k z) (iter l z) → Congruent (2 ^ j) k l
  met k l s = by (ltb k l) refl
    where
      by : (b : Bool) → ltb k l ≡ b → Congruent (2 ^ j) k l
      by true t =
          let h : k < l = ltb-true k l t in
          let e : l ≡ k + (l - k) = omega arith in
          rw e (less k (l - k) (turned (2 ^ j) _ _ (rw e at s)))
      by false t =
          let h : l ≤ k = ltb-false k l t in
          let e : k ≡ l + (k - l) = omega arith in
          turned (2 ^ j) _ _ (rw e (less l (k - l) (rw e at s)))

-- ---- and every number is reached, modulo 2 ^ j, in fewer than 2 ^ j draws

record Reached (m x y : ℕ) : Type 0 where
  k : ℕ
  below : k < m
  same : Congruent m (iter k x) y

-- modulo 2 m: y itself, or m away
data Half (m z y : ℕ) : Type 0 where
  there : Congruent (m + m) z y → Half m z y
  away : Congruent (m + m) (z + m) y → Half m z y

halves : (n : ℕ) → (h : ℕ) × (r : ℕ) × (r < 2) × (n ≡ 2 * h + r)
halves n = (n / 2, n % 2, omega arith, omega arith)

half : (m z y : ℕ) → Congruent m z y → Half m z y
half m z y s = go (halves s.a).0 (halves s.b).0 (halves s.a).1 (halves s.b).1 (halves s.a).2 (halves s.b).2 (halves s.a).3 (halves s.b).3
  where
    at : (g h : ℕ) → s.a ≡ g → s.b ≡ h → z + g * m ≡ y + h * m
    at g h p q = rw (← p, ← q) s.is

    go : (g h r t : ℕ) → r < 2 → t < 2 → s.a ≡ 2 * g + r → s.b ≡ 2 * h + t → Half m z y
    go g h zero zero p q d e = let f = at (2 * g + 0) (2 * h + 0) d e in there (record { a = g; b = h; is = omega arith })
    go g h zero (suc zero) p q d e = let f = at (2 * g + 0) (2 * h + 1) d e in away (record { a = g; b = h + 1; is = omega arith })
    go g h (suc zero) zero p q d e = let f = at (2 * g + 1) (2 * h + 0) d e in away (record { a = g; b = h; is = omega arith })
    go g h (suc zero) (suc zero) p q d e = let f = at (2 * g + 1) (2 * h + 1) d e in there (record { a = g; b = h; is = omega arith })
    go g h (suc (suc r)) t p q d e = absurd (omega arith)
    go g h zero (suc (suc t)) p q d e = absurd (omega arith)
    go g h (suc zero) (suc (suc t)) p q d e = absurd (omega arith)

twofold : (m x y : ℕ) → Jump m → Reached m x y → Reached (m + m) x y
twofold m x y g r = go (half m (iter r.k x) y r.same)
  where
    l : r.k < m
    l = r.below

    e : iter (r.k + m) x ≡ (1 + 4 * m * g.u) * iter r.k x + m * (1 + 2 * g.v)
    e = iter_add r.k m x ∙ g.is (iter r.k x)

    on : (z : ℕ) → Congruent (m + m) (z + m) y → Congruent (m + m) ((1 + 4 * m * g.u) * z + m * (1 + 2 * g.v)) y
    on z s = let f = s.is in record { a = s.a; b = s.b + (2 * g.u * z + g.v); is = omega arith }

    go : Half m (iter r.k x) y → Reached (m + m) x y
    go (there s) = record { k = r.k; below = omega arith; same = s }
    go (away s) = record { k = r.k + m; below = omega arith; same = rw e (on (iter r.k x) s) }

reached : (j x y : ℕ) → Reached (2 ^ j) x y
unfolding iter
reached zero x y = record { k = 0; below = omega arith; same = record { a = y; b = x; is = omega arith } }
reached (suc j) x y = rw double (twofold (2 ^ j) x y (jump j) (reached j x y))

-- ---- the 16 bits of a seed

-- of the signed number with these bits
low_back : (k : ℕ) → k < 65536 → low16 (to_z w16 k) ≡ k
unfolding low16
low_back k h = by (ltb k 32768) refl
  where
    by : (p : Bool) → ltb k 32768 ≡ p → low16 (sel p (pos k) (negsuc (65536 - suc k))) ≡ k
    by true e = omega arith
    by false e = let l : 32768 ≤ k = ltb-false k 32768 e in omega arith

-- numbers that add up to one less than a multiple of 65,536
complement : (x y q : ℕ) → x + y + 1 ≡ q * 65536 → 65535 - x % 65536 ≡ y % 65536
complement x y q e = by (q - (x / 65536 + y / 65536)) refl
  where
    by : (d : ℕ) → q - (x / 65536 + y / 65536) ≡ d → 65535 - x % 65536 ≡ y % 65536
    by zero g = absurd (omega arith)
    by (suc zero) g = omega arith
    by (suc (suc d)) g = absurd (omega arith)

reduced : (n : ℕ) → (31821 * n + 13849) % 65536 ≡ (31821 * (n % 65536) + 13849) % 65536
reduced n =
    let split : 31821 * n + 13849 ≡ 31821 * (n % 65536) + 13849 + 31821 * (n / 65536) * 65536 = omega arith in
    ap (λ (k : ℕ). k % 65536) split ∙ add-mul-mod_self_right (31821 * (n % 65536) + 13849) (31821 * (n / 65536)) 65536

low_product : (s : ℤ) → low16 (pos 31821 *ℤ s +ℤ pos 13849) ≡ (31821 * low16 s + 13849) % 65536
unfolding low16
low_product (pos n) = reduced n
low_product (negsuc n) =
    let m : ℕ = 31821 * suc n - 13850 in
    rw (negative (31821 * suc n) m (omega arith)) (complement m (31821 * (65535 - n % 65536) + 13849) (31821 * (1 + n / 65536)) (omega arith))
  where
    negative : (k m : ℕ) → k ≡ m + 13850 → neg_ℤ (pos k) +ℤ pos 13849 ≡ negsuc m
    negative zero m e = absurd (omega arith)
    negative (suc k) m e = rw (lt-ltb 13849 (suc k) (omega arith)) (ap negsuc (omega arith))

low_next : (s : ℤ) → low16 (random s) ≡ (31821 * low16 s + 13849) % 65536
unfolding random extract_l
low_next s = low_back _ (low_lt (pos 31821 *ℤ s +ℤ pos 13849)) ∙ low_product s

low_draws : (n : ℕ) (s : ℤ) → low16 (draws n s) ≡ iter n (low16 s) % 65536
unfolding steps iter
low_draws zero s = let h = low_lt s in omega arith
low_draws (suc n) s = low_next (draws n s) ∙ ap (λ (k : ℕ). (31821 * k + 13849) % 65536) (low_draws n s) ∙ sym (reduced (iter n (low16 s)))

-- the same, modulo 2 ^ j
low_iter : (j n : ℕ) (s : ℤ) → j ≤ 16 → Congruent (2 ^ j) (low16 (draws n s)) (iter n (low16 s))
low_iter j n s h = rw (low_draws n s) (low j (iter n (low16 s)) h)

low_bits : (j : ℕ) → j ≤ 16 → (s : ℤ) (m n : ℕ) → (low16 (draws m s) % 2 ^ j ≡ low16 (draws n s) % 2 ^ j) ↔ (m % 2 ^ j ≡ n % 2 ^ j)
low_bits j h s m n = (to, back)
  where
    z : ℕ
    z = low16 s

    to : low16 (draws m s) % 2 ^ j ≡ low16 (draws n s) % 2 ^ j → m % 2 ^ j ≡ n % 2 ^ j
    to e =
        remainders (2 ^ j) m n
        (met j (low16 s) m n
        (chain (2 ^ j) _ _ _ (turned (2 ^ j) _ _ (low_iter j m s h)) (chain (2 ^ j) _ _ _ (congruent (2 ^ j) _ _ e) (low_iter j n s h))))

    back : m % 2 ^ j ≡ n % 2 ^ j → low16 (draws m s) % 2 ^ j ≡ low16 (draws n s) % 2 ^ j
    back e =
        remainders (2 ^ j) _ _
        (chain (2 ^ j) _ _ _ (low_iter j m s h) (chain (2 ^ j) _ _ _ (meet j (low16 s) m n (congruent (2 ^ j) m n e)) (turned (2 ^ j) _ _ (low_iter j n s h))))

-- ---- words

word_back : (x : ℤ) → T (word x) → to_z w16 (low16 x) ≡ x
unfolding word low16
word_back (pos n) h =
    let p = leb_yes {a = n} {b = 32767} (and_yes true (leb n 32767) h).1 in
    let e : n % 65536 ≡ n = omega arith in
    rw e (to_z_pos w16 n (omega arith))
word_back (negsuc n) h =
    let p = leb_yes {a = n} {b = 32767} (and_yes (leb n 32767) true h).0 in
    let e : 65535 - n % 65536 ≡ 65536 - suc n = omega arith in
    rw e (to_z-neg w16 n (omega arith))

draws_back : (n : ℕ) (x : ℤ) → T (word x) → to_z w16 (low16 (draws n x)) ≡ draws n x
unfolding steps random extract_l
draws_back zero x h = word_back x h
draws_back (suc n) x h = ap (to_z w16) (low_back _ (low_lt (pos 31821 *ℤ draws n x +ℤ pos 13849)))

-- two numbers of draws from one seed give the same seed just where they agree modulo 65,536
pub same_seed : (s : ℤ) → T (word s) → (m n : ℕ) → (draws m s ≡ draws n s) ↔ (m % 65536 ≡ n % 65536)
same_seed s h m n = (to, back)
  where
    to : draws m s ≡ draws n s → m % 65536 ≡ n % 65536
    to e = (low_bits 16 (omega arith) s m n).0 (ap (λ (x : ℤ). low16 x % 65536) e)

    back : m % 65536 ≡ n % 65536 → draws m s ≡ draws n s
    back e =
        let r : low16 (draws m s) % 65536 ≡ low16 (draws n s) % 65536 = (low_bits 16 (omega arith) s m n).1 e in
        let p = low_lt (draws m s) in
        let q = low_lt (draws n s) in
        let k : low16 (draws m s) ≡ low16 (draws n s) = omega arith in
        sym (draws_back m s h) ∙ ap (to_z w16) k ∙ draws_back n s h

-- ---- what an erased subframe draws is made of the 13 low bits of the seed, and so are those of the seed that it leaves

low_random : (x y : ℤ) → low16 x % 8192 ≡ low16 y % 8192 → low16 (random x) % 8192 ≡ low16 (random y) % 8192
low_random x y e = rw (low_next x, low_next y) (by (low16 x) (low16 y) e)
  where
    mod_mod : (n : ℕ) → n % 65536 % 8192 ≡ n % 8192
    mod_mod n = omega arith

    by : (a b : ℕ) → a % 8192 ≡ b % 8192 → (31821 * a + 13849) % 65536 % 8192 ≡ (31821 * b + 13849) % 65536 % 8192
    by a b e =
        let s = congruent 8192 a b e in
        let f = s.is in
        let g : 31821 * a + 13849 + 31821 * s.a * 8192 ≡ 31821 * b + 13849 + 31821 * s.b * 8192 = omega arith in
        mod_mod (31821 * a + 13849) ∙ remainders 8192 _ _ (record { a = 31821 * s.a; b = 31821 * s.b; is = g }) ∙ sym (mod_mod (31821 * b + 13849))

pub low_drawn : (x y : ℤ) → low16 x % 8192 ≡ low16 y % 8192 →
    ((random_index x).index ≡ (random_index y).index) × ((random_index x).sign ≡ (random_index y).sign) × (low16 (random_index x).seed % 8192 ≡ low16 (random_index y).seed % 8192)
unfolding random_index
low_drawn x y e =
    let f = low_random x y e in
    let g = low_random (random x) (random y) f in
    (f, omega arith, g)

-- ---- all of it

pub period : Period
unfolding steps
period =
    record {
      returns = λ x h. (same_seed x h all_seeds 0).1 refl;
      visits = λ x y h l.
          let r : Reached 65536 (low16 x) (low16 y) = reached 16 (low16 x) (low16 y) in
          let e : iter r.k (low16 x) % 65536 ≡ low16 y % 65536 = remainders 65536 _ _ r.same in
          let p = low_lt y in
          let k : low16 (draws r.k x) ≡ low16 y = low_draws r.k x ∙ e ∙ omega arith in
          (r.k, r.below, sym (draws_back r.k x h) ∙ ap (to_z w16) k ∙ word_back y l);
      no_earlier = λ x n e. (low_bits 16 (omega arith) x n 0).0 (ap (λ (y : ℤ). low16 y % 65536) e);
      low_bits = low_bits;
      low_drawn = low_drawn;
    }

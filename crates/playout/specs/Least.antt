-- The least depth by halving: a greater depth never loses more frames, so that the least that loses few enough is between one that loses too many and one that does not. Assumes nothing.
use Rattle.std.specs.Prelude.{Option, None, Some}
use Rattle.std.specs.Prelude.{◌≡◌, refl, Bool, cond, List, ℕ, zero, suc, ◌+◌, ◌-◌, ◌≤◌, ◌<◌, eqb}
use Rattle.std.proofs.Math.Path.{sym, ap}
use Rattle.std.proofs.Common.{◌∙◌, arith}
use Rattle.std.proofs.Math.Bool.{true, false}
use borrow.Author.Tests.{eqb-true, eqb-false, le-leb, leb-true, leb-false}
use Rattle.playout.specs.declared.Between.{Between}
use Rattle.playout.specs.Playout.{Arrival, kinds, lost, Answer, answer, enough, first, depth_of, least}
use Rattle.playout.specs.Depth.{fewer}

-- the half in which the least depth is
unfoldable pub half : Between → ℕ → Bool → Between
half b middle true = record { low = b.low; high = middle }
half b middle false = record { low = middle + 1; high = b.high }

pub half_less : (b : Between) (middle : ℕ) (found : Bool) → b.low ≤ middle → middle < b.high → (half b middle found).high - (half b middle found).low < b.high - b.low
unfolding half
half_less b middle true h k = omega arith
half_less b middle false h k = omega arith

-- ---- the first number that passes a test

abbrev found_of : Answer (Option ℕ) → Option ℕ
found_of (answer f ks) = f

abbrev left_of : Answer (Option ℕ) → List ℕ
left_of (answer f ks) = ks

abbrev is_never : Option ℕ → ℕ
is_never None = 1
is_never (Some d) = 0

never_depth : (d : ℕ) → None ≡ Some d → ⊥
never_depth d e = let c : ◌≡◌ {A = ℕ} 1 0 = ap is_never e in absurd (omega arith)

-- a test that fails at d, and from there on up to h
beyond : (test : ℕ → Bool) (d h : ℕ) → test d ≡ false → ((j : ℕ) → suc d ≤ j → j < h → test j ≡ false) → (j : ℕ) → d ≤ j → j < h → (t : Bool) → eqb d j ≡ t → test j ≡ false
beyond test d h q f j x y true e = sym (ap test (eqb-true d j e)) ∙ q
beyond test d h q f j x y false e = f j (omega (arith, eqb-false d j e)) y

first_found : (test : ℕ → Bool) (d n h : ℕ) → d ≤ h → h < d + n → ((j : ℕ) → d ≤ j → j < h → test j ≡ false) → test h ≡ true → first test d n ≡ Some h
unfolding first
first_found test d zero h a b f e = absurd (omega arith)
first_found test d (suc n) h a b f e = go (eqb d h) refl (λ q. first_found test (suc d) n h q (omega arith) (λ j x y. f j (omega arith) y) e)
  where
    go : (t : Bool) → eqb d h ≡ t → (d < h → first test (suc d) n ≡ Some h) → cond (test d) (Some d) (first test (suc d) n) ≡ Some h
    go true q g = rw (eqb-true d h q, e)
    go false q g =
        let less : d < h = omega (arith, eqb-false d h q) in
        rw (f d (omega arith) less) (g less)

first_never : (test : ℕ → Bool) (d n : ℕ) → ((j : ℕ) → d ≤ j → j < d + n → test j ≡ false) → first test d n ≡ None
unfolding first
first_never test d zero f = refl
first_never test d (suc n) f = rw (f d (omega arith) (omega arith)) (first_never test (suc d) n (λ j x y. f j (omega arith) (omega arith)))

-- and what it says of the others
first_depth : (test : ℕ → Bool) (d n h : ℕ) → first test d n ≡ Some h → (test h ≡ true) × ((j : ℕ) → d ≤ j → j < h → test j ≡ false)
unfolding first depth_of
first_depth test d zero h e = absurd (never_depth h e)
first_depth test d (suc n) h e = go (test d) refl e (first_depth test (suc d) n h)
  where
    go : (t : Bool) → test d ≡ t → cond t (Some d) (first test (suc d) n) ≡ Some h → (first test (suc d) n ≡ Some h → (test h ≡ true) × ((j : ℕ) → suc d ≤ j → j < h → test j ≡ false))
        → (test h ≡ true) × ((j : ℕ) → d ≤ j → j < h → test j ≡ false)
    go true q z f = let w : d ≡ h = ap depth_of z in (sym (ap test w) ∙ q, λ j x y. absurd (omega arith))
    go false q z f = let w = f z in (w.0, λ j x y. beyond test d h q w.1 j x y (eqb d j) refl)

first_none : (test : ℕ → Bool) (d n : ℕ) → first test d n ≡ None → (j : ℕ) → d ≤ j → j < d + n → test j ≡ false
unfolding first
first_none test d zero e j x y = absurd (omega arith)
first_none test d (suc n) e j x y = go (test d) refl e (first_none test (suc d) n)
  where
    go : (t : Bool) → test d ≡ t → cond t (Some d) (first test (suc d) n) ≡ None → (first test (suc d) n ≡ None → (j : ℕ) → suc d ≤ j → j < suc d + n → test j ≡ false) → test j ≡ false
    go true q z f = absurd (never_depth d (sym z))
    go false q z f = beyond test d (suc d + n) q (f z) j x (omega arith) (eqb d j) refl

-- ---- few enough are lost at each depth beyond one at which few enough are

module _ (s allowed : ℕ) (l : List Arrival) (n : ℕ) where
  enough_deeper : (d e : ℕ) → d ≤ e → enough s allowed l n d ≡ true → enough s allowed l n e ≡ true
  unfolding enough
  enough_deeper d e h g = let b = leb-true (lost (kinds s d l n)) allowed g in le-leb (lost (kinds s e l n)) allowed (omega (arith, fewer s d e h l n))

  enough_before : (d e : ℕ) → d ≤ e → enough s allowed l n e ≡ false → enough s allowed l n d ≡ false
  enough_before d e h g = go (enough s allowed l n d) refl
    where
      go : (t : Bool) → enough s allowed l n d ≡ t → t ≡ false
      go true q = sym (enough_deeper d e h q) ∙ g
      go false q = refl

  -- before each turn: too many are lost below the low depth, and few enough at the high one
  pub record Inside (b : Between) : Type 0 where
    pub ordered : b.low ≤ b.high
    pub most_high : b.high ≤ 4294967295
    pub before : (j : ℕ) → j < b.low → enough s allowed l n j ≡ false
    pub at_high : enough s allowed l n b.high ≡ true

  pub inside_first : enough s allowed l n 4294967295 ≡ true → Inside (record { low = 0; high = 4294967295 })
  inside_first e = record { ordered = omega arith; most_high = omega arith; before = λ j h. absurd (omega arith); at_high = e }

  pub inside_turn : (b : Between) (middle : ℕ) (found : Bool) → Inside b → b.low ≤ middle → middle < b.high → found ≡ enough s allowed l n middle → Inside (half b middle found)
  unfolding half
  inside_turn b middle true i h k e = record { ordered = h; most_high = omega (arith, i.most_high); before = i.before; at_high = sym e }
  inside_turn b middle false i h k e = record { ordered = omega arith; most_high = i.most_high; before = λ j x. enough_before j middle (omega arith) (sym e); at_high = i.at_high }

  pub least_never : (out : List ℕ) → enough s allowed l n 4294967295 ≡ false → out ≡ kinds s 4294967295 l n → answer None out ≡ least s allowed l n
  unfolding least depth_of
  least_never out e g = rw (first_never (enough s allowed l n) 0 4294967296 (λ j x y. enough_before j 4294967295 (omega arith) e), g)

  pub least_found : (b : Between) (out : List ℕ) → Inside b → b.high ≤ b.low → out ≡ kinds s b.high l n → answer (Some b.high) out ≡ least s allowed l n
  unfolding least depth_of
  least_found b out i h g =
      rw (first_found (enough s allowed l n) 0 4294967296 b.high (omega arith) (omega (arith, i.most_high)) (λ j x y. i.before j (omega arith)) i.at_high, g)

  -- ---- what the answer says: few enough are lost at the depth found, and too many at each lesser one; or too many at every depth of 32 bits

  too_many : (d : ℕ) → enough s allowed l n d ≡ false → allowed < lost (kinds s d l n)
  unfolding enough
  too_many d e = leb-false (lost (kinds s d l n)) allowed e

  pub least_depth : (d : ℕ) (ks : List ℕ) → least s allowed l n ≡ answer (Some d) ks
      → (lost (kinds s d l n) ≤ allowed) × ((j : ℕ) → j < d → allowed < lost (kinds s j l n)) × (ks ≡ kinds s d l n)
  unfolding least enough depth_of
  least_depth d ks e =
      let g : first (enough s allowed l n) 0 4294967296 ≡ Some d = ap found_of e in
      let f = first_depth (enough s allowed l n) 0 4294967296 d g in
      (leb-true (lost (kinds s d l n)) allowed f.0, λ j h. too_many j (f.1 j (omega arith) h), sym (ap left_of e) ∙ rw g)

  pub least_none : (ks : List ℕ) → least s allowed l n ≡ answer None ks → (j : ℕ) → j < 4294967296 → allowed < lost (kinds s j l n)
  unfolding least
  least_none ks e j h = too_many j (first_none (enough s allowed l n) 0 4294967296 (ap found_of e) j (omega arith) (omega arith))

-- Laws of the playout: the arrivals one by one give the kinds, and what the loops hold before each turn. Assumes nothing.
use Rattle.std.specs.Prelude.{Result, Ok, Err}
use Rattle.std.specs.Prelude.{◌≡◌, ◌≢◌, Bool, ◌&&◌, ◌||◌, set, take, replicate}
use Rattle.std.proofs.Math.Path.{refl, sym, ap}
use Rattle.std.proofs.Common.{◌∙◌, add-one, arith, length-set, take-suc, take_all, length-take-le, get_or-set_same}
use Rattle.std.proofs.Math.Bool.{true, false, cond}
use mathlib.Core.List.{List, [], ◌∷◌, ◌++◌, map}
use Prim.Native.Nat.{ℕ, zero, suc, ◌+◌, ◌≤◌, ◌<◌, min}
use Rattle.std.proofs.Math.Dec.{eqb, leb}
use Rattle.std.proofs.Math.ListN.{length, get_or, length-map}
use Rattle.std.proofs.Math.Seq.{get_or-set_other, ext_get_or}
use borrow.Author.Tests.{eqb-true, eqb-false, ne_eqb, eq-eqb, leb-true, le-leb}
use Rattle.laws.specs.Lists.{upto, length_upto, map_upto}
use Rattle.playout.specs.Playout.{Arrival, arrivals, due, arrived, kind, kinds, lost, below, Answer, answer, refusal, playout}

-- ---- one arrival after another, as the code takes them

-- the kind of a frame after an arrival of it
abbrev pub kept : (kind time by : ℕ) → ℕ
kept kind time by = cond (leb time by) 0 kind

-- one arrival, which changes the kind of its frame alone
unfoldable pub take_in : (start depth number time : ℕ) → List ℕ → List ℕ
take_in s d n t ks = set ks n (kept (get_or ks n 0) t (due s d n))

unfoldable pub take_all_in : (start depth : ℕ) → List Arrival → List ℕ → List ℕ
take_all_in s d [] ks = ks
take_all_in s d (a ∷ l) ks = take_all_in s d l (take_in s d a.number a.time ks)

set_past : (ks : List ℕ) (n v : ℕ) → length ks ≤ n → set ks n v ≡ ks
set_past [] n v h = refl
set_past (k ∷ ks) zero v h = absurd (omega arith)
set_past (k ∷ ks) (suc n) v h = ap (λ (l : List ℕ). k ∷ l) (set_past ks n v (omega arith))

pub length_take_in : (s d n t : ℕ) (ks : List ℕ) → length (take_in s d n t ks) ≡ length ks
unfolding take_in
length_take_in s d n t ks = length-set ks n (kept (get_or ks n 0) t (due s d n))

-- one whose number isn't below the frame count
pub take_in_past : (s d n t : ℕ) (ks : List ℕ) → length ks ≤ n → take_in s d n t ks ≡ ks
unfolding take_in
take_in_past s d n t ks h = set_past ks n (kept (get_or ks n 0) t (due s d n)) h

module _ (s d : ℕ) where
  pub length_all : (l : List Arrival) (ks : List ℕ) → length (take_all_in s d l ks) ≡ length ks
  unfolding take_all_in
  length_all [] ks = refl
  length_all (a ∷ l) ks = length_all l (take_in s d a.number a.time ks) ∙ length_take_in s d a.number a.time ks

  -- the kind of frame i behind one arrival
  take_at : (n t : ℕ) (ks : List ℕ) (i : ℕ) → i < length ks → get_or (take_in s d n t ks) i 0 ≡ cond (eqb n i && leb t (due s d i)) 0 (get_or ks i 0)
  unfolding take_in
  take_at n t ks i h = by (eqb n i) refl
    where
      by : (b : Bool) → eqb n i ≡ b → get_or (set ks n (kept (get_or ks n 0) t (due s d n))) i 0 ≡ cond (b && leb t (due s d i)) 0 (get_or ks i 0)
      by true e = rw (eqb-true n i e) (get_or-set_same ks i (kept (get_or ks i 0) t (due s d i)) 0 h)
      by false e = get_or-set_other ks n i (kept (get_or ks n 0) t (due s d n)) 0 (λ q. eqb-false n i e (sym q))

  either : (p q : Bool) (x : ℕ) → cond q 0 (cond p 0 x) ≡ cond (p || q) 0 x
  either true true x = refl
  either true false x = refl
  either false q x = refl

  all_at : (l : List Arrival) (ks : List ℕ) (i : ℕ) → i < length ks → get_or (take_all_in s d l ks) i 0 ≡ cond (arrived i (due s d i) l) 0 (get_or ks i 0)
  unfolding take_all_in arrived
  all_at [] ks i h = refl
  all_at (a ∷ l) ks i h =
      all_at l (take_in s d a.number a.time ks) i (rw (length_take_in s d a.number a.time ks) h)
      ∙ ap (λ (x : ℕ). cond (arrived i (due s d i) l) 0 x) (take_at a.number a.time ks i h)
      ∙ either (eqb a.number i && leb a.time (due s d i)) (arrived i (due s d i) l) (get_or ks i 0)

  pub length_kinds : (l : List Arrival) (n : ℕ) → length (kinds s d l n) ≡ n
  unfolding kinds
  length_kinds l n = length-map (upto n) (kind s d l) ∙ length_upto n

  pub kinds_at : (l : List Arrival) (n i z : ℕ) → i < n → get_or (kinds s d l n) i z ≡ kind s d l i
  unfolding kinds
  kinds_at l n i z h = map_upto (kind s d l) n i z h

  lost_at : (ks : List ℕ) (i : ℕ) → i < length ks → ◌≡◌ {A = ℕ} (get_or (map (λ k. 3) ks) i 0) 3
  lost_at [] i h = absurd (omega arith)
  lost_at (k ∷ ks) zero h = refl
  lost_at (k ∷ ks) (suc i) h = lost_at ks i (omega arith)

  -- all arrivals in turn, from every frame lost, give the kinds
  pub all_kinds : (l : List Arrival) (ks : List ℕ) → take_all_in s d l (map (λ k. 3) ks) ≡ kinds s d l (length ks)
  unfolding kind
  all_kinds l ks =
      let m : List ℕ = map (λ (k : ℕ). 3) ks in
      let lm : length m ≡ length ks = length-map ks (λ (k : ℕ). 3) in
      let ll : length (take_all_in s d l m) ≡ length ks = length_all l m ∙ lm in
      ext_get_or 0 (take_all_in s d l m) (kinds s d l (length ks)) (ll ∙ sym (length_kinds l (length ks)))
      (λ i h.
      let b : i < length ks = omega (arith, ll) in
      all_at l m i (omega (arith, lm))
      ∙ ap (λ (x : ℕ). cond (arrived i (due s d i) l) 0 x) (lost_at ks i b)
      ∙ sym (kinds_at l (length ks) i 0 b))

  -- ---- the loop over the arrivals

  all_more : (l : List Arrival) (a : Arrival) (ks : List ℕ) → take_all_in s d (l ++ (a ∷ [])) ks ≡ take_in s d a.number a.time (take_all_in s d l ks)
  unfolding take_all_in
  all_more [] a ks = refl
  all_more (b ∷ l) a ks = all_more l a (take_in s d b.number b.time ks)

-- as many 3 as there are kinds
pub all_lost : (ks : List ℕ) → replicate {A = ℕ} (length ks) 3 ≡ map (λ k. 3) ks
all_lost [] = refl
all_lost (k ∷ ks) = ap (λ (l : List ℕ). 3 ∷ l) (all_lost ks)

-- ---- numbers and times as arrivals

pub length_arrivals : (ns ts : List ℕ) → length (arrivals ns ts) ≡ min (length ns) (length ts)
unfolding arrivals
length_arrivals [] ts = omega arith
length_arrivals (n ∷ ns) [] = omega arith
length_arrivals (n ∷ ns) (t ∷ ts) = omega (arith, length_arrivals ns ts)

abbrev nothing : Arrival
nothing = record { number = 0; time = 0 }

arrival_at : (ns ts : List ℕ) (k : ℕ) → k < length (arrivals ns ts) → get_or (arrivals ns ts) k nothing ≡ record { number = get_or ns k 0; time = get_or ts k 0 }
unfolding arrivals
arrival_at [] ts k h = absurd (omega arith)
arrival_at (n ∷ ns) [] k h = absurd (omega arith)
arrival_at (n ∷ ns) (t ∷ ts) zero h = refl
arrival_at (n ∷ ns) (t ∷ ts) (suc k) h = arrival_at ns ts k (omega arith)

-- before turn j the first j arrivals are taken
abbrev pub Taken : (start depth : ℕ) (numbers times before : List ℕ) → ℕ → List ℕ → Type 0
Taken s d ns ts ks j out = out ≡ take_all_in s d (take j (arrivals ns ts)) ks

pub taken_none : (s d : ℕ) (ns ts ks : List ℕ) → Taken s d ns ts ks 0 ks
unfolding take_all_in
taken_none s d ns ts ks = refl

pub taken_length : (s d : ℕ) (ns ts ks : List ℕ) (j : ℕ) (out : List ℕ) → Taken s d ns ts ks j out → length out ≡ length ks
taken_length s d ns ts ks j out e = ap length e ∙ length_all s d (take j (arrivals ns ts)) ks

pub taken_turn : (s d : ℕ) (ns ts ks : List ℕ) (j : ℕ) (out next : List ℕ) → j < min (length ns) (length ts) → Taken s d ns ts ks j out → next ≡ take_in s d (get_or ns j 0) (get_or ts j 0) out → Taken s d ns ts ks (j + 1) next
taken_turn s d ns ts ks j out next h e g =
    let b : j < length (arrivals ns ts) = omega (arith, length_arrivals ns ts) in
    let f : take (suc j) (arrivals ns ts) ≡ take j (arrivals ns ts) ++ (record { number = get_or ns j 0; time = get_or ts j 0 } ∷ []) =
    take-suc (arrivals ns ts) j nothing b ∙ ap (λ (a : Arrival). take j (arrivals ns ts) ++ (a ∷ [])) (arrival_at ns ts j b) in
    g ∙ rw (e, add-one, f) (sym (all_more s d (take j (arrivals ns ts)) (record { number = get_or ns j 0; time = get_or ts j 0 }) ks))

pub taken_end : (s d : ℕ) (ns ts before ks : List ℕ) (j : ℕ) (out : List ℕ) → j ≡ min (length ns) (length ts) → ks ≡ map (λ k. 3) before → Taken s d ns ts ks j out → out ≡ kinds s d (arrivals ns ts) (length before)
taken_end s d ns ts before ks j out h g e =
    e ∙ rw (take_all j (arrivals ns ts) (omega (arith, length_arrivals ns ts)), g) (all_kinds s d (arrivals ns ts) before)

-- ---- how many are lost

lost_append : (a b : List ℕ) → lost (a ++ b) ≡ lost a + lost b
unfolding lost
lost_append [] b = omega arith
lost_append (k ∷ a) b = by (eqb k 3) (lost_append a b)
  where
    by : (t : Bool) → lost (a ++ b) ≡ lost a + lost b → cond t (suc (lost (a ++ b))) (lost (a ++ b)) ≡ cond t (suc (lost a)) (lost a) + lost b
    by true e = omega (arith, e)
    by false e = e

pub lost_most : (ks : List ℕ) → lost ks ≤ length ks
unfolding lost
lost_most [] = omega arith
lost_most (k ∷ ks) = by (eqb k 3) (lost_most ks)
  where
    by : (t : Bool) → lost ks ≤ length ks → cond t (suc (lost ks)) (lost ks) ≤ suc (length ks)
    by true e = omega arith
    by false e = omega arith

pub one_most : (p : Bool) → cond {A = ℕ} p 1 0 ≤ 1
one_most true = omega arith
one_most false = omega arith

lost_one : (k : ℕ) → lost (k ∷ []) ≡ cond (eqb k 3) 1 0
unfolding lost
lost_one k = refl

pub lost_turn : (ks : List ℕ) (i n : ℕ) → i < length ks → n ≡ lost (take i ks) → n + cond (eqb (get_or ks i 0) 3) 1 0 ≡ lost (take (i + 1) ks)
lost_turn ks i n h e = rw (e, add-one, take-suc ks i 0 h, lost_append) (ap (λ (x : ℕ). lost (take i ks) + x) (sym (lost_one (get_or ks i 0))))

pub lost_none : (ks : List ℕ) → 0 ≡ lost (take 0 ks)
unfolding lost
lost_none ks = refl

pub lost_few : (ks : List ℕ) (i n : ℕ) → i ≤ length ks → n ≡ lost (take i ks) → n ≤ i
lost_few ks i n h e = omega (arith, e, lost_most (take i ks), length-take-le i ks h)

pub lost_end : (ks : List ℕ) (i n : ℕ) → i ≡ length ks → n ≡ lost (take i ks) → n ≡ lost ks
lost_end ks i n h e = e ∙ ap lost (take_all i ks (omega arith))

-- ---- what is not refused

pub accepted : (f : ℕ) (ns : List ℕ) (ts room : ℕ) → refusal f ns ts room ≡ 0 → (f ≤ 4096) × (length ns ≤ 4096) × (below f ns ≡ true) × (ts ≡ length ns) × (room ≡ f)
unfolding refusal
accepted f ns ts room e = go (leb f 4096) (leb (length ns) 4096) (below f ns) (eqb ts (length ns)) (eqb room f) refl refl refl refl refl e
  where
    go : (a b c p q : Bool) → leb f 4096 ≡ a → leb (length ns) 4096 ≡ b → below f ns ≡ c → eqb ts (length ns) ≡ p → eqb room f ≡ q
        → cond {A = ℕ} (a && b) (cond c (cond (p && q) 0 7) 21) 20 ≡ 0 → (f ≤ 4096) × (length ns ≤ 4096) × (below f ns ≡ true) × (ts ≡ length ns) × (room ≡ f)
    go true true true true true h i j k m z = (leb-true f 4096 h, leb-true (length ns) 4096 i, j, eqb-true ts (length ns) k, eqb-true room f m)
    go true true true true false h i j k m z = absurd (omega arith)
    go true true true false q h i j k m z = absurd (omega arith)
    go true true false p q h i j k m z = absurd (omega arith)
    go true false c p q h i j k m z = absurd (omega arith)
    go false b c p q h i j k m z = absurd (omega arith)

pub accepted_if : (f : ℕ) (ns : List ℕ) (ts room : ℕ) → f ≤ 4096 → length ns ≤ 4096 → below f ns ≡ true → ts ≡ length ns → room ≡ f → refusal f ns ts room ≡ 0
unfolding refusal
accepted_if f ns ts room a b c e g = rw (le-leb f 4096 a, le-leb (length ns) 4096 b, c, eq-eqb ts (length ns) e, eq-eqb room f g)

-- ---- the call, by its number

module _ (f s d : ℕ) (ns ts before : List ℕ) (n : ℕ) (e : n ≡ refusal f ns (length ts) (length before)) where
  pub playout_refused : n ≢ 0 → answer (Err n) before ≡ playout f s d ns ts before
  unfolding playout
  playout_refused h = rw (← e, ne_eqb n 0 h)

  pub playout_done : n ≡ 0 → (m : ℕ) (out : List ℕ) → out ≡ kinds s d (arrivals ns ts) f → m ≡ lost out → answer (Ok m) out ≡ playout f s d ns ts before
  unfolding playout
  playout_done h m out g q = rw (← e, h, q, g)

abbrev is_refused : Answer (Result ℕ ℕ) → ℕ
is_refused (answer (Err n) ks) = 1
is_refused (answer (Ok m) ks) = 0

pub not_refused : (m n : ℕ) (ks before : List ℕ) → answer (Ok m) ks ≡ answer (Err n) before → ⊥
not_refused m n ks before g = let c : ◌≡◌ {A = ℕ} 0 1 = ap is_refused g in absurd (omega arith)

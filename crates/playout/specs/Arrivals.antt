-- The arrivals (change request 11): their order changes nothing, and neither does a duplicate, an arrival of a frame that had one no later. Assumes nothing.
use Rattle.std.specs.Prelude.{◌≡◌, refl, Bool, true, false, cond, ◌&&◌, ◌||◌, List, [], ◌∷◌, map, ℕ, zero, suc, ◌≤◌, ◌<◌, eqb, leb, length, get_or}
use Rattle.std.proofs.Common.{sym, ap, ◌∙◌, arith, le-leb, leb-true}
use Rattle.std.proofs.Math.Dec.{eqb-suc-suc}
use Rattle.laws.specs.Lists.{upto}
use Rattle.laws.specs.Loops.{nowhere_each, nowhere_all}
use Rattle.laws.specs.Perm.{Perm, none, keep, swap, then, same, perm_length, perm_each, perm_map, perm_sym}
use Rattle.playout.specs.Playout.{Arrival, arrivals, due, arrived, kind, kinds, below, refusal, playout}

-- ---- any order

turned : (p q r : Bool) → (p || (q || r)) ≡ (q || (p || r))
turned true true r = refl
turned true false r = refl
turned false true r = refl
turned false false r = refl

arrived_order : (i by : ℕ) {l m : List Arrival} → Perm l m → arrived i by l ≡ arrived i by m
unfolding arrived
arrived_order i by none = refl
arrived_order i by (keep {x} p) = ap (λ (b : Bool). (eqb x.number i && leb x.time by) || b) (arrived_order i by p)
arrived_order i by (swap {x} {y} {l}) = turned (eqb x.number i && leb x.time by) (eqb y.number i && leb y.time by) (arrived i by l)
arrived_order i by (then p q) = arrived_order i by p ∙ arrived_order i by q

kinds_same : (s d : ℕ) (l m : List Arrival) → ((i by : ℕ) → arrived i by l ≡ arrived i by m) → (n : ℕ) → kinds s d l n ≡ kinds s d m n
unfolding kinds kind
kinds_same s d l m h n = go (upto n)
  where
    go : (is : List ℕ) → map (λ i. cond {A = ℕ} (arrived i (due s d i) l) 0 3) is ≡ map (λ i. cond {A = ℕ} (arrived i (due s d i) m) 0 3) is
    go [] = refl
    go (i ∷ is) = rw (h i (due s d i), go is)

-- for every order of the arrivals each frame has the same kind
pub order : (s d n : ℕ) (l m : List Arrival) → Perm l m → kinds s d l n ≡ kinds s d m n
order s d n l m p = kinds_same s d l m (λ i by. arrived_order i by p) n

-- ---- duplicates

twice : (i by : ℕ) (a b : Arrival) (l : List Arrival) → a.number ≡ b.number → b.time ≤ a.time → arrived i by (a ∷ (b ∷ l)) ≡ arrived i by (b ∷ l)
unfolding arrived
twice i by a b l e h = rw e (go (eqb b.number i) (leb a.time by) refl)
  where
    go : (p q : Bool) → leb a.time by ≡ q → ((p && q) || ((p && leb b.time by) || arrived i by l)) ≡ ((p && leb b.time by) || arrived i by l)
    go true true f = let k : a.time ≤ by = leb-true a.time by f in rw (le-leb b.time by (omega arith))
    go true false f = refl
    go false q f = refl

-- an arrival of a frame that has another no later can be left out, wherever the two stand
pub duplicate : (s d n : ℕ) (l m : List Arrival) (a b : Arrival) → Perm l (a ∷ (b ∷ m)) → a.number ≡ b.number → b.time ≤ a.time → kinds s d l n ≡ kinds s d (b ∷ m) n
duplicate s d n l m a b p e h = order s d n l (a ∷ (b ∷ m)) p ∙ kinds_same s d (a ∷ (b ∷ m)) (b ∷ m) (λ i by. twice i by a b m e h) n

-- ---- the same of the call with as many times as numbers: in any order its answer is the same, a refusal too

numbers_of : (ns ts : List ℕ) → length ts ≡ length ns → map (λ (a : Arrival). a.number) (arrivals ns ts) ≡ ns
unfolding arrivals
numbers_of [] ts h = refl
numbers_of (n ∷ ns) [] h = absurd (omega arith)
numbers_of (n ∷ ns) (t ∷ ts) h = ap (λ (l : List ℕ). n ∷ l) (numbers_of ns ts (omega arith))

below_one : (f : ℕ) (ns ms : List ℕ) → Perm ns ms → below f ms ≡ true → below f ns ≡ true
unfolding below
below_one f ns ms p e =
    nowhere_all (λ k. leb f (get_or ns k 0)) (length ns)
    (perm_each (λ (n : ℕ). leb f n ≡ false) 0 p (λ k h. nowhere_each (λ k. leb f (get_or ms k 0)) (length ms) k e h))

below_order : (f : ℕ) (ns ms : List ℕ) → Perm ns ms → below f ns ≡ below f ms
below_order f ns ms p = go (below f ns) (below f ms) refl refl
  where
    go : (a b : Bool) → below f ns ≡ a → below f ms ≡ b → a ≡ b
    go true true x y = refl
    go false false x y = refl
    go true false x y = sym (below_one f ms ns (perm_sym p) x) ∙ y
    go false true x y = sym x ∙ below_one f ns ms p y

pub call_order : (f s d : ℕ) (ns ts ms us before : List ℕ) → length ts ≡ length ns → length us ≡ length ms → Perm (arrivals ns ts) (arrivals ms us)
    → playout f s d ns ts before ≡ playout f s d ms us before
unfolding playout refusal
call_order f s d ns ts ms us before e g p =
    let q : Perm ns ms = rw (numbers_of ns ts e, numbers_of ms us g) at (perm_map (λ (a : Arrival). a.number) p) in
    rw (below_order f ns ms q, perm_length q, e ∙ perm_length q, g, order s d f (arrivals ns ts) (arrivals ms us) p)

-- a number twice is below the frame count where it is once
below_first : (f n : ℕ) (ns : List ℕ) → below f (n ∷ ns) ≡ true → below f (n ∷ (n ∷ ns)) ≡ true
unfolding below
below_first f n ns e = nowhere_all (λ k. leb f (get_or (n ∷ (n ∷ ns)) k 0)) (suc (suc (length ns))) go
  where
    go : (k : ℕ) → k < suc (suc (length ns)) → leb f (get_or (n ∷ (n ∷ ns)) k 0) ≡ false
    go zero h = nowhere_each (λ k. leb f (get_or (n ∷ ns) k 0)) (suc (length ns)) 0 e (omega arith)
    go (suc k) h = nowhere_each (λ k. leb f (get_or (n ∷ ns) k 0)) (suc (length ns)) k e (omega arith)

below_rest : (f n : ℕ) (ns : List ℕ) → below f (n ∷ (n ∷ ns)) ≡ true → below f (n ∷ ns) ≡ true
unfolding below
below_rest f n ns e = nowhere_all (λ k. leb f (get_or (n ∷ ns) k 0)) (suc (length ns)) (λ k h. nowhere_each (λ k. leb f (get_or (n ∷ (n ∷ ns)) k 0)) (suc (suc (length ns))) (suc k) e (omega arith))

below_twice : (f n : ℕ) (ns : List ℕ) → below f (n ∷ (n ∷ ns)) ≡ below f (n ∷ ns)
below_twice f n ns = go (below f (n ∷ (n ∷ ns))) (below f (n ∷ ns)) refl refl
  where
    go : (a b : Bool) → below f (n ∷ (n ∷ ns)) ≡ a → below f (n ∷ ns) ≡ b → a ≡ b
    go true true x y = refl
    go false false x y = refl
    go true false x y = sym (below_rest f n ns x) ∙ y
    go false true x y = sym x ∙ below_first f n ns y

-- a duplicate changes nothing of a call that has room for it, a refusal neither; with `call_order`, wherever the two stand
pub call_duplicate : (f s d n t u : ℕ) (ns ts before : List ℕ) → t ≤ u → suc (suc (length ns)) ≤ 4096
    → playout f s d (n ∷ (n ∷ ns)) (u ∷ (t ∷ ts)) before ≡ playout f s d (n ∷ ns) (t ∷ ts) before
unfolding playout refusal arrivals
call_duplicate f s d n t u ns ts before h k =
    let a : Arrival = record { number = n; time = u } in
    let b : Arrival = record { number = n; time = t } in
    let q : kinds s d (a ∷ (b ∷ arrivals ns ts)) f ≡ kinds s d (b ∷ arrivals ns ts) f = duplicate s d f (a ∷ (b ∷ arrivals ns ts)) (arrivals ns ts) a b (same (a ∷ (b ∷ arrivals ns ts))) refl h in
    rw (q, below_twice f n ns, le-leb (suc (suc (length ns))) 4096 k, le-leb (suc (length ns)) 4096 (omega arith), eqb-suc-suc (suc (length ts)) (suc (length ns)))

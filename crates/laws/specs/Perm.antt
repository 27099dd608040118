-- The same elements in any order, and what stays as it is then. Assumes nothing.
use Rattle.std.specs.Prelude.{◌≡◌, refl, List, [], ◌∷◌, map, ℕ, zero, suc, ◌<◌, length, get_or}
use Rattle.std.proofs.Common.{ap, ◌∙◌, arith}

module _ {A : Type 0} where
  pub data Perm : List A → List A → Type 0 where
    none : Perm [] []
    keep : {x : A} {l m : List A} → Perm l m → Perm (x ∷ l) (x ∷ m)
    swap : {x y : A} {l : List A} → Perm (x ∷ (y ∷ l)) (y ∷ (x ∷ l))
    then : {l m k : List A} → Perm l m → Perm m k → Perm l k

  pub same : (l : List A) → Perm l l
  same [] = none
  same (x ∷ l) = keep (same l)

  pub perm_length : {l m : List A} → Perm l m → length l ≡ length m
  perm_length none = refl
  perm_length (keep p) = ap suc (perm_length p)
  perm_length swap = refl
  perm_length (then p q) = perm_length p ∙ perm_length q

  pub perm_sym : {l m : List A} → Perm l m → Perm m l
  perm_sym none = none
  perm_sym (keep p) = keep (perm_sym p)
  perm_sym swap = swap
  perm_sym (then p q) = then (perm_sym q) (perm_sym p)

  -- what holds of each element of one list holds of each of the other
  pub perm_each : (P : A → Type 0) (z : A) {l m : List A} → Perm l m → ((k : ℕ) → k < length m → P (get_or m k z)) → (k : ℕ) → k < length l → P (get_or l k z)
  perm_each P z none h k b = h k b
  perm_each P z (keep p) h zero b = h 0 (omega arith)
  perm_each P z (keep p) h (suc k) b = perm_each P z p (λ j c. h (suc j) (omega arith)) k (omega arith)
  perm_each P z swap h zero b = h 1 (omega arith)
  perm_each P z swap h (suc zero) b = h 0 (omega arith)
  perm_each P z swap h (suc (suc k)) b = h (suc (suc k)) b
  perm_each P z (then p q) h k b = perm_each P z p (λ j c. perm_each P z q h j c) k b

pub perm_map : {A B : Type 0} (f : A → B) {l m : List A} → Perm l m → Perm (map f l) (map f m)
perm_map f none = none
perm_map f (keep p) = keep (perm_map f p)
perm_map f swap = swap
perm_map f (then p q) = then (perm_map f p) (perm_map f q)

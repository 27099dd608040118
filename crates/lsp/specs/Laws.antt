-- Laws of the loops' turns and of the outcomes of tests. Assumes nothing.
use Rattle.std.specs.Prelude.{◌≡◌, refl, Bool, true, false, List, [], ◌∷◌, ℕ, ◌+◌, ◌≤◌, ℤ, pos, length, set, take}
use Rattle.std.proofs.Common.{sym, arith}
use Rattle.std.specs.Int.Signed.{lt_z, shr_z}
use Rattle.laws.specs.Lists.{at}
use Rattle.laws.specs.Loops.{run, nowhere, nowhere_each, steps_still}
use Rattle.basic_op.specs.Ops.{add, sub, lesser, greater}
use Rattle.sort.specs.Sort.{sort}
use Rattle.lsp_ma.specs.Ma.{row}
use Rattle.lsp.specs.Lsp.{keep_distance, spread_pair, enforce_spacing, order_and_bound}

-- ---- the outcomes of a test, which the code makes on what it reads back

module _ (distance previous next : ℤ) {s d : ℤ} (e : s ≡ sub next previous) (h : d ≡ distance) where
  pub too_near : lt_z s d ≡ true → add previous distance ≡ keep_distance distance previous next
  unfolding keep_distance
  too_near p = rw (← e, ← h, p)

  pub far_enough : lt_z s d ≡ false → next ≡ keep_distance distance previous next
  unfolding keep_distance
  far_enough p = rw (← e, ← h, p)

module _ (spacing : ℤ) (k : ℕ) (l : List ℤ) {s : ℤ} (e : s ≡ add (sub (at l k) (at l (k + 1))) spacing) where
  pub too_close : lt_z (pos 0) s ≡ true → {lower upper : ℤ} → lower ≡ sub (at l k) (shr_z s 2) → upper ≡ add (at l (k + 1)) (shr_z s 2) → set (set l k lower) (k + 1) upper ≡ spread_pair spacing k l
  unfolding spread_pair
  too_close p g h = rw (g, h, ← e, p)

  pub wide_enough : lt_z (pos 0) s ≡ false → l ≡ spread_pair spacing k l
  unfolding spread_pair
  wide_enough p = rw (← e, p)

-- ---- a row that is spaced already

-- words k and k + 1 lack something to the spacing
unfoldable pub close : ℤ → List ℤ → ℕ → Bool
close spacing l k = lt_z (pos 0) (add (sub (at l k) (at l (k + 1))) spacing)

pub stays : (spacing : ℤ) (l : List ℤ) → nowhere (close spacing l) 9 ≡ true → l ≡ enforce_spacing spacing l
unfolding enforce_spacing close
stays spacing l e = sym (steps_still (spread_pair spacing) 9 l (λ k b. sym (wide_enough spacing k l refl (nowhere_each (close spacing l) 9 k e b))))

-- ---- the first three rows of a list

pub first_three : (l : List (List ℤ)) → 3 ≤ length l → row l 0 ∷ (row l 1 ∷ (row l 2 ∷ [])) ≡ take 3 l
first_three [] h = absurd (omega arith)
first_three (a ∷ []) h = absurd (omega arith)
first_three (a ∷ (b ∷ [])) h = absurd (omega arith)
first_three (a ∷ (b ∷ (c ∷ l))) h = refl

-- ---- order and bounds, a step at a time

pub bounded : (low high distance : ℤ) (omega ordered apart : List ℤ) {m n : ℤ} → ordered ≡ sort omega → m ≡ greater (at ordered 0) low
    → apart ≡ run (λ k l. keep_distance distance (at l k) (at l (1 + k))) 1 9 (set ordered 0 m) → n ≡ lesser (at apart 9) high → set apart 9 n ≡ order_and_bound low high distance omega
unfolding order_and_bound
bounded low high distance omega ordered apart a b d e = rw (e, d, b, a)

-- Laws of a conference: the sum of the others is the whole sum without the leg's own sample, how large the sums are, and what the loops write. Assumes nothing.
use Rattle.std.specs.Prelude.{◌≡◌, Bool, true, false, cond, ◌&&◌, ℕ, zero, suc, ◌+◌, ◌-◌, ◌*◌, ◌/◌, ◌%◌, ◌≤◌, ◌<◌, eqb, leb, ℤ, pos, nat_abs, ◌+ℤ◌, ◌-ℤ◌, get_or, take, drop, set, replicate}
use Rattle.std.proofs.Math.Path.{refl}
use Rattle.std.proofs.Common.{sym, ap, ◌∙◌, add-one, arith, drop_of_length-le, take_all, take_at, get_or-take, get_or-drop, drop-drop, eq-eqb, ne_eqb, le-leb, eqb-true, leb-true, SFits}
use mathlib.Core.List.{List, [], ◌∷◌, ◌++◌, append-nil, append_assoc}
use Rattle.std.proofs.Math.IntN.{+ℤ_idl, +ℤ_assoc, +ℤ_comm, +ℤ-neg_ℤ_cancel}
use Rattle.std.proofs.Math.ListN.{length, length-append}
use Rattle.std.proofs.lemmas.List.{length-map}
use Rattle.std.proofs.Math.Seq.{drop_at, split_at, paste, paste-suc}
use Rattle.std.specs.Int.Signed.{mag}
use Rattle.std.proofs.lemmas.Bool.{eqb-false}
use Rattle.std.specs.Int.{w16, w32}
use Rattle.laws.specs.Lists.{at, tab, at_zeros, length_tab, at_tab, upto, length_upto, map_upto}
use Rattle.laws.specs.Loops.{both_hold}
use Rattle.laws.specs.Perm.{Perm, none, keep, swap, then}
use Rattle.laws.specs.Range.{mag_abs, mag_add, mag_sub}
use Rattle.basic_op.specs.Ops.{sat16}
use Rattle.mix.specs.Mix.{sum, others, heard, mix, frames, legs_of, joined, whole, refusal, mixed, mix_call}

-- ---- sums

-- what adds the legs' samples at place i: nothing for no leg, and a leg's sample to what the others have
pub record Adds (i : ℕ) (s : List (List ℤ) → ℤ) : Type 0 where
  pub none : s [] ≡ pos 0
  pub more : (x : List ℤ) (l : List (List ℤ)) → s (x ∷ l) ≡ at x i +ℤ s l

taken_off : (a x b : ℤ) → a +ℤ (x +ℤ b) -ℤ x ≡ a +ℤ b
taken_off a x b = ap (λ (z : ℤ). a +ℤ z -ℤ x) (+ℤ_comm x b) ∙ ap (λ (z : ℤ). z -ℤ x) (sym (+ℤ_assoc a b x)) ∙ +ℤ-neg_ℤ_cancel (a +ℤ b) x

module _ (i : ℕ) (s : List (List ℤ) → ℤ) (w : Adds i s) where
  pub adds_append : (a b : List (List ℤ)) → s (a ++ b) ≡ s a +ℤ s b
  adds_append [] b = rw w.none (sym (+ℤ_idl (s b)))
  adds_append (x ∷ a) b =
      w.more x (a ++ b) ∙ ap (λ (z : ℤ). at x i +ℤ z) (adds_append a b) ∙ sym (+ℤ_assoc (at x i) (s a) (s b)) ∙ ap (λ (z : ℤ). z +ℤ s b) (sym (w.more x a))

  pub adds_others : (k : ℕ) (l : List (List ℤ)) → k < length l → s (others k l) ≡ s l -ℤ at (get_or l k []) i
  adds_others k l h =
      let x : List ℤ = get_or l k [] in
      adds_append (take k l) (drop (suc k) l)
      ∙ sym (taken_off (s (take k l)) (at x i) (s (drop (suc k) l)))
      ∙ ap (λ (z : ℤ). s (take k l) +ℤ z -ℤ at x i) (sym (w.more x (drop (suc k) l)))
      ∙ ap (λ (z : ℤ). z -ℤ at x i) (sym (adds_append (take k l) (x ∷ drop (suc k) l)) ∙ ap s (sym (split_at l k [] h)))

  -- in any order of the legs
  pub adds_perm : {l m : List (List ℤ)} → Perm l m → s l ≡ s m
  adds_perm none = refl
  adds_perm (keep {x} {l} {m} p) = w.more x l ∙ ap (λ (z : ℤ). at x i +ℤ z) (adds_perm p) ∙ sym (w.more x m)
  adds_perm (swap {x} {y} {l}) =
      let e : s (x ∷ (y ∷ l)) ≡ at x i +ℤ (at y i +ℤ s l) = w.more x (y ∷ l) ∙ ap (λ (z : ℤ). at x i +ℤ z) (w.more y l) in
      let f : s (y ∷ (x ∷ l)) ≡ at y i +ℤ (at x i +ℤ s l) = w.more y (x ∷ l) ∙ ap (λ (z : ℤ). at y i +ℤ z) (w.more x l) in
      e ∙ sym (+ℤ_assoc (at x i) (at y i) (s l)) ∙ ap (λ (z : ℤ). z +ℤ s l) (+ℤ_comm (at x i) (at y i)) ∙ +ℤ_assoc (at y i) (at x i) (s l) ∙ sym f
  adds_perm (then p q) = adds_perm p ∙ adds_perm q

-- ---- legs that are lent one after another

pub length_frames : (n : ℕ) (l : List ℤ) → length (frames n l) ≡ n
unfolding frames
length_frames zero l = refl
length_frames (suc n) l = ap suc (length_frames n (drop 80 l))

frames_at : (n k : ℕ) (l : List ℤ) → k < n → get_or (frames n l) k [] ≡ take 80 (drop (80 * k) l)
unfolding frames
frames_at zero k l h = absurd (omega arith)
frames_at (suc n) zero l h = refl
frames_at (suc n) (suc k) l h =
    let e : 80 + 80 * k ≡ 80 * suc k = omega arith in
    frames_at n k (drop 80 l) (omega arith) ∙ ap (take 80) (drop-drop (80 * k) 80 l ∙ ap (λ (j : ℕ). drop j l) e)

pub length_legs : (l : List ℤ) → length (legs_of l) ≡ length l / 80
unfolding legs_of
length_legs l = length_frames (length l / 80) l

-- leg k
pub legs_at : (l : List ℤ) (k : ℕ) → k < length l / 80 → get_or (legs_of l) k [] ≡ take 80 (drop (80 * k) l)
unfolding legs_of
legs_at l k h = frames_at (length l / 80) k l h

-- its sample i
pub sample_at : (l : List ℤ) (k i : ℕ) → k < length l / 80 → i < 80 → at (get_or (legs_of l) k []) i ≡ at l (80 * k + i)
sample_at l k i h b = ap (λ (x : List ℤ). at x i) (legs_at l k h) ∙ get_or-take 80 (drop (80 * k) l) i (pos 0) b ∙ get_or-drop (80 * k) l i (pos 0)

-- ---- how large the sums are

-- sums of at most k samples of 16 bits
pub record Within (k : ℕ) (l : List ℤ) : Type 0 where
  pub each : (i : ℕ) → i < 80 → nat_abs (at l i) ≤ k * 32768

-- samples of 16 bits: all, and n from place p on
pub record Samples (l : List ℤ) : Type 0 where
  pub each : (i : ℕ) → mag (at l i) < 32768

pub record SamplesAt (l : List ℤ) (p n : ℕ) : Type 0 where
  pub each : (i : ℕ) → i < n → mag (at l (p + i)) < 32768

pub samples_none : (l : List ℤ) (p : ℕ) → SamplesAt l p 0
samples_none l p = record { each = λ i h. absurd (omega arith) }

pub samples_turn : (l : List ℤ) (p n : ℕ) → SamplesAt l p n → mag (at l (p + n)) < 32768 → SamplesAt l p (n + 1)
samples_turn l p n s h = record { each = λ i b. go i b (eqb i n) refl }
  where
    go : (i : ℕ) → i < n + 1 → (t : Bool) → eqb i n ≡ t → mag (at l (p + i)) < 32768
    go i b true e = rw (eqb-true i n e) h
    go i b false e = s.each i (omega (arith, eqb-false i n e))

pub within_more : (k m : ℕ) (l : List ℤ) → k ≤ m → Within k l → Within m l
within_more k m l h w = record { each = λ i b. omega (arith, w.each i b) }

-- one sample more, and one less
pub plus_fits : (a b : ℤ) → nat_abs a ≤ 7 * 32768 → SFits w16 b → SFits w32 (a +ℤ b)
plus_fits a b h f = record { sfits = omega (arith, mag_add a b 229377 32768 (omega (arith, mag_abs a)) f.sfits) }

pub less_fits : (a b : ℤ) → nat_abs a ≤ 8 * 32768 → SFits w16 b → SFits w32 (a -ℤ b)
less_fits a b h f = record { sfits = omega (arith, mag_sub a b 262145 32768 (omega (arith, mag_abs a)) f.sfits) }

-- ---- the loop over the legs that sums

abbrev pub Summed : List ℤ → ℕ → List ℤ → Type 0
Summed l k t = (t ≡ tab 80 (λ i. sum i (take k (legs_of l)))) × Within k t

pub summed_none : (l : List ℤ) → Summed l 0 (replicate 80 (pos 0))
unfolding tab sum
summed_none l = (refl, record { each = λ i b. rw (at_zeros 80 i) (omega arith) })

pub summed_length : (l t : List ℤ) (k : ℕ) → Summed l k t → length t ≡ 80
summed_length l t k w = ap length w.0 ∙ length_tab 80 (λ i. sum i (take k (legs_of l)))

pub summed_end : (l t : List ℤ) (k : ℕ) → k ≡ length l / 80 → Summed l k t → t ≡ tab 80 (λ i. sum i (legs_of l))
summed_end l t k h w = w.0 ∙ ap (λ (x : List (List ℤ)). tab 80 (λ i. sum i x)) (take_all k (legs_of l) (omega (arith, length_legs l)))

-- ---- what a leg heard, written at its place

pub less_turn : (g : ℕ → ℤ) (d out : List ℤ) (p i : ℕ) (v : ℤ) → p + 80 ≤ length d → i < 80 → out ≡ paste d p (tab 80 g) i → v ≡ g i → set out (p + i) v ≡ paste d p (tab 80 g) (i + 1)
less_turn g d out p i v h b e q =
    rw (e, add-one, q ∙ sym (at_tab g 80 i b)) (paste-suc d p (tab 80 g) i (pos 0) (omega arith) (omega (arith, length_tab 80 g)))

-- ---- the loop over the legs that writes

pub length_mix : (l : List (List ℤ)) → length (mix l) ≡ length l
unfolding mix
length_mix l = length-map (upto (length l)) (heard l) ∙ length_upto (length l)

pub mix_at : (l : List (List ℤ)) (k : ℕ) → k < length l → get_or (mix l) k [] ≡ heard l k
unfolding mix
mix_at l k h = map_upto (heard l) (length l) k [] h

pub length_heard : (l : List (List ℤ)) (k : ℕ) → length (heard l k) ≡ 80
unfolding heard
length_heard l k = length_tab 80 (λ i. sat16 (sum i (others k l)))

pub joined_append : (a b : List (List ℤ)) → joined (a ++ b) ≡ joined a ++ joined b
unfolding joined
joined_append [] b = refl
joined_append (x ∷ a) b = ap (λ (z : List ℤ). x ++ z) (joined_append a b) ∙ sym (append_assoc x (joined a) (joined b))

-- before turn k the first k results are written
abbrev pub Heard : List ℤ → List ℤ → ℕ → List ℤ → Type 0
Heard l d k out = out ≡ joined (take k (mix (legs_of l))) ++ drop (80 * k) d

pub heard_none : (l d : List ℤ) → Heard l d 0 d
unfolding joined
heard_none l d = refl

pub heard_end : (l d out : List ℤ) (k : ℕ) → k ≡ length l / 80 → length l % 80 ≡ 0 → length d ≡ length l → Heard l d k out → out ≡ joined (mix (legs_of l))
heard_end l d out k h z b w =
    w ∙ rw (take_all k (mix (legs_of l)) (omega (arith, length_mix (legs_of l), length_legs l)), drop_of_length-le d {i = 80 * k} (omega arith)) (append-nil (joined (mix (legs_of l))))

-- ---- the call

-- what a length that is not refused is
pub record Whole (n : ℕ) : Type 0 where
  pub rest : n % 80 ≡ 0
  pub least : 80 ≤ n
  pub most : n ≤ 640

pub whole_is : (n : ℕ) → whole n ≡ true → Whole n
unfolding whole
whole_is n e =
    let p = both_hold (eqb (n % 80) 0 && leb 80 n) (leb n 640) e in
    let q = both_hold (eqb (n % 80) 0) (leb 80 n) p.0 in
    record { rest = eqb-true (n % 80) 0 q.0; least = leb-true 80 n q.1; most = leb-true n 640 p.1 }

pub whole_taken : (n : ℕ) → Whole n → refusal n n ≡ 0
unfolding refusal whole
whole_taken n w = rw (eq-eqb (n % 80) 0 w.rest, le-leb 80 n w.least, le-leb n 640 w.most, eq-eqb n n refl)

-- ---- legs one after another are these legs

module _ where
  pub joined_length : (m : List (List ℤ)) → ((k : ℕ) → k < length m → length (get_or m k []) ≡ 80) → length (joined m) ≡ 80 * length m
  unfolding joined
  joined_length [] h = refl
  joined_length (x ∷ m) h =
      let a : length x ≡ 80 = h 0 (omega arith) in
      let b : length (joined m) ≡ 80 * length m = joined_length m (λ k c. h (suc k) (omega arith)) in
      length-append x (joined m) ∙ omega (arith, a, b)

  frames_joined : (m : List (List ℤ)) → ((k : ℕ) → k < length m → length (get_or m k []) ≡ 80) → frames (length m) (joined m) ≡ m
  unfolding frames joined
  frames_joined [] h = refl
  frames_joined (x ∷ m) h =
      rw (take_at x (joined m) 80 (h 0 (omega arith)), drop_at x (joined m) 80 (h 0 (omega arith)), frames_joined m (λ k c. h (suc k) (omega arith)))

pub legs_joined : (m : List (List ℤ)) → ((k : ℕ) → k < length m → length (get_or m k []) ≡ 80) → legs_of (joined m) ≡ m
unfolding legs_of
legs_joined m h =
    let n : length (joined m) / 80 ≡ length m = omega (arith, joined_length m h) in
    ap (λ (k : ℕ). frames k (joined m)) n ∙ frames_joined m h

-- ---- lengths that are not refused

pub taken : (l d : List ℤ) (n : ℕ) → n ≡ refusal (length l) (length d) → n ≡ 0 → Whole (length l) × (length d ≡ length l)
unfolding refusal
taken l d n e z = go (whole (length l)) refl (eqb (length d) (length l)) refl (sym e ∙ z)
  where
    go : (s : Bool) → whole (length l) ≡ s → (t : Bool) → eqb (length d) (length l) ≡ t → ◌≡◌ {A = ℕ} (cond s (cond t 0 7) 19) 0 → Whole (length l) × (length d ≡ length l)
    go true p true q f = (whole_is (length l) p, eqb-true (length d) (length l) q)
    go true p false q f = absurd (omega arith)
    go false p t q f = absurd (omega arith)

pub mix_refused : (l d : List ℤ) (n : ℕ) → n ≡ refusal (length l) (length d) → (n ≡ 0 → ⊥) → mixed n d ≡ mix_call l d
unfolding mix_call
mix_refused l d n e z = rw (← e, ne_eqb n 0 z)

pub mix_done : (l d out : List ℤ) (n : ℕ) → n ≡ refusal (length l) (length d) → n ≡ 0 → out ≡ joined (mix (legs_of l)) → mixed 0 out ≡ mix_call l d
unfolding mix_call
mix_done l d out n e z g = rw (← e, z, g)

-- what is known of a call that is not refused
pub record Done (l d r : List ℤ) : Type 0 where
  pub whole : Whole (length l)
  pub lent : length d ≡ length l
  pub results : r ≡ joined (mix (legs_of l))

-- its results, as legs
pub legs_results : (l d r : List ℤ) → Done l d r → legs_of r ≡ mix (legs_of l)
legs_results l d r w =
    ap legs_of w.results ∙ legs_joined (mix (legs_of l)) (λ k h. let b : k < length (legs_of l) = omega (arith, length_mix (legs_of l)) in ap length (mix_at (legs_of l) k b) ∙ length_heard (legs_of l) k)

pub length_done : (l d r : List ℤ) → Done l d r → length r ≡ length l
length_done l d r w =
    ap length w.results
    ∙ joined_length (mix (legs_of l)) (λ k h. let b : k < length (legs_of l) = omega (arith, length_mix (legs_of l)) in ap length (mix_at (legs_of l) k b) ∙ length_heard (legs_of l) k)
    ∙ omega (arith, length_mix (legs_of l), length_legs l, w.whole.rest)

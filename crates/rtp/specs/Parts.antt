-- A payload and its parts: the claims of Payload.antt, proved. Assumes nothing.
use Rattle.std.specs.Prelude.{◌≡◌, refl, Bool, true, false, List, [], ◌∷◌, ◌++◌, ℕ, zero, suc, ◌+◌, ◌*◌, ◌≤◌, ◌<◌, length, take, drop}
use Rattle.std.proofs.Common.{sym, ap, ◌∙◌, arith, length-take, length-drop, take_all}
use Rattle.kind.specs.Kind.{payload_length}
use Rattle.rtp.specs.Rtp.{whole, count, frames, find, part}
use Rattle.rtp.specs.Laws.{Rest, rest, count_none, count_two, Case, cases, within, frames_none, frames_two, frames_refused}
use Rattle.rtp.specs.Payload.{joined, Payload}

-- ---- the count

counted : (n : ℕ) → whole n ≡ true → frames n ≡ record { code = 0; frames = count n }
unfolding frames
counted n w = rw w

not_counted : (n : ℕ) → whole n ≡ false → frames n ≡ record { code = 12; frames = 0 }
unfolding frames
not_counted n w = rw w

-- whether a payload is whole is what its number says
data Counts (n : ℕ) : Type 0 where
  whole_is : whole n ≡ true → (frames n).code ≡ 0 → (frames n).frames ≡ count n → Counts n
  not_whole : whole n ≡ false → (frames n).code ≡ 12 → (frames n).frames ≡ 0 → Counts n

counts : (n : ℕ) → Counts n
counts n = by (whole n) refl
  where
    by : (b : Bool) → whole n ≡ b → Counts n
    by true w = whole_is w (rw (counted n w)) (rw (counted n w))
    by false w = not_whole w (rw (not_counted n w)) (rw (not_counted n w))

differ : {A : Type 0} {b : Bool} → b ≡ true → b ≡ false → A
differ t f = let e : ◌≡◌ {A = Bool} true false = sym t ∙ f in let z : ◌≡◌ {A = ℕ} 0 1 = cc in absurd (omega arith)

-- ---- joined

-- the part of a frame is ten bytes, or as many as are left
part_is : (l : List ℕ) (k : ℕ) → whole (length l) ≡ true → k < count (length l) → part l k ≡ take 10 (drop (10 * k) l)
unfolding part
part_is l k w h = by (cases (length l) k)
  where
    by : Case (length l) k → take (find (length l) k).length (drop (find (length l) k).start l) ≡ take 10 (drop (10 * k) l)
    by (Case.voice e _ _) = rw e
    by (Case.sid e _ s) =
        let n : length (drop (10 * k) l) ≡ 2 = simp length-drop (omega arith) in
        rw e (take_all 2 (drop (10 * k) l) (omega arith) ∙ sym (take_all 10 (drop (10 * k) l) (omega arith)))
    by (Case.past e _ p) = absurd (omega arith)
    by (Case.refused e f) = differ w f

take_more : (l : List ℕ) (a b c : ℕ) → a + b ≡ c → take a l ++ take b (drop a l) ≡ take c l
take_more l zero b c e = let f : b ≡ c = omega arith in rw f
take_more [] (suc a) b c e = take_all b [] (omega arith) ∙ sym (take_all c [] (omega arith))
take_more (x ∷ l) (suc a) b zero e = absurd (omega arith)
take_more (x ∷ l) (suc a) b (suc c) e = ap (λ (m : List ℕ). x ∷ m) (take_more l a b c (omega arith))

joined_take : (l : List ℕ) (m : ℕ) → whole (length l) ≡ true → m ≤ count (length l) → joined l m ≡ take (10 * m) l
unfolding joined
joined_take l zero w h = refl
joined_take l (suc m) w h = rw (joined_take l m w (omega arith), part_is l m w (omega arith)) (take_more l (10 * m) 10 (10 * suc m) (omega arith))

enough : (n : ℕ) → Rest n → n ≤ 10 * count n
enough n (Rest.none h) = omega (arith, count_none n h)
enough n (Rest.two h) = omega (arith, count_two n h)

parts_joined_proof : (l : List ℕ) → (frames (length l)).code ≡ 0 → joined l (frames (length l)).frames ≡ l
parts_joined_proof l h = by (counts (length l))
  where
    by : Counts (length l) → joined l (frames (length l)).frames ≡ l
    by (whole_is w _ c) = rw c (joined_take l (count (length l)) w (omega arith) ∙ take_all (10 * count (length l)) l (enough (length l) (rest (length l) w)))
    by (not_whole _ c _) = absurd (omega arith)

-- ---- by the cases of a frame

module _ (n k : ℕ) where
  found_proof : (frames n).code ≡ 0 → k < (frames n).frames → (find n k).code ≡ 0
  found_proof h g = by (counts n) (cases n k)
    where
      by : Counts n → Case n k → (find n k).code ≡ 0
      by _ (Case.voice e _ _) = rw e
      by _ (Case.sid e _ _) = rw e
      by (whole_is _ _ c) (Case.past e _ p) = absurd (omega arith)
      by (not_whole _ c _) (Case.past e _ p) = absurd (omega arith)
      by (whole_is w _ _) (Case.refused e f) = differ w f
      by (not_whole _ c _) (Case.refused e f) = absurd (omega arith)

  past_proof : (frames n).code ≡ 0 → (frames n).frames ≤ k → (find n k).code ≡ 13
  past_proof h g = by (counts n) (cases n k)
    where
      by : Counts n → Case n k → (find n k).code ≡ 13
      by (whole_is w _ c) (Case.voice e _ v) = absurd (below (rest n w))
        where
          below : Rest n → ⊥
          below (Rest.none z) = omega (arith, count_none n z)
          below (Rest.two z) = omega (arith, count_two n z)
      by (whole_is w _ c) (Case.sid e _ s) = absurd (omega (arith, count_two n (omega arith)))
      by (whole_is _ _ _) (Case.past e _ _) = rw e
      by (whole_is w _ _) (Case.refused e f) = differ w f
      by (not_whole _ c _) _ = absurd (omega arith)

  first_proof : ((frames n).code ≡ 0 → ⊥) → ((frames n).code ≡ 12) × ((find n k).code ≡ 12)
  first_proof h = by (counts n) (cases n k)
    where
      by : Counts n → Case n k → ((frames n).code ≡ 12) × ((find n k).code ≡ 12)
      by (whole_is _ c _) _ = absurd (h c)
      by (not_whole f _ _) (Case.voice _ w _) = differ w f
      by (not_whole f _ _) (Case.sid _ w _) = differ w f
      by (not_whole f _ _) (Case.past _ w _) = differ w f
      by (not_whole _ c _) (Case.refused e _) = (c, rw e)

  voice_or_sid_proof : (find n k).kind ≤ 1
  voice_or_sid_proof = by (cases n k)
    where
      by : Case n k → (find n k).kind ≤ 1
      by (Case.voice e _ _) = rw e (omega arith)
      by (Case.sid e _ _) = rw e (omega arith)
      by (Case.past e _ _) = rw e (omega arith)
      by (Case.refused e _) = rw e (omega arith)

  sid_last_proof : (find n k).kind ≡ 1 → k + 1 ≡ (frames n).frames
  sid_last_proof h = by (counts n) (cases n k)
    where
      by : Counts n → Case n k → k + 1 ≡ (frames n).frames
      by _ (Case.voice e _ _) = let z : ◌≡◌ {A = ℕ} 0 1 = sym (rw e) ∙ h in absurd (omega arith)
      by (whole_is _ _ c) (Case.sid e _ s) = omega (arith, count_two n (omega arith))
      by (not_whole f _ _) (Case.sid e w s) = differ w f
      by _ (Case.past e _ _) = let z : ◌≡◌ {A = ℕ} 0 1 = sym (rw e) ∙ h in absurd (omega arith)
      by _ (Case.refused e _) = let z : ◌≡◌ {A = ℕ} 0 1 = sym (rw e) ∙ h in absurd (omega arith)

part_length_proof : (l : List ℕ) (k : ℕ) → (find (length l) k).code ≡ 0 → length (part l k) ≡ payload_length (find (length l) k).kind
unfolding part payload_length
part_length_proof l k h = by (cases (length l) k)
  where
    by : Case (length l) k → length (take (find (length l) k).length (drop (find (length l) k).start l)) ≡ payload_length (find (length l) k).kind
    by (Case.voice e _ v) = rw e (simp (length-take, length-drop) (omega arith))
    by (Case.sid e _ s) = rw e (simp (length-take, length-drop) (omega arith))
    by (Case.past e _ _) = let z : ◌≡◌ {A = ℕ} 13 0 = sym (rw e) ∙ h in absurd (omega arith)
    by (Case.refused e _) = let z : ◌≡◌ {A = ℕ} 12 0 = sym (rw e) ∙ h in absurd (omega arith)

refused_empty_proof : (l : List ℕ) (k : ℕ) → ((find (length l) k).code ≡ 0 → ⊥) → part l k ≡ []
unfolding part
refused_empty_proof l k h = by (cases (length l) k)
  where
    by : Case (length l) k → take (find (length l) k).length (drop (find (length l) k).start l) ≡ []
    by (Case.voice e _ _) = absurd (h (rw e))
    by (Case.sid e _ _) = absurd (h (rw e))
    by (Case.past e _ _) = rw e
    by (Case.refused e _) = rw e

refused_none_proof : (n : ℕ) → ((frames n).code ≡ 0 → ⊥) → (frames n).frames ≡ 0
refused_none_proof n h = by (counts n)
  where
    by : Counts n → (frames n).frames ≡ 0
    by (whole_is _ c _) = absurd (h c)
    by (not_whole _ _ c) = c

empty_proof : frames 0 ≡ record { code = 0; frames = 0 }
unfolding frames whole count
empty_proof = refl

pub payload : Payload
payload =
    record {
      voice_alone = λ n h. sym (frames_none n h);
      voice_and_sid = λ n h. sym (frames_two n h);
      no_other = λ n h g. sym (frames_refused n h g);
      empty = empty_proof;
      parts_joined = parts_joined_proof;
      found = found_proof;
      past = past_proof;
      first = first_proof;
      voice_or_sid = voice_or_sid_proof;
      sid_last = sid_last_proof;
      part_within = within;
      part_length = part_length_proof;
      refused_empty = refused_empty_proof;
      refused_none = refused_none_proof;
    }

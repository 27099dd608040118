-- Laws of a payload's frames: what each test of the code says, and where a frame lies. Assumes nothing.
use Rattle.std.specs.Prelude.{◌≡◌, Bool, ◌||◌, List, ℕ, ◌+◌, ◌-◌, ◌*◌, ◌/◌, ◌%◌, ◌≤◌, ◌<◌, eqb, ltb, take, drop}
use Rattle.std.proofs.Math.Path.{refl, ap}
use Rattle.std.proofs.Common.{sym, ◌∙◌, arith}
use Rattle.std.proofs.Math.Bool.{true, false, cond}
use Rattle.std.proofs.Math.ListN.{length}
use borrow.Author.Tests.{eqb-true, ltb-true, ltb-false, eq-eqb, ne_eqb, lt-ltb, le-ltb}
use Rattle.kind.specs.Kind.{payload_length}
use Rattle.rtp.specs.Rtp.{whole, count, kind, refusal, frames, find, part, place, answer, frame}
use Rattle.rtp.specs.declared.FrameCount.{FrameCount}
use Rattle.rtp.specs.declared.FramePart.{FramePart}

-- ---- whole payloads

-- the remainder of a whole payload
pub data Rest (n : ℕ) : Type 0 where
  none : n % 10 ≡ 0 → Rest n
  two : n % 10 ≡ 2 → Rest n

pub rest : (n : ℕ) → whole n ≡ true → Rest n
unfolding whole
rest n = by (eqb (n % 10) 0) (eqb (n % 10) 2) refl refl
  where
    by : (p q : Bool) → eqb (n % 10) 0 ≡ p → eqb (n % 10) 2 ≡ q → (p || q) ≡ true → Rest n
    by true q e f h = none (eqb-true _ _ e)
    by false true e f h = two (eqb-true _ _ f)
    by false false e f h = let z : ◌≡◌ {A = Bool} false true = h in let m : ◌≡◌ {A = ℕ} 0 1 = cc in absurd (omega arith)

-- its frames
pub count_none : (n : ℕ) → n % 10 ≡ 0 → count n ≡ n / 10
unfolding count
count_none n h = rw (ne_eqb (n % 10) 2 (omega arith)) (omega arith)

pub count_two : (n : ℕ) → n % 10 ≡ 2 → count n ≡ n / 10 + 1
unfolding count
count_two n h = rw (eq-eqb (n % 10) 2 h)

count_most : (n : ℕ) → count n ≤ n / 10 + 1
unfolding count
count_most n = by (eqb (n % 10) 2)
  where
    by : (b : Bool) → n / 10 + cond b 1 0 ≤ n / 10 + 1
    by true = omega arith
    by false = omega arith

-- ---- the cases of a frame: what the call answers, and why

-- frame k of n bytes
pub data Case (n k : ℕ) : Type 0 where
  voice : find n k ≡ record { code = 0; kind = 0; start = 10 * k; length = 10 } → whole n ≡ true → k < n / 10 → Case n k
  sid : find n k ≡ record { code = 0; kind = 1; start = 10 * k; length = 2 } → whole n ≡ true → n ≡ 10 * k + 2 → Case n k
  past : find n k ≡ record { code = 13; kind = 0; start = 0; length = 0 } → whole n ≡ true → count n ≤ k → Case n k
  refused : find n k ≡ record { code = 12; kind = 0; start = 0; length = 0 } → whole n ≡ false → Case n k

-- a frame behind the voice frames is made of the two bytes that are left
left_two : (n k : ℕ) → whole n ≡ true → k < count n → n / 10 ≤ k → n ≡ 10 * k + 2
left_two n k w c p = by (rest n w)
  where
    by : Rest n → n ≡ 10 * k + 2
    by (none h) = absurd (omega (arith, count_none n h))
    by (two h) = omega (arith, count_two n h)

pub cases : (n k : ℕ) → Case n k
unfolding find refusal kind payload_length
cases n k = by (whole n) (ltb k (count n)) (ltb k (n / 10)) refl refl refl
  where
    by : (w c v : Bool) → whole n ≡ w → ltb k (count n) ≡ c → ltb k (n / 10) ≡ v → Case n k
    by false c v w _ _ = refused (rw w) w
    by true false v w c _ = past (rw (w, c)) w (ltb-false _ _ c)
    by true true true w c v = voice (rw (w, c, v)) w (ltb-true _ _ v)
    by true true false w c v = sid (rw (w, c, v)) w (left_two n k w (ltb-true _ _ c) (ltb-false _ _ v))

-- a part lies within the payload
pub within : (n k : ℕ) → (find n k).start + (find n k).length ≤ n
within n k = by (cases n k)
  where
    by : Case n k → (find n k).start + (find n k).length ≤ n
    by (voice e _ v) = rw e (omega arith)
    by (sid e _ s) = rw e (omega arith)
    by (past e _ _) = rw e (omega arith)
    by (refused e _) = rw e (omega arith)

-- the length of a part, by its kind
pub voice_length : (n k : ℕ) → (find n k).kind ≡ 0 → (find n k).length ≤ 10
voice_length n k h = by (cases n k)
  where
    by : Case n k → (find n k).length ≤ 10
    by (voice e _ _) = rw e (omega arith)
    by (sid e _ _) = rw e (omega arith)
    by (past e _ _) = rw e (omega arith)
    by (refused e _) = rw e (omega arith)

pub sid_length : (n k : ℕ) → ((find n k).kind ≡ 0 → ⊥) → ((find n k).kind ≡ 1) × ((find n k).length ≤ 2)
sid_length n k h = by (cases n k)
  where
    by : Case n k → ((find n k).kind ≡ 1) × ((find n k).length ≤ 2)
    by (voice e _ _) = absurd (h (rw e))
    by (sid e _ _) = rw e (refl, omega arith)
    by (past e _ _) = absurd (h (rw e))
    by (refused e _) = absurd (h (rw e))

-- ---- by what `find` answers

pub ends : (n k : ℕ) {r : FramePart} → r ≡ find n k → r.start + r.length ≤ n
ends n k e = rw e (within n k)

pub part_of : (l : List ℕ) (k : ℕ) {r : FramePart} → r ≡ find (length l) k → take (r.start + r.length - r.start) (drop r.start l) ≡ part l k
unfolding part
part_of l k {r} e = let m : r.start + r.length - r.start ≡ r.length = omega arith in rw (m, e)

pub place_of : (p : ℕ × ℕ) (n k : ℕ) {r : FramePart} → r ≡ find n k → ◌≡◌ {A = ℕ × ℕ} (p.0, r.start + p.1) (place p n k)
unfolding place
place_of p n k e = rw e

pub frame_of : (p : ℕ × ℕ) (l : List ℕ) (k : ℕ) {r : FramePart} {b : List ℕ} {q : ℕ × ℕ} → r ≡ find (length l) k → b ≡ part l k → q ≡ place p (length l) k
    → answer r.code r.kind b q ≡ frame p l k
unfolding frame
frame_of p l k e f g = rw (e, f, g)

-- ---- the code's tests

pub frames_none : (n : ℕ) → n % 10 ≡ 0 → record { code = 0; frames = n / 10 } ≡ frames n
unfolding frames whole
frames_none n h = rw (eq-eqb (n % 10) 0 h) (λ i. record { code = 0; frames = sym (count_none n h) i })

pub frames_two : (n : ℕ) → n % 10 ≡ 2 → record { code = 0; frames = n / 10 + 1 } ≡ frames n
unfolding frames whole
frames_two n h = rw (ne_eqb (n % 10) 0 (omega arith), eq-eqb (n % 10) 2 h) (λ i. record { code = 0; frames = sym (count_two n h) i })

pub frames_most : (n : ℕ) → (frames n).frames ≤ n / 10 + 1
unfolding frames
frames_most n = by (whole n)
  where
    by : (b : Bool) → (cond {A = FrameCount} b (record { code = 0; frames = count n }) (record { code = 12; frames = 0 })).frames ≤ n / 10 + 1
    by true = count_most n
    by false = omega arith

pub frames_refused : (n : ℕ) → (n % 10 ≡ 0 → ⊥) → (n % 10 ≡ 2 → ⊥) → record { code = 12; frames = 0 } ≡ frames n
unfolding frames whole
frames_refused n h g = rw (ne_eqb _ _ h, ne_eqb _ _ g)

-- by what `frames_of` answers
module _ (n k : ℕ) {r : FrameCount} (e : r ≡ frames n) where
  code_is : r.code ≡ cond {A = ℕ} (whole n) 0 12
  unfolding frames
  code_is = ap (λ (x : FrameCount). x.code) e ∙ pick (whole n)
    where
      pick : (b : Bool) → (cond {A = FrameCount} b (record { code = 0; frames = count n }) (record { code = 12; frames = 0 })).code ≡ cond {A = ℕ} b 0 12
      pick true = refl
      pick false = refl

  frames_are : whole n ≡ true → r.frames ≡ count n
  unfolding frames
  frames_are h = ap (λ (x : FrameCount). x.frames) e ∙ rw h

  pub find_refused : (r.code ≡ 0 → ⊥) → record { code = r.code; kind = 0; start = 0; length = 0 } ≡ find n k
  unfolding find refusal
  find_refused m = by (whole n) refl
    where
      by : (b : Bool) → whole n ≡ b → record { code = r.code; kind = 0; start = 0; length = 0 } ≡ find n k
      by true h = absurd (m (code_is ∙ rw h))
      by false h = rw (code_is, h)

  whole_of : r.code ≡ 0 → whole n ≡ true
  whole_of h = by (whole n) refl
    where
      by : (b : Bool) → whole n ≡ b → b ≡ true
      by true g = refl
      by false g = let z : ◌≡◌ {A = ℕ} 12 0 = sym (code_is ∙ rw g) ∙ h in absurd (omega arith)

  pub find_past : r.code ≡ 0 → r.frames ≤ k → record { code = 13; kind = 0; start = 0; length = 0 } ≡ find n k
  unfolding find refusal
  find_past h g =
      let w = whole_of h in
      let f = frames_are w in
      rw (w, le-ltb k (count n) (omega arith))

  module _ (h : r.code ≡ 0) (g : k < r.frames) where
    taken : refusal n k ≡ 0
    unfolding refusal
    taken =
        let w = whole_of h in
        let f = frames_are w in
        rw (w, lt-ltb k (count n) (omega arith))

    -- its place is within the payload
    pub starts : 10 * k ≤ n
    starts = by (rest n (whole_of h))
      where
        by : Rest n → 10 * k ≤ n
        by (none z) = omega (arith, count_none n z, frames_are (whole_of h))
        by (two z) = omega (arith, count_two n z, frames_are (whole_of h))

    pub find_voice : k < n / 10 → record { code = 0; kind = 0; start = 10 * k; length = 10 } ≡ find n k
    unfolding find kind payload_length
    find_voice p = rw (taken, lt-ltb k (n / 10) p)

    pub find_sid : n / 10 ≤ k → record { code = 0; kind = 1; start = 10 * k; length = 2 } ≡ find n k
    unfolding find kind payload_length
    find_sid p = rw (taken, le-ltb k (n / 10) p)

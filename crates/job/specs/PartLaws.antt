-- What the proofs of a part of a call use of its definitions. Assumes nothing.
use Rattle.std.specs.Prelude.{◌≡◌, ℕ, ◌+◌, ◌-◌, ◌*◌, ◌%◌, ◌^◌, ◌<◌, ◌≤◌, min, refl, Bool, true, false, cond, ◌&&◌, None, Some, ◌==◌, List, [], length, take, drop, ℤ, ◌≢◌, nat_le, slice_index, slice_index_or}
use Rattle.std.proofs.Common.{ap, ◌∙◌, arith, add-one, drop_of_length-le, drop-cons}
use Rattle.std.proofs.Math.Nat.{sub-zero}
use borrow.Author.Tests.{eq-eqb, ne_eqb, le-leb, lt-leb, leb-true, leb-false}
use Rattle.std.specs.Char.{is_ascii_digit}
use Rattle.crc32.specs.Crc32.{more}
use Rattle.line_step.specs.declared.Progress.{Progress}
use Rattle.line_step.specs.Step.{Job, kept}
use Rattle.call.specs.Chunk as Chunk
use Rattle.print.specs.Print.{over}
use Rattle.job.specs.declared.Saved.{Saved}
use Rattle.job.specs.declared.parts.Again.{Again}
use Rattle.job.specs.Part.{read_again, call_check, progress, going, after, taken, part, digits, wanted}
use Rattle.job.specs.Part as Part

-- ---- the call read again

pub again_is : (a : Again) (l : List ℕ) (n s : ℕ) → n ≡ min a.left (length l) → s ≡ more a.sum (take (n - 0) l) → record { sum = s; left = a.left - n } ≡ read_again a l
unfolding read_again
again_is a l n s h e = rw (e, sub-zero, h)

module _ (p : Saved) (a : Again) where
  pub call_short : (a.left ≢ 0) → 26 ≡ call_check p a
  unfolding call_check
  call_short h = rw (ne_eqb _ _ h)

  pub call_other : a.left ≡ 0 → (a.sum ≢ p.call) → 26 ≡ call_check p a
  unfolding call_check
  call_other h k = rw (eq-eqb _ _ h, ne_eqb _ _ k)

  pub call_same : a.left ≡ 0 → a.sum ≡ p.call → 0 ≡ call_check p a
  unfolding call_check
  call_same h k = rw (eq-eqb _ _ h, eq-eqb _ _ k)

-- ---- a part

pub part_is : (t b b' : List ℤ) (p : Saved) (from job : Progress) (most used written at total call : ℕ) (input out v : List ℕ) → from ≡ progress p 0
    → Chunk.answer (kept b' job) used written v ≡ Chunk.lines t (kept b from) most input out → call ≡ more p.call (take (used - 0) input)
    → at ≡ (p.at + used) % 2 ^ 64 → total ≡ (p.written + written) % 2 ^ 64
    → Part.answer b' job.code (record { counts = job.counts; lines = job.lines; at = at; written = total; tables = p.tables; call = call }) written (most - (job.lines - p.lines)) v
    ≡ part t b p most input out
unfolding part taken going after Chunk.lines Chunk.given
part_is t b b' p from job most used written at total call input out v f e c a w =
    let q : Chunk.Part = Chunk.part t (kept b (progress p 0)) most (length out) [] input in
    let g : Chunk.answer (kept b' job) used written v ≡ Chunk.answer q.job (length input - length q.unused) (length q.text) (over q.text out) = rw f at e in
    let k : kept b' job ≡ q.job = cc in
    let i : b' ≡ q.job.block = ap (λ (j : Job). j.block) k in
    let j : job ≡ q.job.progress = ap (λ (j : Job). j.progress) k in
    let u : used ≡ length input - length q.unused = cc in
    let x : written ≡ length q.text = cc in
    let y : v ≡ over q.text out = cc in
    rw (c, a, w, sub-zero, i, j, u, x, y)

-- ---- what is asked for

pub digit_not : (b : ℕ) → is_ascii_digit b ≡ false → 48 ≤ b → b ≤ 57 → ⊥
digit_not b e h k = let z : ◌≡◌ {A = Bool} true false = rw (le-leb 48 b h, le-leb b 57 k) at e in let y : ◌≡◌ {A = ℕ} 0 1 = cc in omega arith

pub digit_is : (b : ℕ) → is_ascii_digit b ≡ true → (48 ≤ b) × (b ≤ 57)
digit_is b e = by (nat_le 48 b) (nat_le b 57) refl refl e
  where
    by : (x y : Bool) → nat_le 48 b ≡ x → nat_le b 57 ≡ y → (x && y) ≡ true → (48 ≤ b) × (b ≤ 57)
    by true true f g h = (leb-true 48 b f, leb-true b 57 g)
    by true false f g h = let z : ◌≡◌ {A = ℕ} 0 1 = cc in absurd (omega arith)
    by false y f g h = let z : ◌≡◌ {A = ℕ} 0 1 = cc in absurd (omega arith)

pub wanted_none : (l : List ℕ) → length l ≡ 0 → None ≡ wanted l
unfolding wanted
wanted_none l h = rw (eq-eqb _ _ h)

digits_step : (l : List ℕ) (i n : ℕ) → i < length l
    → digits n (drop i l) ≡ cond (nat_le 48 (slice_index l i) && nat_le (slice_index l i) 57) (digits (min (10 * n + (slice_index l i - 48)) 4294967295) (drop (i + 1) l)) None
unfolding digits
digits_step l i n h = rw (drop-cons l i 0 h, add-one)

module _ (l : List ℕ) (i n : ℕ) (h : i < length l) (e : digits 0 l ≡ digits n (drop i l)) where
  pub wanted_low : slice_index_or l i 0 < 48 → None ≡ wanted l
  unfolding wanted
  wanted_low k = rw (ne_eqb (length l) 0 (λ z. omega arith), e, digits_step l i n h, lt-leb 48 (slice_index l i) k)

  pub wanted_high : 48 ≤ slice_index l i → 57 < slice_index l i → None ≡ wanted l
  unfolding wanted
  wanted_high j k = rw (ne_eqb (length l) 0 (λ z. omega arith), e, digits_step l i n h, le-leb 48 (slice_index l i) j, lt-leb (slice_index l i) 57 k)

  -- a byte outside 48..57
  pub wanted_other : (48 ≤ slice_index l i → slice_index l i ≤ 57 → ⊥) → None ≡ wanted l
  wanted_other h = by (nat_le 48 (slice_index l i)) refl
    where
      by : (x : Bool) → nat_le 48 (slice_index l i) ≡ x → None ≡ wanted l
      by false e = wanted_low (leb-false 48 (slice_index l i) e)
      by true e = let k : 48 ≤ slice_index l i = leb-true 48 (slice_index l i) e in wanted_high k (gt (nat_le (slice_index l i) 57) refl k)
        where
          gt : (y : Bool) → nat_le (slice_index l i) 57 ≡ y → 48 ≤ slice_index l i → 57 < slice_index l i
          gt true g k = absurd (h k (leb-true (slice_index l i) 57 g))
          gt false g k = leb-false (slice_index l i) 57 g

  pub wanted_more : (m : ℕ) → 48 ≤ slice_index l i → slice_index l i ≤ 57 → m ≡ min (10 * n + (slice_index l i - 48)) 4294967295 → digits 0 l ≡ digits m (drop (i + 1) l)
  wanted_more m j k g = e ∙ rw (digits_step l i n h, le-leb 48 (slice_index l i) j, le-leb (slice_index l i) 57 k, g)

pub wanted_end : (l : List ℕ) (i n : ℕ) → (length l ≢ 0) → length l ≤ i → digits 0 l ≡ digits n (drop i l) → Some n ≡ wanted l
unfolding wanted digits
wanted_end l i n h k e = rw (ne_eqb (length l) 0 h, e, drop_of_length-le l {i = i} k)

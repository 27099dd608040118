-- Laws of the next frame of a leg: what the calls answer, by the tests of the code. Assumes nothing.
use Rattle.std.specs.Prelude.{◌≡◌, refl, Bool, true, false, cond, ℕ, suc, ◌+◌, ◌-◌, ◌*◌, ◌/◌, ◌%◌, ◌≤◌, ◌<◌, min, eqb, ltb, ℤ, take, get_or}
use Rattle.std.proofs.Common.{sym, ap, ◌∙◌, add-one, arith, length-take, length-drop, drop_of_length-le, take_all, drop-cons, eq-eqb, ltb-true, ltb-false}
use mathlib.Core.List.{List, ◌++◌, map}
use Rattle.std.proofs.Math.ListN.{length, drop}
use Rattle.std.proofs.Math.Seq.{take-append_seam}
use Rattle.laws.specs.Bytes.{same_true}
use Rattle.text.specs.Text.{ascii, starts, Put}
use Rattle.print.specs.Print.{over}
use Rattle.print.specs.Laws.{front}
use Rattle.g711.specs.G711.{known, value, read, refusal, read_call}
use Rattle.pcm_line.specs.PcmLine as PcmLine
use Rattle.pcm_line.specs.Laws.{samples_few}
use Rattle.leg_frame.specs.LegFrame.{silence, taken, is_figure, leading, closes, opening, of_frames, is_total, answer, line}

-- ---- bytes

-- as many bytes as there are, at most 80, are the first 80
first : (l : List ℕ) (n : ℕ) → n ≡ min (length l) 80 → take n l ≡ take 80 l
first l n e = by (ltb (length l) 80) refl
  where
    by : (p : Bool) → ltb (length l) 80 ≡ p → take n l ≡ take 80 l
    by true f = take_all n l (omega (arith, ltb-true (length l) 80 f)) ∙ sym (take_all 80 l (omega (arith, ltb-true (length l) 80 f)))
    by false f = let k : n ≡ 80 = omega (arith, ltb-false (length l) 80 f) in rw k

-- a known law's samples at the front of 80
pub expanded : (law : ℕ) (l : List ℕ) (lent : List ℤ) {n code : ℕ} {v : List ℤ} → known law ≡ true → length lent ≡ 80 → n ≡ min (length l) 80
    → read code v ≡ read_call law (take (n - 0) l) (take (n - 0) lent) → v ++ drop (n - 0) lent ≡ map (value law) (take 80 l) ++ drop (min (length l) 80) lent
unfolding read_call refusal
expanded law l lent {n} {code} {v} k h e f =
    let m : n - 0 ≡ n = omega arith in
    let g : read code v ≡ read_call law (take n l) (take n lent) = rw m at f in
    let equal : length (take n l) ≡ length (take n lent) = simp length-take (omega arith) in
    let w : v ≡ map (value law) (take n l) = by (rw (k, eq-eqb (length (take n l)) (length (take n lent)) equal) at g) in
    rw (m, w, first l n e, e)
  where
    by : read code v ≡ read 0 (map (value law) (take n l)) → v ≡ map (value law) (take n l)
    by z = cc

-- a frame is among the bytes
pub taken_le : (f : ℕ) (l : List ℕ) → taken f l ≤ length l
unfolding taken
taken_le f l = by (eqb f 3)
  where
    by : (p : Bool) → cond p (2 * min (length l / 2) 80) (min (length l) 80) ≤ length l
    by true = omega arith
    by false = omega arith

-- ---- decimal digits

module _ (l : List ℕ) (i : ℕ) (h : i < length l) where
  pub leading_stops : is_figure (get_or l i 0) ≡ false → leading (drop i l) ≡ 0
  unfolding leading
  leading_stops e = rw (drop-cons l i 0 h, e)

  pub leading_goes : is_figure (get_or l i 0) ≡ true → leading (drop i l) ≡ suc (leading (drop (i + 1) l))
  unfolding leading
  leading_goes e = rw (drop-cons l i 0 h, e, add-one)

pub leading_ends : (l : List ℕ) (i : ℕ) → length l ≤ i → leading (drop i l) ≡ 0
unfolding leading
leading_ends l i h = rw (drop_of_length-le l {i = i} h)

-- ---- texts

-- what is behind a place
pub behind : (l : List ℕ) (n : ℕ) → take (length l - n) (drop n l) ≡ drop n l
behind l n = take_all (length l - n) (drop n l) (omega (arith, length-drop n l))

-- a text that was put at the front
pub put_text : {s lent out : List ℕ} {r : ℕ} → Put s 0 lent r out → take (r - 0) out ≡ s
unfolding over
put_text {s} {lent} {out} {r} p =
    let m : r - 0 ≡ length s = omega (arith, (front p).0) in
    rw (m, (front p).1) (take-append_seam s _)

-- what a text begins with is no longer than it
pub starts_fits : (s l : List ℕ) → starts s l ≡ true → length s ≤ length l
unfolding starts
starts_fits s l e = omega (arith, ap length (same_true (take (length s) l) s e), length-take (length s) l)

-- ---- the total of frames, whose opening was put at the front of lent bytes

module _ (n : ℕ) (l : List ℕ) {b : ℕ} {lent out : List ℕ} (p : Put (opening n) 0 lent b out) {r : Bool} (e : r ≡ starts (take (b - 0) out) l) where
  begins : starts (opening n) l ≡ r
  begins = rw (put_text p) at (sym e)

  many : b ≡ length (opening n)
  many = (front p).0

  pub no_frames : n % 80 ≡ 0 → r ≡ false → false ≡ of_frames n l
  unfolding of_frames
  no_frames z f = rw (eq-eqb (n % 80) 0 z, begins, f)

  pub opening_fits : r ≡ true → b ≤ length l
  opening_fits f = omega (arith, many, starts_fits (opening n) l (begins ∙ f))

  pub frames : n % 80 ≡ 0 → r ≡ true → {v : Bool} → v ≡ closes (take (length l - b) (drop b l)) → v ≡ of_frames n l
  unfolding of_frames
  frames z f g = rw (eq-eqb (n % 80) 0 z, begins, f, ← many) (g ∙ rw (behind l b))

-- ---- a line

module _ (n : ℕ) (l : List ℕ) {w m : ℕ} where
  pub line_total : {t : Bool} → t ≡ is_total n l → starts (ascii "(total ") l ≡ true → w ≡ cond t 1 3 → m ≡ 0 → answer w m silence ≡ line n l
  unfolding line
  line_total e f g h = rw (f, ← e, g, h)

  pub line_refused : starts (ascii "(total ") l ≡ false → starts (ascii "(refused ") l ≡ true → w ≡ 4 → m ≡ 0 → answer w m silence ≡ line n l
  unfolding line
  line_refused f e g h = rw (f, e, g, h)

  module _ (f : starts (ascii "(total ") l ≡ false) (e : starts (ascii "(refused ") l ≡ false) {k : ℕ} {out : List ℤ} (a : PcmLine.answer k out ≡ PcmLine.read l silence) where
    pub read_line : w ≡ cond (eqb k 0) 2 0 → m ≡ k → (answer w m out ≡ line n l) × (m ≤ 80)
    unfolding line PcmLine.read
    read_line g h =
        let x : k ≡ length (PcmLine.samples l) = cc in
        let y : out ≡ PcmLine.samples l ++ drop (length (PcmLine.samples l)) silence = cc in
        (rw (f, e, ← x, g, h) (ap (λ (s : List ℤ). answer (cond (eqb k 0) 2 0) k s) (y ∙ rw x)), omega (arith, samples_few l))

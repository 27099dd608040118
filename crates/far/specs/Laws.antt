-- Laws of the far end's samples. Assumes nothing.
use Rattle.std.specs.Prelude.{◌≡◌, refl, Bool, true, false, cond, not, List, ℕ, ◌≤◌, ◌<◌, eqb, ltb, ℤ, length, take, Option, None, Some, IfSome, is_some}
use Rattle.std.proofs.Common.{sym, ap, ◌∙◌, append-nil, arith, length-take, drop_of_length-le, ltb-true, ltb-false, lt-ltb, le-ltb}
use Rattle.std.proofs.Math.Logic.{⊎_elim}
use mathlib.Core.Logic.{◌⊎◌}
use Rattle.laws.specs.Bytes.{same, unlike}
use Rattle.print.specs.Print.{pcm, over}
use Rattle.print.specs.Laws.{length_pcm}
use Rattle.std.proofs.lemmas.Bool.{eqb-false}
use Rattle.words.specs.Words.{words, from_bytes}
use Rattle.words.specs.Laws.{from_whole}
use Rattle.far.specs.declared.Found.{Found}
use Rattle.far.specs.declared.Form.{Form}
use Rattle.far.specs.declared.Form.TheVariants.{Words, Printed, Wav}
use Rattle.far.specs.Far.{printed, is_printed, taken, samples, frame}

-- a printed frame written over as many bytes is all of them
pub over_whole : (l : List ℤ) (lent out : List ℕ) → length lent ≡ 327 → out ≡ over (pcm l) lent → out ≡ pcm l
unfolding over
over_whole l lent out h e = e ∙ rw (drop_of_length-le lent {i = length (pcm l)} (omega (arith, length_pcm l)), append-nil)

-- ---- frames

-- no printed frame: there are too few bytes, or they aren't what is printed of their samples
printed_none : (l : List ℕ) → length l < 327 → taken Printed l ≡ 0
unfolding taken is_printed
printed_none l h = rw (unlike (take 327 l) (pcm (printed (take 327 l))) (λ e. omega (arith, length-take 327 l, length_pcm (printed (take 327 l)))))

pub printed_short : (l : List ℕ) → length l < 327 → None ≡ frame Printed l
unfolding frame
printed_short l h = rw (printed_none l h)

pub printed_other : (l : List ℕ) {t : List ℕ} {s : List ℤ} {r : Bool} → t ≡ take 327 l → s ≡ printed t → r ≡ same t (pcm s) → r ≡ false → None ≡ frame Printed l
unfolding frame taken is_printed
printed_other l {t} {s} e f g h = rw (← e, ← f, ← g, h)

-- one
pub printed_frame : (l : List ℕ) {t : List ℕ} {s : List ℤ} {r : Bool} → t ≡ take 327 l → s ≡ printed t → r ≡ same t (pcm s) → r ≡ true → Some (record { bytes = 327; samples = s }) ≡ frame Printed l
unfolding frame taken is_printed samples
printed_frame l {t} {s} e f g h = sym (rw (← e, ← f, ← g, h))

pub words_short : (l : List ℕ) → length l < 160 → None ≡ frame Words l
unfolding frame taken
words_short l h = rw (lt-ltb (length l) 160 h)

pub words_frame : (l : List ℕ) (out z : List ℤ) → 160 ≤ length l → length out ≡ 80 → z ≡ from_bytes (take 160 l) out → Some (record { bytes = 160; samples = z }) ≡ frame Words l
unfolding frame taken samples
words_frame l out z h k e =
    let w : z ≡ words (take 160 l) = e ∙ from_whole (take 160 l) out (omega (arith, length-take 160 l)) in
    rw (le-ltb (length l) 160 h, w)

-- a WAV file has words
wav_words : (l : List ℕ) → frame Words l ≡ frame Wav l
unfolding frame taken samples
wav_words l = refl

pub other_form : (f : Form) (l : List ℕ) → (f ≡ Words) ⊎ (f ≡ Wav) → frame Words l ≡ frame f l
other_form f l = ⊎_elim (λ e. rw e) (λ e. rw e (wav_words l))

-- a frame is among the bytes
pub taken_le : (f : Form) (l : List ℕ) → taken f l ≤ length l
unfolding taken
taken_le Words l = by (ltb (length l) 160) refl
  where
    by : (s : Bool) → ltb (length l) 160 ≡ s → cond s 0 160 ≤ length l
    by true g = omega arith
    by false g = ltb-false _ _ g
taken_le Wav l = by (ltb (length l) 160) refl
  where
    by : (s : Bool) → ltb (length l) 160 ≡ s → cond s 0 160 ≤ length l
    by true g = omega arith
    by false g = ltb-false _ _ g
taken_le Printed l = by (ltb (length l) 327) refl (is_printed l) refl
  where
    by : (q : Bool) → ltb (length l) 327 ≡ q → (r : Bool) → is_printed l ≡ r → cond r 327 0 ≤ length l
    by true e true g = let z : ◌≡◌ {A = ℕ} 327 0 = cc (printed_none l (ltb-true _ _ e)) in absurd (omega arith)
    by q e false g = omega arith
    by false e true g = ltb-false _ _ e

-- a frame that was found, or not
pub frame_some : (f : Form) (l : List ℕ) (h : Found) → Some h ≡ frame f l → (h.bytes ≡ taken f l) × ((taken f l ≡ 0 → ⊥) × (h.samples ≡ samples f l))
unfolding frame
frame_some f l h e = by (eqb (taken f l) 0) refl e
  where
    by : (t : Bool) → eqb (taken f l) 0 ≡ t → Some h ≡ cond t None (Some (record { bytes = taken f l; samples = samples f l })) → (h.bytes ≡ taken f l) × ((taken f l ≡ 0 → ⊥) × (h.samples ≡ samples f l))
    by true g k = cc
    by false g k =
        let q : h ≡ record { bytes = taken f l; samples = samples f l } = cc in
        (ap (λ (x : Found). x.bytes) q, (eqb-false _ _ g, ap (λ (x : Found). x.samples) q))

pub frame_within : (f : Form) (l : List ℕ) (r : Option Found) → r ≡ frame f l → IfSome r (λ h. h.bytes ≤ length l)
frame_within f l None e = tt
frame_within f l (Some h) e = rw (frame_some f l h e).0 (taken_le f l)

pub taken_some : (f : Form) (l : List ℕ) (r : Option Found) → r ≡ frame f l → eqb (taken f l) 0 ≡ not (is_some r)
unfolding frame
taken_some f l r e = rw e (by (eqb (taken f l) 0) (record { bytes = taken f l; samples = samples f l }))
  where
    by : (t : Bool) (h : Found) → t ≡ not (is_some (cond t None (Some h)))
    by true h = refl
    by false h = refl

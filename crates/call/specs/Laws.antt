-- What the proofs of `call` use of its definitions: lines taken out of a part of the text, the last form, bytes moved to the front, and the tables. Assumes nothing.
use Rattle.std.specs.Prelude.{◌≡◌, Bool, ◌&&◌, eqb, leb, ltb, ℤ, get_or, set}
use Rattle.std.proofs.Math.Path.{refl, ap, sym}
use Rattle.std.proofs.Common.{◌∙◌, add_comm, drop_of_length-le, length-append, length-take, length-drop, take-append-drop, take_all, drop-drop, get_or-drop, get_or-take}
use Rattle.std.proofs.Math.Bool.{true, false, cond}
use mathlib.Core.List.{List, [], ◌∷◌, ◌++◌, append_assoc, append-nil}
use Prim.Native.Nat.{ℕ, zero, suc, ◌+◌, ◌-◌, ◌≤◌, ◌<◌, min}
use native.Mathlib.Omega.{arith}
use Rattle.std.proofs.Math.Nat.{sub-zero, sub_self, zero-add}
use Rattle.std.proofs.Math.ListN.{length, take, drop}
use Rattle.std.proofs.Math.Seq.{take-length, append_snoc, take-append_seam, drop-append-add, take_at, drop_at, paste, slice}
use Rattle.std.proofs.lemmas.List.{drop-take}
use Rattle.std.proofs.lemmas.List.Edits.{drop-paste}
use borrow.Author.Tests.{lt-ltb, le-ltb, eq-eqb, ne_eqb, eqb-true, leb-true, ltb-true}
use Rattle.octets.specs.Octets as Octets
use Rattle.print.specs.Print.{total, refused, over, frame_room, form_room}
use Rattle.line.specs.Line.{longest}
use Rattle.laws.specs.Bytes.{paste_more}
use Rattle.state.specs.State as State
use Rattle.words.specs.Words as Words
use Rattle.words.specs.Laws as WordsLaws
use Rattle.line_step.specs.declared.Progress.{Progress}
use Rattle.line_step.specs.Step.{Job, Step, kept, with_code, line_step}
use Rattle.line_step.specs.Step as Step
use Rattle.line_step.specs.Laws.{sized, step_lines}
use Rattle.call.specs.Call.{line_number, last_form}
use Rattle.call.specs.Chunk.{Part, none, behind, goes_on, part, answer, given, lines, to_feed, overlong, tested, turn, begun, with_state, begin}

-- ---- lines taken from a part of the text

-- what it means that a further line is taken
pub going : (p : Progress) (most room : ℕ) → goes_on p most room ≡ true → (p.code ≡ 0) × ((0 < most) × (frame_room ≤ room))
unfolding goes_on
going p most room = by (eqb p.code 0) (ltb 0 most) (leb frame_room room) refl refl refl
  where
    by : (a b c : Bool) → eqb p.code 0 ≡ a → ltb 0 most ≡ b → leb frame_room room ≡ c → (a && (b && c)) ≡ true → (p.code ≡ 0) × ((0 < most) × (frame_room ≤ room))
    by true true true e f g h = (eqb-true p.code 0 e, (ltb-true 0 most f, leb-true frame_room room g))
    by true true false e f g h = let z : ◌≡◌ {A = ℕ} 0 1 = cc in absurd (omega arith)
    by true false c e f g h = let z : ◌≡◌ {A = ℕ} 0 1 = cc in absurd (omega arith)
    by false b c e f g h = let z : ◌≡◌ {A = ℕ} 0 1 = cc in absurd (omega arith)

-- what follows a line
unfoldable pub follow : List ℤ → ℕ → ℕ → List ℕ → Step → Part
follow t most room text s = behind s.text (part t s.job (most - 1) (room - length s.text) [] text)

module _ (t : List ℤ) (job : Job) (most room : ℕ) where
  pub part_stop : (held l : List ℕ) → goes_on job.progress most room ≡ false → part t job most room held l ≡ none job (held ++ l)
  unfolding part
  part_stop held [] e = rw append-nil
  part_stop held (b ∷ l) e = rw e

  pub part_line : (held l : List ℕ) → goes_on job.progress most room ≡ true → to_feed l < length l
      → part t job most room held l ≡ follow t most room (drop (suc (to_feed l)) l) (line_step t job (held ++ take (to_feed l) l))
  unfolding part to_feed follow
  part_line held [] e h = absurd (omega arith)
  part_line held (b ∷ l) e h = rw e (by (eqb b 10) h (part_line (held ++ (b ∷ [])) l e))
    where
      by : (p : Bool) → cond p 0 (suc (to_feed l)) < suc (length l)
          → (to_feed l < length l → part t job most room (held ++ (b ∷ [])) l ≡ follow t most room (drop (suc (to_feed l)) l) (line_step t job ((held ++ (b ∷ [])) ++ take (to_feed l) l)))
          → cond p (follow t most room l (line_step t job held)) (part t job most room (held ++ (b ∷ [])) l)
          ≡ follow t most room (drop (cond p 0 (suc (to_feed l))) l) (line_step t job (held ++ take (cond p 0 (suc (to_feed l))) (b ∷ l)))
      by true h f = rw append-nil
      by false h f = f (omega arith) ∙ rw (append_snoc held b (take (to_feed l) l))

  pub part_open : (held l : List ℕ) → to_feed l ≡ length l → part t job most room held l ≡ none job (held ++ l)
  unfolding part to_feed behind follow
  part_open held [] h = rw append-nil
  part_open held (b ∷ l) h = by (goes_on job.progress most room) (eqb b 10) h (part_open (held ++ (b ∷ [])) l)
    where
      by : (p q : Bool) → cond q 0 (suc (to_feed l)) ≡ suc (length l)
          → (to_feed l ≡ length l → part t job most room (held ++ (b ∷ [])) l ≡ none job ((held ++ (b ∷ [])) ++ l))
          → cond p (cond q (follow t most room l (line_step t job held)) (part t job most room (held ++ (b ∷ [])) l)) (none job (held ++ (b ∷ l))) ≡ none job (held ++ (b ∷ l))
      by p true h f = absurd (omega arith)
      by true false h f = f (omega arith) ∙ rw (append_snoc held b l)
      by false false h f = refl

-- ---- the scan for a line feed

feed_index : (l : List ℕ) → Octets.index_of 10 l ≡ to_feed l
unfolding to_feed Octets.index_of Octets.index_after
feed_index [] = refl
feed_index (b ∷ l) = rw (feed_index l) (by (eqb b 10))
  where
    by : (p : Bool) → Octets.index_after p (to_feed l) ≡ cond p 0 (suc (to_feed l))
    by true = refl
    by false = refl

pub found : (l : List ℕ) (from : ℕ) {r : ℕ} → r ≡ from + Octets.index_of 10 (Octets.slice from (length l) l) → r ≡ from + to_feed (drop from l)
unfolding Octets.slice
found l from e = e ∙ rw (← length-drop from l, take-length (drop from l), feed_index (drop from l))

-- ---- the loop over the lines of a part

pub record SoFar (t b₀ : List ℤ) (from : Progress) (most : ℕ) (input out₀ : List ℕ) (b : List ℤ) (job : Progress) (left : ℕ) (out : List ℕ) (used written : ℕ) : Type 0 where
  pub inside : used ≤ length input
  pub fits : written ≤ length out₀
  pub length_b : length b ≡ length b₀
  pub length_out : length out ≡ length out₀
  pub least : from.lines ≤ job.lines
  pub few : job.lines + left ≤ from.lines + most
  pub rest : drop written out ≡ drop written out₀
  pub parts : part t (kept b₀ from) most (length out₀) [] input ≡ behind (take written out) (part t (kept b job) left (length out₀ - written) [] (drop used input))

pub so_far_none : (t b : List ℤ) (from : Progress) (most : ℕ) (input out : List ℕ) → SoFar t b from most input out b from most out 0 0
unfolding behind
so_far_none t b from most input out =
    record {
      inside = omega arith;
      fits = omega arith;
      length_b = refl;
      length_out = refl;
      least = omega arith;
      few = omega arith;
      rest = refl;
      parts = rw (sub-zero (length out));
    }

-- no line more: what is answered
ending : (input out out₀ : List ℕ) (job : Job) (used written : ℕ) (p : Part) → used ≤ length input → written ≤ length out₀ → length out ≡ length out₀
    → drop written out ≡ drop written out₀ → p ≡ behind (take written out) (none job (drop used input)) → answer job used written out ≡ given input out₀ p
unfolding given behind none over
ending input out out₀ job used written p hu hw hl hr e =
    let a : length (take written out) ≡ written = length-take written out ∙ omega arith in
    let d : length input - length (drop used input) ≡ used = rw length-drop (omega arith) in
    let o : take written out ++ drop written out₀ ≡ out = rw (← hr) (take-append-drop written out) in
    rw (e, append-nil (take written out), a, d, o)

-- what a line printed is within the bytes lent for it
pub text_within : (s : Step) (text₀ : List ℕ) {job : Job} {m : ℕ} {text : List ℕ} → Step.answer job m text ≡ Step.given s text₀ → m ≤ length text
unfolding Step.given over
text_within s text₀ {m = m} {text = text} a =
    let e : m ≡ length s.text = cc in
    let o : text ≡ s.text ++ drop (length s.text) text₀ = cc in
    rw (o, length-append) (omega arith)

-- the first m bytes of a text, copied to place `at`
copied : (out text v : List ℕ) (at m : ℕ) → at ≤ length out → m ≤ length text → m ≤ length out - at
    → v ≡ take (length (take (m - 0) text)) (take (m - 0) text) ++ drop (length (take (m - 0) text)) (take (length out - at) (drop at out))
    → take at out ++ (v ++ drop (length out - at) (drop at out)) ≡ take at out ++ (take m text ++ drop m (drop at out))
copied out text v at m h k g e =
    let n : length (take m text) ≡ m = rw length-take (omega arith) in
    let d : length (drop at out) ≡ length out - at = rw length-drop in
    let x : take (length out - at) (drop at out) ≡ drop at out = take_all (length out - at) (drop at out) (omega arith) in
    let y : drop (length out - at) (drop at out) ≡ [] = drop_of_length-le (drop at out) {i = length out - at} (omega arith) in
    rw (e, x, y, sub-zero m, take-length (take m text), n, append-nil (take m text ++ drop m (drop at out)))

module _ (t b₀ : List ℤ) (from : Progress) (most : ℕ) (input out₀ : List ℕ) (b : List ℤ) (job : Progress) (left : ℕ) (out : List ℕ) (used written : ℕ)
    (f : SoFar t b₀ from most input out₀ b job left out used written) where
  finished : part t (kept b job) left (length out₀ - written) [] (drop used input) ≡ none (kept b job) (drop used input)
      → answer (kept b job) used written out ≡ lines t (kept b₀ from) most input out₀
  unfolding lines
  finished e = ending input out out₀ (kept b job) used written _ f.inside f.fits f.length_out f.rest (f.parts ∙ rw e)

  pub lines_done : goes_on job left (length out - written) ≡ false → answer (kept b job) used written out ≡ lines t (kept b₀ from) most input out₀
  lines_done h = finished (part_stop t (kept b job) left (length out₀ - written) [] (drop used input) (rw f.length_out at h))

  -- there is no line feed behind
  pub lines_open : {end : ℕ} → end ≡ used + to_feed (drop used input) → end ≡ length input → answer (kept b job) used written out ≡ lines t (kept b₀ from) most input out₀
  lines_open g e = finished (part_open t (kept b job) left (length out₀ - written) [] (drop used input) (rw length-drop (omega arith)))

  -- a line is taken, or refused
  module _ (h : goes_on job left (length out - written) ≡ true) (end : ℕ) (g : end ≡ used + to_feed (drop used input)) (n : end ≡ length input → ⊥) (k : end ≤ length input)
      {b' : List ℤ} {p : Progress} {m : ℕ} {text : List ℕ} (text₀ : List ℕ)
      (a : Step.answer (kept b' p) m text ≡ Step.given (line_step t (kept b job) (take (end - used) (drop used input))) text₀) where
    abbrev step : Step
    step = line_step t (kept b job) (take (end - used) (drop used input))

    after : part t (kept b₀ from) most (length out₀) [] input ≡ behind (take written out) (follow t left (length out₀ - written) (drop (end + 1) input) step)
    after =
        let w : to_feed (drop used input) < length (drop used input) = rw length-drop (omega arith) in
        let x : to_feed (drop used input) ≡ end - used = omega arith in
        let y : used + suc (end - used) ≡ end + 1 = omega arith in
        f.parts ∙ rw (part_line t (kept b job) left (length out₀ - written) [] (drop used input) (rw f.length_out at h) w, x, drop-drop, y)

    record Is : Type 0 where
      job_is : step.job ≡ kept b' p
      length_is : length step.text ≡ m
      text_is : take m text ≡ step.text

    is : Is
    unfolding Step.given over
    is =
        let e : m ≡ length step.text = cc in
        let o : text ≡ step.text ++ drop (length step.text) text₀ = cc in
        record { job_is = cc; length_is = sym e; text_is = rw (e, o) (take-append_seam step.text _) }

    room : (m ≤ frame_room) × ((0 < left) × (written + m ≤ length out))
    room =
        let q = going job left (length out - written) h in
        let r : length step.text ≤ frame_room = (sized t (kept b job) (take (end - used) (drop used input))).fits in
        let e : length step.text ≡ m = is.length_is in
        (omega arith, (q.1.0, omega arith))

    -- what it printed is copied behind what was written
    pub line_taken : {v : List ℕ} → length b' ≡ length b
        → v ≡ take (length (take (m - 0) text)) (take (m - 0) text) ++ drop (length (take (m - 0) text)) (take (length out - written) (drop written out))
        → SoFar t b₀ from most input out₀ b' p (left - 1) (take written out ++ (v ++ drop (length out - written) (drop written out))) (end + 1) (written + m)
    unfolding follow behind
    line_taken {v = w} lb e =
        let q = step_lines t (kept b job) (take (end - used) (drop used input)) in
        let z : step.job.progress.lines ≡ p.lines = ap (λ (j : Job). j.progress.lines) is.job_is in
        let r = room in
        let v : List ℕ = take m text in
        let lv : length v ≡ m = ap length is.text_is ∙ is.length_is in
        let lw : length (take written out ++ v) ≡ written + m = rw (length-append, lv, length-take) (omega arith) in
        let d : length out₀ - written - m ≡ length out₀ - (written + m) = omega arith in
        let lt : m ≤ length text = text_within step text₀ a in
        let s : take written out ++ (w ++ drop (length out - written) (drop written out)) ≡ (take written out ++ v) ++ drop (written + m) out =
        copied out text w written m (omega arith) lt (omega arith) e ∙ rw (drop-drop m written out, append_assoc) in
        record {
          inside = omega arith;
          fits = omega (arith, f.length_out);
          length_b = lb ∙ f.length_b;
          length_out = rw s (rw (length-append, lw, length-drop) (omega (arith, f.length_out)));
          least = omega (arith, f.least);
          few = omega (arith, f.few);
          rest = rw (s, drop_at (take written out ++ v) (drop (written + m) out) (written + m) lw) (sym (drop-drop m written out) ∙ rw f.rest (drop-drop m written out₀));
          parts = after ∙ rw (s, take_at (take written out ++ v) (drop (written + m) out) (written + m) lw, ← is.text_is, is.job_is, lv, d, append_assoc);
        }

-- the bytes behind a part's lines are the end of the part
suffix_more : (a l u : List ℕ) → length u ≤ length l → drop (length l - length u) l ≡ u → drop (length (a ++ l) - length u) (a ++ l) ≡ u
suffix_more a l u h e =
    let n : length (a ++ l) - length u ≡ length a + (length l - length u) = rw length-append (omega arith) in
    rw (n, drop-append-add a l (length l - length u)) e

abbrev Suffix : List ℕ → List ℕ → Type 0
Suffix u l = (length u ≤ length l) × (drop (length l - length u) l ≡ u)

suffix_self : (l : List ℕ) → Suffix l l
suffix_self l = (omega arith, rw (sub_self (length l)))

suffix_behind : (a l u : List ℕ) → Suffix u l → Suffix u (a ++ l)
suffix_behind a l u h = (rw length-append (omega arith), suffix_more a l u h.0 h.1)

part_suffix : (t : List ℤ) (job : Job) (most room : ℕ) (held l : List ℕ) → Suffix (part t job most room held l).unused (held ++ l)
unfolding part none behind
part_suffix t job most room held [] = rw append-nil (suffix_self held)
part_suffix t job most room held (b ∷ l) =
    by (goes_on job.progress most room) (eqb b 10) refl refl (part_suffix t s.job (most - 1) (room - length s.text) [] l) (part_suffix t job most room (held ++ (b ∷ [])) l)
  where
    s : Step
    s = line_step t job held

    by : (p q : Bool) → goes_on job.progress most room ≡ p → eqb b 10 ≡ q → Suffix (part t s.job (most - 1) (room - length s.text) [] l).unused l
        → Suffix (part t job most room (held ++ (b ∷ [])) l).unused ((held ++ (b ∷ [])) ++ l) → Suffix (part t job most room held (b ∷ l)).unused (held ++ (b ∷ l))
    by true true e g f k = rw (e, g, ← append_snoc held b l) (suffix_behind (held ++ (b ∷ [])) l _ f)
    by true false e g f k = rw (e, g, ← append_snoc held b l) k
    by false q e g f k = rw e (suffix_self (held ++ (b ∷ l)))

-- ---- what `lines` and `turn` promise of their answer and the lent output, in terms of the part

given_is : (input out : List ℕ) (p : Part) {next : Job} {used written : ℕ} {left : List ℕ} → Suffix p.unused input → answer next used written left ≡ given input out p
    → (next ≡ p.job) × ((drop used input ≡ p.unused) × (take written left ≡ p.text))
unfolding given over
given_is input out p {next} {used} {written} {left} s e =
    let hn : next ≡ p.job = cc in
    let hu : used ≡ length input - length p.unused = cc in
    let hw : written ≡ length p.text = cc in
    let hl : left ≡ p.text ++ drop (length p.text) out = cc in
    (hn, (rw hu s.1, rw (hw, hl) (take-append_seam p.text (drop (length p.text) out))))

module _ (t : List ℤ) (job : Job) (most : ℕ) (input out : List ℕ) where
  abbrev P : Part
  P = part t job most (length out) [] input

  pub lines_are : {next : Job} {used written : ℕ} {left : List ℕ} → answer next used written left ≡ lines t job most input out → (next ≡ P.job) × ((drop used input ≡ P.unused) × (take written left ≡ P.text))
  unfolding lines
  lines_are e = given_is input out P (part_suffix t job most (length out) [] input) e

  pub turn_are : {next : Job} {used written : ℕ} {left : List ℕ} → answer next used written left ≡ turn t job most input out → (next ≡ (tested P).job) × ((drop used input ≡ P.unused) × (take written left ≡ P.text))
  unfolding turn tested
  turn_are e = given_is input out (tested P) (part_suffix t job most (length out) [] input) e

-- the rest behind the lines, tested
pub turn_is : (t : List ℤ) (job : Job) (most : ℕ) (held out : List ℕ) {b : List ℤ} {p q : Progress} {used written : ℕ} {left : List ℕ} → used ≤ length held
    → answer (kept b p) used written left ≡ lines t job most held out → q ≡ overlong (take (length held - used) (drop used held)) p → answer (kept b q) used written left ≡ turn t job most held out
unfolding lines turn tested given
turn_is t job most held out {b} {p} {q} {used} {written} {left} h e g =
    let P : Part = part t job most (length out) [] held in
    let f = lines_are t job most held out e in
    let n : length (drop used held) ≤ length held - used = rw length-drop (omega arith) in
    let u : take (length held - used) (drop used held) ≡ P.unused = take_all (length held - used) (drop used held) n ∙ f.1.0 in
    let i : p ≡ P.job.progress = ap (λ (j : Job). j.progress) f.0 in
    let k : b ≡ P.job.block = ap (λ (j : Job). j.block) f.0 in
    let hu : used ≡ length held - length P.unused = cc in
    let hw : written ≡ length P.text = cc in
    let hl : left ≡ over P.text out = cc in
    rw (g, u, i, k, hu, hw, hl)

-- ---- the other functions, by the tests of their code

module _ (l : List ℕ) (p : Progress) where
  pub overlong_ended : (p.code ≡ 0 → ⊥) → p ≡ overlong l p
  unfolding overlong
  overlong_ended h = rw (ne_eqb p.code 0 h)

  module _ {n : ℕ} (h : p.code ≡ 0) (e : n ≡ 0 + to_feed l) where
    pub overlong_yes : {q : Progress} → longest < n → q ≡ with_code p 9 → q ≡ overlong l p
    unfolding overlong
    overlong_yes k g = g ∙ rw (eq-eqb p.code 0 h, lt-ltb longest (to_feed l) (omega arith))

    pub overlong_no : n ≤ longest → p ≡ overlong l p
    unfolding overlong
    overlong_no k = rw (eq-eqb p.code 0 h, le-ltb longest (to_feed l) (omega arith))

-- what a last form is when written over lent bytes
abbrev pub Form : ℕ → List ℕ → List ℕ → List ℕ → Type 0
Form r out out₀ s = (r ≤ form_room) × ((r ≡ length s) × (out ≡ over s out₀))

module _ (p : Progress) (held : List ℕ) {r : ℕ} {out : List ℕ} (out₀ : List ℕ) where
  pub form_refused : {n : ℕ} → (p.code ≡ 0 → ⊥) → n ≡ line_number p → Form r out out₀ (refused p.code n) → Form r out out₀ (last_form p held)
  unfolding last_form
  form_refused h e f = rw (ne_eqb p.code 0 h, ← e) f

  pub form_open : {n : ℕ} → p.code ≡ 0 → (length held ≡ 0 → ⊥) → n ≡ line_number p → Form r out out₀ (refused 9 n) → Form r out out₀ (last_form p held)
  unfolding last_form
  form_open h k e f = rw (eq-eqb p.code 0 h, ne_eqb (length held) 0 k, ← e) f

  pub form_total : p.code ≡ 0 → length held ≡ 0 → Form r out out₀ (total p.counts) → Form r out out₀ (last_form p held)
  unfolding last_form
  form_total h k f = rw (eq-eqb p.code 0 h, eq-eqb (length held) 0 k) f

-- ---- bytes moved to the front

as_long : (n : ℕ) (l : List ℕ) → take (length (take n l)) l ≡ take n l
as_long zero l = refl
as_long (suc n) [] = refl
as_long (suc n) (x ∷ l) = rw (as_long n l)

module _ (l : List ℕ) (from to : ℕ) where
  pub slice_none : min to (length l) ≤ from → slice from to l ≡ []
  slice_none h = drop_of_length-le (take to l) {i = from} (rw length-take h)

  pub slice_length : {end : ℕ} → end ≡ min to (length l) → end - from ≡ length (slice from to l)
  slice_length e = rw (length-drop from (take to l), length-take to l, e)

  pub slice_none_over : min to (length l) ≤ from → (0 ≤ length l) × ((0 ≡ length (slice from to l)) × (l ≡ over (slice from to l) l))
  unfolding over
  slice_none_over h = rw (slice_none h) (omega arith, (refl, refl))

  pub slice_moved : (now : List ℕ) {end : ℕ} → end ≡ min to (length l) → from ≤ end → now ≡ paste l 0 (drop from l) (end - from) → now ≡ over (slice from to l) l
  unfolding over
  slice_moved now {end} e h g =
      let k : from + (end - from) ≡ end = omega arith in
      let t : take to l ≡ take end l = sym (as_long to l) ∙ ap (λ (n : ℕ). take n l) (length-take to l ∙ sym e) in
      let d : drop from (take to l) ≡ take (end - from) (drop from l) = ap (λ (x : List ℕ). drop from x) t ∙ (rw k at (drop-take from (end - from) l)) in
      g ∙ rw (zero-add (end - from), ← d, ← slice_length e)

-- ---- the tables

module _ (file : List ℕ) (t b : List ℤ) where
  pub begin_short : (length file ≡ 3760 → ⊥) → begun 1 t b ≡ begin file t b
  unfolding begin
  begin_short h = rw (ne_eqb (length file) 3760 h)

  pub begin_room : length file ≡ 3760 → (length t ≡ 1880 → ⊥) → begun 1 t b ≡ begin file t b
  unfolding begin
  begin_room e h = rw (eq-eqb (length file) 3760 e, ne_eqb (length t) 1880 h)

  -- the words of the file, in any block of 1,880 words
  tables_are : (l : List ℤ) {t' : List ℤ} → length file ≡ 3760 → length l ≡ 1880 → t' ≡ Words.from_bytes file l → t' ≡ Words.words file
  tables_are l e g h = h ∙ WordsLaws.from_whole file l (omega arith)

  module _ (e : length file ≡ 3760) (g : length t ≡ 1880) (l : List ℤ) {t' b' : List ℤ} {code : ℕ} (n : length l ≡ 1880) (h : t' ≡ Words.from_bytes file l)
      (q : State.answer code b' ≡ State.fresh_state t' b) where
    begin_is_fresh : with_state t (Words.words file) (State.answer code b') ≡ begin file t b
    unfolding begin
    begin_is_fresh = rw (eq-eqb (length file) 3760 e, eq-eqb (length t) 1880 g, ← tables_are l e n h, ← q)

    pub begin_refused : (code ≡ 0 → ⊥) → begun code t b' ≡ begin file t b
    unfolding with_state
    begin_refused z = sym (rw (ne_eqb code 0 z)) ∙ begin_is_fresh

    pub begin_done : {t'' : List ℤ} → code ≡ 0 → t'' ≡ Words.from_bytes file t → begun code t'' b' ≡ begin file t b
    unfolding with_state
    begin_done z k = rw (tables_are t e g k) (rw (eq-eqb code 0 z) at begin_is_fresh)

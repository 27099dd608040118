-- A call that is read through `read_step` (01, "The call text and the program"): what its reads write, and the last form, are `output` of the table file and the text. Assumes nothing.
use Rattle.std.specs.Prelude.{◌≡◌, refl, Bool, true, false, cond, ◌&&◌, ℕ, ◌+◌, ◌-◌, ◌*◌, ◌≤◌, eqb, ltb, ℤ, length, take, drop}
use Rattle.std.proofs.Math.Path.{ap}
use Rattle.std.proofs.Common.{sym, ◌∙◌, arith, length-append, length-take-le, eq-eqb, ne_eqb, lt-ltb, le-leb, eqb-true, ltb-false}
use mathlib.Core.List.{List, [], ◌∷◌, ◌++◌, append_assoc, append-nil}
use Rattle.std.proofs.Math.Seq.{take-add}
use Rattle.std.proofs.lemmas.Bool.{eqb-false}
use Rattle.line.specs.Line.{shortest, longest}
use Rattle.print.specs.Print.{frame_room}
use Rattle.line_step.specs.declared.Progress.{Progress}
use Rattle.line_step.specs.Step.{Job, Step, kept, with_code, line_step}
use Rattle.line_step.specs.Laws.{sized}
use Rattle.call.specs.Call.{printed, start, output}
use Rattle.call.specs.Chunk.{Part, none, behind, goes_on, part, to_feed, overlong, tested, begun, begin}
use Rattle.call.specs.Laws.{part_stop}
use Rattle.read_step.specs.Reading.{full, input_room, output_room, answer, read_step}
use Rattle.read_step.specs.Laws.{step_are}
use Rattle.whole_call.specs.Whole.{Act, read, take_lines, test_overlong, Held, act, acts, text_of, last_of, feedless_more, no_feed, SoFar, all_acts, whole_of, Program, program_of}
use Rattle.whole_call.specs.Reads.{Reads, no_read, one_more, line_bytes, PartOfLine, Behind}

-- for the lines of n bytes, and one that is refused: so many may be taken, with this room for what they print
abbrev Enough : ℕ → ℕ → ℕ → Type 0
Enough n most room = (n + (shortest + 1) ≤ (shortest + 1) * most) × (frame_room * (n + (shortest + 1)) ≤ (shortest + 1) * room)

goes : (p : Progress) (n most room : ℕ) → p.code ≡ 0 → Enough n most room → goes_on p most room ≡ true
unfolding goes_on
goes p n most room z e = rw (eq-eqb p.code 0 z, lt-ltb 0 most (omega arith), le-leb frame_room room (omega arith))

stands : (p : Progress) (most room : ℕ) → (p.code ≡ 0 → ⊥) → goes_on p most room ≡ false
unfolding goes_on
stands p most room z = rw (ne_eqb p.code 0 z)

-- a call that has ended stays so
ended : (t : List ℤ) (job : Job) (most room : ℕ) (l : List ℕ) → (part t job most room [] l).job.progress.code ≡ 0 → job.progress.code ≡ 0
unfolding none
ended t job most room l c = by (eqb job.progress.code 0) refl
  where
    by : (p : Bool) → eqb job.progress.code 0 ≡ p → job.progress.code ≡ 0
    by true e = eqb-true job.progress.code 0 e
    by false e = rw (part_stop t job most room [] l (stands job.progress most room (eqb-false job.progress.code 0 e))) at c

-- where no line is refused, no line feed is left
all_taken : (t : List ℤ) (job : Job) (most room : ℕ) (held l : List ℕ) → job.progress.code ≡ 0 → to_feed held ≡ length held → Enough (length held + length l) most room
    → (part t job most room held l).job.progress.code ≡ 0 → to_feed (part t job most room held l).unused ≡ length (part t job most room held l).unused
unfolding part none behind
all_taken t job most room held [] z h e = λ c. h
all_taken t job most room held (b ∷ l) z h e =
    rw (goes job.progress (length held + length (b ∷ l)) most room z e)
    (by (eqb b 10) refl (λ x. all_taken t s.job (most - 1) (room - length s.text) [] l x no_feed) (λ g. all_taken t job most room (held ++ (b ∷ [])) l z (feedless_more held b h g)))
  where
    s : Step
    s = line_step t job held

    A : Part
    A = part t s.job (most - 1) (room - length s.text) [] l

    B : Part
    B = part t job most room (held ++ (b ∷ [])) l

    Left : Part → Type 0
    Left p = p.job.progress.code ≡ 0 → to_feed p.unused ≡ length p.unused

    by : (q : Bool) → eqb b 10 ≡ q → (s.job.progress.code ≡ 0 → Enough (0 + length l) (most - 1) (room - length s.text) → Left A)
        → (eqb b 10 ≡ false → Enough (length (held ++ (b ∷ [])) + length l) most room → Left B) → Left (cond q (behind s.text A) B)
    by true g f k c =
        let x = ended t s.job (most - 1) (room - length s.text) l c in
        let m = line_bytes t job held x in
        let w : length s.text ≤ frame_room = (sized t job held).fits in
        f x (omega arith, omega arith) c
    by false g f k c = k g (rw length-append (omega arith), rw length-append (omega arith)) c

not_overlong : (l : List ℕ) (p : Progress) → (overlong l p).code ≡ 0 → (p.code ≡ 0) × (to_feed l ≤ longest)
unfolding overlong
not_overlong l p = by (eqb p.code 0) (ltb longest (to_feed l)) refl refl
  where
    by : (a b : Bool) → eqb p.code 0 ≡ a → ltb longest (to_feed l) ≡ b → (cond (a && b) (with_code p 9) p).code ≡ 0 → (p.code ≡ 0) × (to_feed l ≤ longest)
    by true true e g c = absurd (omega arith)
    by true false e g c = (c, ltb-false longest (to_feed l) g)
    by false b e g c = absurd (eqb-false p.code 0 e c)

rest_open : (t : List ℤ) (job : Job) (room : ℕ) (l : List ℕ) → length l ≤ input_room → room ≡ output_room → (tested (part t job (full + 1) room [] l)).job.progress.code ≡ 0
    → PartOfLine (part t job (full + 1) room [] l).unused
unfolding tested
rest_open t job room l n e c =
    let q = not_overlong _ _ c in
    let f = all_taken t job (full + 1) room [] l (ended t job (full + 1) room l q.0) no_feed (omega arith, omega arith) q.0 in
    (f, omega (arith, q.1, f))

module _ (t : List ℤ) (job : Job) (held got : ℕ) (input input₁ out written : List ℕ) (same : take held input₁ ≡ take held input) {job' : Job} {held' n : ℕ} {input' out' : List ℕ}
    (e : answer job' held' n input' out' ≡ read_step t job (held + got) input₁ out) where
  abbrev before : Held
  before = record { job = job; bytes = take held input; written = written }

  abbrev after : Held
  after = record { job = job'; bytes = take held' input'; written = written ++ take n out' }

  abbrev acting : List Act
  acting = read (take got (drop held input₁)) ∷ take_lines (full + 1) (length out) ∷ test_overlong ∷ []

  read_acts : acts t acting before ≡ after
  unfolding acts act tested
  read_acts =
      let f = step_are t job (held + got) input₁ out e in
      rw (← same, ← take-add held got input₁, f.0, f.1.1.0, f.1.1.1)

  so_far_more : (rest : List ℕ) → written ++ printed t job [] (take held input ++ (take got (drop held input₁) ++ rest)) ≡ after.written ++ printed t job' [] (after.bytes ++ rest)
  unfolding text_of
  so_far_more rest =
      ap (λ (l : List ℕ). written ++ printed t job [] (take held input ++ (l ++ rest))) (sym (append-nil (take got (drop held input₁))))
      ∙ all_acts t acting before rest
      ∙ ap (λ (h : Held). h.written ++ printed t h.job [] (h.bytes ++ rest)) read_acts

-- how a program stands behind its reads
record Stands (t : List ℤ) (first : Job) (text written : List ℕ) (job : Job) (held : ℕ) (input : List ℕ) : Type 0 where
  so_far : SoFar t first text (record { job = job; bytes = take held input; written = written })
  number : length (take held input) ≡ held
  one_line : job.progress.code ≡ 0 → PartOfLine (take held input)

stands_so : {t : List ℤ} {first : Job} {text written : List ℕ} {job : Job} {held : ℕ} {input : List ℕ} → Reads t first text written job held input → Stands t first text written job held input
stands_so (no_read input) = record { so_far = λ rest. refl; number = refl; one_line = λ c. (no_feed, omega arith) }
stands_so {t} {first} (one_more {text} {written} {job} {held} {input} r got input₁ out h i o same e) =
    let f = step_are t job (held + got) input₁ out e in
    record {
      so_far = λ rest.
          sym (so_far_more t job held got input input₁ out written same e rest) ∙ (stands_so r).so_far (take got (drop held input₁) ++ rest) ∙ rw (append_assoc text (take got (drop held input₁)) rest);
      number = f.1.0;
      one_line = λ c. rw f.1.1.0 (rest_open t job (length out) (take (held + got) input₁) (rw (length-take-le (held + got) input₁ h) (omega arith)) o (rw f.0 at c));
    }

-- code, t and b are what `call::begin` answers and leaves in blocks of the right lengths
pub reads : (file : List ℕ) (t₀ b₀ : List ℤ) {code : ℕ} {t b : List ℤ} → length t₀ ≡ 1880 → length b₀ ≡ 234 → begun code t b ≡ begin file t₀ b₀ → code ≡ 0
    → {text written : List ℕ} {job : Job} {held : ℕ} {input : List ℕ} → Reads t (kept b start) text written job held input → Behind file text written job held input
reads file t₀ b₀ {code} {t} {b} ht hb e z {text} {written} {job} {held} {input} r =
    record {
      one_line = λ c. let q = s.one_line c in (q.0 ∙ s.number, (omega (arith, q.1, s.number), omega arith));
      at_end = by (eqb job.progress.code 0) refl;
      at_refusal = p.at_refusal z;
    }
  where
    s : Stands t (kept b start) text written job held input
    s = stands_so r

    h : Held
    h = record { job = job; bytes = take held input; written = written }

    p : Program file code text h
    p = program_of file t₀ b₀ ht hb e text h (whole_of t (kept b start) text h s.so_far)

    by : (q : Bool) → eqb job.progress.code 0 ≡ q → written ++ last_of job (take held input) ≡ output file text
    by true q = p.at_end z (s.one_line (eqb-true job.progress.code 0 q)).0
    by false q = p.at_refusal z (eqb-false job.progress.code 0 q) [] ∙ rw (append-nil text)

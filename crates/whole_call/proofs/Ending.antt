-- Every call has the last form that specs/Ending.antt describes. Assumes nothing.
use Rattle.std.specs.Prelude.{◌≡◌, refl, Bool, true, false, cond, List, [], ◌∷◌, ◌++◌, ℕ, ◌+◌, ◌≤◌, eqb, ℤ, length}
use Rattle.std.proofs.Common.{ap, sym, ◌∙◌, append_assoc, append-nil, arith, add-zero, length-append, eq-eqb, ne_eqb, eqb-true}
use Rattle.std.proofs.Math.Seq.{append_snoc}
use Rattle.std.proofs.lemmas.Bool.{eqb-false}
use Rattle.print.specs.Print.{refused}
use Rattle.tables.specs.Layout.{table_check}
use Rattle.tables.specs.Laws.{check_few}
use Rattle.state.specs.State.{state_check}
use Rattle.words.specs.Words.{words}
use Rattle.line_step.specs.declared.Progress.{Progress}
use Rattle.line_step.specs.Step.{Job, Step, with_code, line_step}
use Rattle.call.specs.Call.{start, last_form, printed, fresh_job, file_check, output}
use Rattle.call.specs.Chunk.{to_feed}
use Rattle.whole_call.specs.Counting.{counting, next_line, LinesAreFrames, lines_start, lines_more}
use Rattle.whole_call.specs.Codes.{refuses, line_accepted}
use Rattle.whole_call.proofs.Codes.{refused_with}
use Rattle.whole_call.specs.Whole.{feedless_rest, feedless_more, no_feed, printed_ended}
use Rattle.whole_call.specs.Ending.{feeds, ended, Ending, with_total, with_refusal, checked, fresh_checked, Ends}

feeds_line : (held text : List ℕ) (b : ℕ) → to_feed held ≡ length held → eqb b 10 ≡ true → feeds (held ++ (b ∷ text)) ≡ 1 + feeds text
unfolding feeds
feeds_line [] text b h e = rw e
feeds_line (x ∷ held) text b h e =
    let f = feedless_rest x held h in
    rw f.0 (omega (arith, feeds_line held text b f.1 e))

ended_line : (p : Bool) (held text : List ℕ) (b : ℕ) → ended p (held ++ (b ∷ text)) ≡ ended (eqb b 10) text
unfolding ended
ended_line p [] text b = refl
ended_line p (x ∷ held) text b = ended_line (eqb x 10) held text b

nothing_ended : ended true [] ≡ true
unfolding ended
nothing_ended = refl

line_more : (n m : ℕ) (held text v out : List ℕ) (b : ℕ) → m ≡ n + 1 → to_feed held ≡ length held → eqb b 10 ≡ true → Ending m text out → Ending n (held ++ (b ∷ text)) (v ++ out)
line_more n m held text v out b hm h e (with_total samples c w k f) =
    let z : m + feeds text ≡ n + feeds (held ++ (b ∷ text)) = omega (arith, feeds_line held text b h e) in
    with_total (v ++ samples) c (ended_line true held text b ∙ rw e w) (rw z at k) (rw f (sym (append_assoc v samples _)))
line_more n m held text v out b hm h e (with_refusal samples before rest code z g w l f) =
    let k : m + feeds before ≡ n + feeds (held ++ (b ∷ before)) = omega (arith, feeds_line held before b h e) in
    with_refusal (v ++ samples) (held ++ (b ∷ before)) rest code z (rw g (sym (append_assoc held (b ∷ before) rest))) (ended_line true held before b ∙ rw e w) l
    (rw (f, k) (sym (append_assoc v samples _)))

refused_form : (p : Progress) (held : List ℕ) → LinesAreFrames p → (p.code ≡ 0 → ⊥) → last_form p held ≡ refused p.code (p.lines + feeds [] + 1)
unfolding last_form feeds
refused_form p held l z = rw (ne_eqb p.code 0 z, next_line p.lines (omega (arith, l.few))) (ap (λ (n : ℕ). refused p.code n) (omega arith))

-- a line that is refused leaves the lines as they were
refused_as_was : (p q : Progress) → LinesAreFrames p → (q.code ≡ 0 → ⊥) → q ≡ with_code p q.code → last_form q [] ≡ refused q.code (p.lines + feeds [] + 1)
refused_as_was p q l z e =
    let n : q.lines ≡ p.lines = ap (λ (x : Progress). x.lines) e in
    let c : q.counts ≡ p.counts = ap (λ (x : Progress). x.counts) e in
    refused_form q [] (record { frames = rw (c, n) l.frames; few = rw n l.few }) z ∙ rw n

open_form : (p : Progress) (held : List ℕ) → LinesAreFrames p → p.code ≡ 0 → Ending p.lines held (last_form p held)
unfolding last_form feeds ended refuses
open_form p [] l z = with_total [] p.counts refl (rw (add-zero p.lines) l.frames) (rw (eq-eqb p.code 0 z))
open_form p (b ∷ held) l z =
    with_refusal [] [] (b ∷ held) 9 refl refl refl (omega arith)
    (rw (eq-eqb p.code 0 z, ne_eqb (length (b ∷ held)) 0 (λ e. omega arith), next_line p.lines (omega (arith, l.few))) (ap (λ (n : ℕ). refused 9 n) (omega arith)))

pub ending : (t : List ℤ) (job : Job) (held text : List ℕ) → table_check t ≡ 0 → state_check job.block ≡ 0 → job.progress.code ≡ 0 → LinesAreFrames job.progress → to_feed held ≡ length held
    → Ending job.progress.lines (held ++ text) (printed t job held text)
unfolding printed
ending t job held [] ht hb z k h = rw (append-nil held) (open_form job.progress held k z)
ending t job held (b ∷ text) ht hb z k h =
    rw (eq-eqb job.progress.code 0 z)
    (by (eqb b 10) (eqb s.job.progress.code 0) refl refl (λ g f. ending t s.job [] text ht (line_accepted t job held hb) g f no_feed) (λ g. ending t job (held ++ (b ∷ [])) text ht hb z k (feedless_more held b h g)))
  where
    s : Step
    s = line_step t job held

    n : ℕ
    n = job.progress.lines

    by : (p q : Bool) → eqb b 10 ≡ p → eqb s.job.progress.code 0 ≡ q
        → (s.job.progress.code ≡ 0 → LinesAreFrames s.job.progress → Ending s.job.progress.lines text (printed t s.job [] text))
        → (eqb b 10 ≡ false → Ending n ((held ++ (b ∷ [])) ++ text) (printed t job (held ++ (b ∷ [])) text))
        → Ending n (held ++ (b ∷ text)) (cond p (s.text ++ printed t s.job [] text) (printed t job (held ++ (b ∷ [])) text))
    by true true e g f r =
        let c : s.job.progress.code ≡ 0 = eqb-true s.job.progress.code 0 g in
        let m = lines_more job.progress s.job.progress k ((counting t job held).more c) in
        line_more n s.job.progress.lines held text s.text _ b m.0 h e (f c m.1)
    by true false e g f r =
        let c : s.job.progress.code ≡ 0 → ⊥ = eqb-false s.job.progress.code 0 g in
        with_refusal s.text [] (held ++ (b ∷ text)) s.job.progress.code (refused_with t job held ht hb c) refl nothing_ended (rw length-append (omega arith))
        (rw (printed_ended t s.job [] text c, refused_as_was job.progress s.job.progress k c ((counting t job held).as_was c)))
    by false q e g f r = rw (← append_snoc held b text) (r e)

file_check_few : (file : List ℕ) → file_check file ≤ 2
unfolding file_check
file_check_few file = by (eqb (length file) 3760)
  where
    by : (p : Bool) → cond p (table_check (words file)) 1 ≤ 2
    by true = check_few (words file)
    by false = omega arith

pub ends : (file text : List ℕ) → Ends file text
unfolding output fresh_job start
ends file text =
    record {
      with_tables = λ e. rw (eq-eqb (file_check file) 0 e) (ending (words file) (fresh_job (words file)) [] text (checked file e) (fresh_checked file e) refl lines_start no_feed);
      no_tables = λ n. (rw (ne_eqb (file_check file) 0 n), file_check_few file);
    }

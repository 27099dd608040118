-- `whole`: however a text is cut into reads, however many lines are taken at a time, and whatever room the output has, the parts written make up `printed` of the whole text.
-- `program`: with the tables they are `output` of the table file and the text. Assumes nothing.
use Rattle.std.specs.Prelude.{◌≡◌, refl, Bool, true, false, cond, ◌&&◌, List, [], ◌∷◌, ◌++◌, ℕ, suc, ◌-◌, ◌<◌, eqb, ltb, ℤ, length, take, drop, replicate}
use Rattle.std.proofs.Common.{ap, sym, ◌∙◌, append_assoc, append-nil, arith, length-append, take-append-drop}
use Rattle.std.proofs.Math.Seq.{append_snoc}
use borrow.Author.Tests.{eq-eqb, ne_eqb, eqb-true, eqb-false, ltb-true}
use Rattle.line.specs.Line.{longest}
use Rattle.line.specs.Laws.{refused_line, frame_length}
use Rattle.print.specs.Print.{refused}
use Rattle.state.specs.State as State
use Rattle.tables.specs.Layout.{table_check}
use Rattle.words.specs.Words.{words}
use Rattle.line_step.specs.Step.{Job, Step, kept, with_code, stop, line_step}
use Rattle.line_step.specs.Laws.{by_line}
use Rattle.call.specs.Call.{line_number, last_form, printed, start, fresh_job, file_check, output}
use Rattle.call.specs.Chunk.{Part, none, behind, goes_on, part, answer, lines, to_feed, overlong, tested, turn, begun, with_state, begin}
use Rattle.call.specs.Laws.{going, lines_are, turn_are}

-- ---- what is done with a call, in any order, and what is then held

-- bytes are read, behind those held; lines are taken out of these, at most so many, with some room for what they print; a line that is overlong is refused
pub data Act : Type 0 where
  read : List ℕ → Act
  take_lines : ℕ → ℕ → Act
  test_overlong : Act

-- what is kept between lines, the bytes that are not used yet, and all that was written
pub record Held : Type 0 where
  pub job : Job
  pub bytes : List ℕ
  pub written : List ℕ

unfoldable pub act : List ℤ → Act → Held → Held
act t (read l) h = record { job = h.job; bytes = h.bytes ++ l; written = h.written }
act t (take_lines most room) h =
    let p : Part = part t h.job most room [] h.bytes in
    record { job = p.job; bytes = p.unused; written = h.written ++ p.text }
act t test_overlong h = record { job = kept h.job.block (overlong h.bytes h.job.progress); bytes = h.bytes; written = h.written }

unfoldable pub acts : List ℤ → List Act → Held → Held
acts t [] h = h
acts t (a ∷ l) h = acts t l (act t a h)

-- the text that was read
unfoldable pub text_of : List Act → List ℕ
text_of [] = []
text_of (read l ∷ r) = l ++ text_of r
text_of (take_lines most room ∷ r) = text_of r
text_of (test_overlong ∷ r) = text_of r

abbrev pub last_of : Job → List ℕ → List ℕ
last_of job held = last_form job.progress held

-- ---- a call that has ended, and bytes held without a line feed

last_ended : (job : Job) (a b : List ℕ) → (job.progress.code ≡ 0 → ⊥) → last_of job a ≡ last_of job b
unfolding last_form
last_ended job a b h = rw (ne_eqb job.progress.code 0 h)

pub printed_ended : (t : List ℤ) (job : Job) (held text : List ℕ) → (job.progress.code ≡ 0 → ⊥) → printed t job held text ≡ last_of job held
unfolding printed
printed_ended t job held [] h = refl
printed_ended t job held (b ∷ text) h = rw (ne_eqb job.progress.code 0 h)

-- a line's bytes without its line feed
pub feedless_rest : (b : ℕ) (l : List ℕ) → to_feed (b ∷ l) ≡ length (b ∷ l) → (eqb b 10 ≡ false) × (to_feed l ≡ length l)
unfolding to_feed
feedless_rest b l = by (eqb b 10)
  where
    by : (p : Bool) → cond p 0 (suc (to_feed l)) ≡ suc (length l) → (p ≡ false) × (to_feed l ≡ length l)
    by true e = absurd (omega arith)
    by false e = (refl, omega arith)

pub feedless_more : (l : List ℕ) (b : ℕ) → to_feed l ≡ length l → eqb b 10 ≡ false → to_feed (l ++ (b ∷ [])) ≡ length (l ++ (b ∷ []))
unfolding to_feed
feedless_more [] b h e = rw e
feedless_more (x ∷ l) b h e =
    let f = feedless_rest x l h in
    rw (f.0, feedless_more l b f.1 e)

pub no_feed : to_feed [] ≡ length {A = ℕ} []
unfolding to_feed
no_feed = refl

-- held bytes may as well be read again
pub again : (t : List ℤ) (job : Job) (a held text : List ℕ) → to_feed held ≡ length held → printed t job (a ++ held) text ≡ printed t job a (held ++ text)
unfolding printed
again t job a [] text h = rw append-nil
again t job a (b ∷ held) text h = by (eqb job.progress.code 0) refl (again t job (a ++ (b ∷ [])) held text (feedless_rest b held h).1)
  where
    by : (p : Bool) → eqb job.progress.code 0 ≡ p → printed t job ((a ++ (b ∷ [])) ++ held) text ≡ printed t job (a ++ (b ∷ [])) (held ++ text)
        → printed t job (a ++ (b ∷ held)) text ≡ printed t job a (b ∷ (held ++ text))
    by true e f = rw (e, (feedless_rest b held h).0, ← append_snoc a b held) f
    by false e f =
        let n : job.progress.code ≡ 0 → ⊥ = eqb-false job.progress.code 0 e in
        printed_ended t job (a ++ (b ∷ held)) text n ∙ last_ended job (a ++ (b ∷ held)) a n ∙ sym (printed_ended t job a (b ∷ (held ++ text)) n)

-- ---- a part of the text

going_code : (job : Job) (most room : ℕ) → goes_on job.progress most room ≡ true → eqb job.progress.code 0 ≡ true
going_code job most room e = eq-eqb job.progress.code 0 (going job.progress most room e).0

-- what a part's lines print, and what is printed of the bytes behind them, is what is printed of the whole
abbrev Made : List ℤ → Job → ℕ → ℕ → List ℕ → List ℕ → List ℕ → Type 0
Made t job most room held l rest =
    printed t job held (l ++ rest) ≡ (part t job most room held l).text ++ printed t (part t job most room held l).job [] ((part t job most room held l).unused ++ rest)

pub part_made : (t : List ℤ) (job : Job) (most room : ℕ) (held l rest : List ℕ) → to_feed held ≡ length held → Made t job most room held l rest
unfolding part none behind printed
part_made t job most room held [] rest h = again t job [] held rest h
part_made t job most room held (b ∷ l) rest h =
    by (goes_on job.progress most room) (eqb b 10) refl refl (part_made t s.job (most - 1) (room - length s.text) [] l rest no_feed) (λ e. part_made t job most room (held ++ (b ∷ [])) l rest (feedless_more held b h e))
  where
    s : Step
    s = line_step t job held

    by : (p q : Bool) → goes_on job.progress most room ≡ p → eqb b 10 ≡ q → Made t s.job (most - 1) (room - length s.text) [] l rest
        → (eqb b 10 ≡ false → Made t job most room (held ++ (b ∷ [])) l rest) → Made t job most room held (b ∷ l) rest
    by true true e g f k = rw (e, g, going_code job most room e) (ap (λ (x : List ℕ). s.text ++ x) f ∙ sym (append_assoc s.text _ _))
    by true false e g f k = rw (e, g, going_code job most room e) (k g)
    by false q e g f k = rw (e, append_assoc held (b ∷ l) rest) (again t job [] held ((b ∷ l) ++ rest) h)

-- so reads compose: what it wrote, and what is printed of the bytes that it did not use, is what is printed of all
pub lines_made : (t : List ℤ) (job : Job) (most : ℕ) (input out : List ℕ) {next : Job} {used written : ℕ} {left : List ℕ} → answer next used written left ≡ lines t job most input out → (rest : List ℕ)
    → printed t job [] (input ++ rest) ≡ take written left ++ printed t next [] (drop used input ++ rest)
lines_made t job most input out e rest =
    let f = lines_are t job most input out e in
    part_made t job most (length out) [] input rest no_feed ∙ rw (f.0, f.1.0, f.1.1)

-- and a call of `lines` is the act `take_lines`
pub lines_act : (t : List ℤ) (h : Held) (most : ℕ) (out : List ℕ) {next : Job} {used written : ℕ} {left : List ℕ} → answer next used written left ≡ lines t h.job most h.bytes out
    → act t (take_lines most (length out)) h ≡ record { job = next; bytes = drop used h.bytes; written = h.written ++ take written left }
unfolding act
lines_act t h most out e =
    let f = lines_are t h.job most h.bytes out e in
    rw (f.0, f.1.0, f.1.1)

-- a call of `turn` is that act and `test_overlong`
pub turn_acts : (t : List ℤ) (h : Held) (most : ℕ) (out : List ℕ) {next : Job} {used written : ℕ} {left : List ℕ} → answer next used written left ≡ turn t h.job most h.bytes out
    → acts t (take_lines most (length out) ∷ test_overlong ∷ []) h ≡ record { job = next; bytes = drop used h.bytes; written = h.written ++ take written left }
unfolding acts act tested
turn_acts t h most out e =
    let f = turn_are t h.job most h.bytes out e in
    rw (f.0, f.1.0, f.1.1)

-- ---- an overlong line

long_step : (t : List ℤ) (job : Job) (l : List ℕ) → longest < length l → line_step t job l ≡ stop job 9
long_step t job l h =
    by_line (λ (s : Step). s ≡ stop job 9) t job l
    (λ n bytes e. rw (refused_line l (replicate 10 0) bytes n refl e))
    (λ kind bytes e. absurd (omega (arith, (frame_length l (replicate 10 0) bytes kind e).1)))

open_form : (job : Job) (held : List ℕ) → job.progress.code ≡ 0 → longest < length held → last_of job held ≡ refused 9 (line_number job.progress)
unfolding last_form
open_form job held e h = rw (eq-eqb job.progress.code 0 e, ne_eqb (length held) 0 (λ z. omega arith))

abbrev nine : Job → Job
nine job = kept job.block (with_code job.progress 9)

nine_form : (t : List ℤ) (job : Job) (held text : List ℕ) → printed t (nine job) held text ≡ refused 9 (line_number job.progress)
unfolding last_form
nine_form t job held text = printed_ended t (nine job) held text (λ e. omega arith)

long_held : (t : List ℤ) (job : Job) (held text : List ℕ) → job.progress.code ≡ 0 → longest < length held → printed t job held text ≡ refused 9 (line_number job.progress)
unfolding printed stop
long_held t job held [] e h = open_form job held e h
long_held t job held (b ∷ text) e h = rw (eq-eqb job.progress.code 0 e) (by (eqb b 10) (long_held t job (held ++ (b ∷ [])) text e (rw length-append (omega arith))))
  where
    n : List ℕ
    n = refused 9 (line_number job.progress)

    by : (p : Bool) → printed t job (held ++ (b ∷ [])) text ≡ n
        → cond p ((line_step t job held).text ++ printed t (line_step t job held).job [] text) (printed t job (held ++ (b ∷ [])) text) ≡ n
    by true f = rw (long_step t job held h) (nine_form t job [] text)
    by false f = f

feedless_front : (l : List ℕ) → (length (take (to_feed l) l) ≡ to_feed l) × (to_feed (take (to_feed l) l) ≡ to_feed l)
unfolding to_feed
feedless_front [] = (refl, refl)
feedless_front (b ∷ l) = by (eqb b 10) refl (feedless_front l)
  where
    by : (p : Bool) → eqb b 10 ≡ p → (length (take (to_feed l) l) ≡ to_feed l) × (to_feed (take (to_feed l) l) ≡ to_feed l)
        → (length (take (cond p 0 (suc (to_feed l))) (b ∷ l)) ≡ cond p 0 (suc (to_feed l))) × (to_feed (take (cond p 0 (suc (to_feed l))) (b ∷ l)) ≡ cond p 0 (suc (to_feed l)))
    by true e f = (refl, refl)
    by false e f = (rw f.0, rw (e, f.1))

pub overlong_made : (t : List ℤ) (job : Job) (l rest : List ℕ) → printed t job [] (l ++ rest) ≡ printed t (kept job.block (overlong l job.progress)) [] (l ++ rest)
unfolding overlong
overlong_made t job l rest = by (eqb job.progress.code 0) (ltb longest (to_feed l)) refl refl
  where
    by : (p q : Bool) → eqb job.progress.code 0 ≡ p → ltb longest (to_feed l) ≡ q
        → printed t job [] (l ++ rest) ≡ printed t (kept job.block (cond (p && q) (with_code job.progress 9) job.progress)) [] (l ++ rest)
    by true true e g =
        let f = feedless_front l in
        let a : List ℕ = take (to_feed l) l in
        let b : List ℕ = drop (to_feed l) l in
        let h : longest < length a = omega (arith, ltb-true longest (to_feed l) g) in
        let k : l ++ rest ≡ a ++ (b ++ rest) = ap (λ (x : List ℕ). x ++ rest) (sym (take-append-drop (to_feed l) l)) ∙ append_assoc a b rest in
        rw k (sym (again t job [] a (b ++ rest) (f.1 ∙ sym f.0)) ∙ long_held t job a (b ++ rest) (eqb-true job.progress.code 0 e) h ∙ sym (nine_form t job [] (a ++ (b ++ rest))))
    by true false e g = refl
    by false q e g = refl

-- ---- the theorem

one_act : (t : List ℤ) (a : Act) (h : Held) (rest : List ℕ)
    → h.written ++ printed t h.job [] (h.bytes ++ (text_of (a ∷ []) ++ rest)) ≡ (act t a h).written ++ printed t (act t a h).job [] ((act t a h).bytes ++ rest)
unfolding act text_of
one_act t (read l) h rest = rw (append-nil l, append_assoc h.bytes l rest)
one_act t (take_lines most room) h rest = rw (part_made t h.job most room [] h.bytes rest no_feed, append_assoc)
one_act t test_overlong h rest = rw (overlong_made t h.job h.bytes rest)

text_first : (a : Act) (l : List Act) → text_of (a ∷ l) ≡ text_of (a ∷ []) ++ text_of l
unfolding text_of
text_first (read r) l = rw (append-nil r)
text_first (take_lines most room) l = refl
text_first test_overlong l = refl

pub all_acts : (t : List ℤ) (l : List Act) (h : Held) (rest : List ℕ)
    → h.written ++ printed t h.job [] (h.bytes ++ (text_of l ++ rest)) ≡ (acts t l h).written ++ printed t (acts t l h).job [] ((acts t l h).bytes ++ rest)
unfolding acts text_of
all_acts t [] h rest = refl
all_acts t (a ∷ l) h rest = rw (text_first a l, append_assoc (text_of (a ∷ [])) (text_of l) rest) (one_act t a h (text_of l ++ rest) ∙ all_acts t l (act t a h) rest)

-- what was written, and what is printed of the bytes held and whatever follows, is what is printed of a text and that
abbrev pub SoFar : List ℤ → Job → List ℕ → Held → Type 0
SoFar t job text h = (rest : List ℕ) → h.written ++ printed t h.job [] (h.bytes ++ rest) ≡ printed t job [] (text ++ rest)

-- what was written and the last form are all that is printed
pub record Whole (t : List ℤ) (job : Job) (text : List ℕ) (h : Held) : Type 0 where
  -- where the text has ended, and no whole line is held
  pub at_end : to_feed h.bytes ≡ length h.bytes → h.written ++ last_of h.job h.bytes ≡ printed t job [] text
  -- where a line was refused, whatever follows
  pub at_refusal : (h.job.progress.code ≡ 0 → ⊥) → (rest : List ℕ) → h.written ++ last_of h.job h.bytes ≡ printed t job [] (text ++ rest)

pub whole_of : (t : List ℤ) (job : Job) (text : List ℕ) (h : Held) → SoFar t job text h → Whole t job text h
unfolding printed
whole_of t job text h f =
    record {
      at_end = λ q. ap (λ (x : List ℕ). h.written ++ x) (again t h.job [] h.bytes [] q) ∙ f [] ∙ rw (append-nil text);
      at_refusal = λ n rest. ap (λ (x : List ℕ). h.written ++ x) (last_ended h.job h.bytes [] n ∙ sym (printed_ended t h.job [] (h.bytes ++ rest) n)) ∙ f rest;
    }

pub whole : (t : List ℤ) (l : List Act) (job : Job) → Whole t job (text_of l) (acts t l (record { job = job; bytes = []; written = [] }))
whole t l job = whole_of t job (text_of l) _ (λ rest. sym (all_acts t l (record { job = job; bytes = []; written = [] }) rest))

-- ---- the tables: in blocks of the right lengths, `begin` answers by the check of the file and leaves its words and the fresh state

pub begin_is : (file : List ℕ) (t b : List ℤ) → length t ≡ 1880 → length b ≡ 234
    → begin file t b
    ≡ cond (eqb (length file) 3760)
    (cond (eqb (table_check (words file)) 0) (begun 0 (words file) (fresh_job (words file)).block) (begun (table_check (words file)) t b))
    (begun 1 t b)
unfolding begin with_state State.fresh_state fresh_job
begin_is file t b ht hb = rw (eq-eqb (length t) 1880 ht, eq-eqb (length b) 234 hb) (by (eqb (length file) 3760) (eqb (table_check (words file)) 0) refl)
  where
    w : List ℤ
    w = words file

    by : (p q : Bool) → eqb (table_check w) 0 ≡ q → cond (p && true) (with_state t w (cond q (State.answer 0 (State.write (State.fresh w))) (State.answer (table_check w) b))) (begun 1 t b)
        ≡ cond p (cond q (begun 0 w (State.write (State.fresh w))) (begun (table_check w) t b)) (begun 1 t b)
    by true true e = refl
    by true false e = rw e
    by false q e = refl

-- ---- the program

-- what `begin` answers is the check of the file, and what it leaves where that is 0 begins the call
begun_is : (file : List ℕ) (t₀ b₀ : List ℤ) {code : ℕ} {t b : List ℤ} → length t₀ ≡ 1880 → length b₀ ≡ 234 → begun code t b ≡ begin file t₀ b₀
    → (file_check file ≡ code) × (code ≡ 0 → (t ≡ words file) × (kept b start ≡ fresh_job (words file)))
unfolding file_check fresh_job
begun_is file t₀ b₀ {code} {t} {b} ht hb e = by (eqb (length file) 3760) (eqb (table_check w) 0) refl (e ∙ begin_is file t₀ b₀ ht hb)
  where
    w : List ℤ
    w = words file

    by : (p q : Bool) → eqb (table_check w) 0 ≡ q
        → begun code t b ≡ cond p (cond q (begun 0 w (fresh_job w).block) (begun (table_check w) t₀ b₀)) (begun 1 t₀ b₀)
        → (cond p (table_check w) 1 ≡ code) × (code ≡ 0 → (t ≡ w) × (kept b start ≡ fresh_job w))
    by true true g f =
        let hc : code ≡ 0 = cc in
        let hw : t ≡ w = cc in
        let hs : b ≡ State.write (State.fresh w) = cc in
        (eqb-true (table_check w) 0 g ∙ sym hc, λ z. (hw, rw hs))
    by true false g f =
        let hc : code ≡ table_check w = cc in
        (sym hc, λ z. absurd (eqb-false (table_check w) 0 g (sym hc ∙ z)))
    by false q g f =
        let hc : code ≡ 1 = cc in
        (sym hc, λ z. absurd (omega arith))

-- what is written and the last form are `output` of the table file and the text
pub record Program (file : List ℕ) (code : ℕ) (text : List ℕ) (h : Held) : Type 0 where
  -- where the tables are refused, whatever the text is
  pub no_tables : (code ≡ 0 → ⊥) → (any : List ℕ) → refused code 0 ≡ output file any
  -- where the text has ended, and no whole line is held
  pub at_end : code ≡ 0 → to_feed h.bytes ≡ length h.bytes → h.written ++ last_of h.job h.bytes ≡ output file text
  -- where a line was refused, whatever follows
  pub at_refusal : code ≡ 0 → (h.job.progress.code ≡ 0 → ⊥) → (rest : List ℕ) → h.written ++ last_of h.job h.bytes ≡ output file (text ++ rest)

-- code, t and b are what `call::begin` answers and leaves in blocks of the right lengths
module _ (file : List ℕ) (t₀ b₀ : List ℤ) {code : ℕ} {t b : List ℤ} (ht : length t₀ ≡ 1880) (hb : length b₀ ≡ 234) (e : begun code t b ≡ begin file t₀ b₀) where
  pub program_of : (text : List ℕ) (h : Held) → Whole t (kept b start) text h → Program file code text h
  unfolding output
  program_of text h w =
      record {
        no_tables = λ n any. rw (f.0, ne_eqb code 0 n);
        at_end = λ z q. w.at_end q ∙ same z text;
        at_refusal = λ z n rest. w.at_refusal n rest ∙ same z (text ++ rest);
      }
    where
      f : (file_check file ≡ code) × (code ≡ 0 → (t ≡ words file) × (kept b start ≡ fresh_job (words file)))
      f = begun_is file t₀ b₀ ht hb e

      same : code ≡ 0 → (x : List ℕ) → printed t (kept b start) [] x ≡ output file x
      same z x = rw (f.0, eq-eqb code 0 z, (f.1 z).0, (f.1 z).1)

  pub program : (l : List Act) → Program file code (text_of l) (acts t l (record { job = kept b start; bytes = []; written = [] }))
  program l = program_of (text_of l) _ (whole t l (kept b start))

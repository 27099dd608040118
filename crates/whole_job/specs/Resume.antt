-- A call that is cut anywhere and resumed prints what the whole call prints. `Good` is the invariant of state and output file: it holds of a new job (`good_fresh`), each part that is
-- decoded and written keeps it (`good_part`), a state file hands it on to the same tables and is refused with tables of another CRC-32 (`good_file`, `good_other`), and at the end the last form completes the
-- output (`good_end`, `good_overlong`, `refused_part`). That the call is the same is tested in Call. Assumes nothing.
use Rattle.std.specs.Prelude.{◌≡◌, true, ◌≢◌, ℕ, ◌+◌, ◌-◌, ◌*◌, ◌%◌, ◌^◌, ◌≤◌, ◌<◌, ℤ, Err}
use Rattle.std.proofs.Math.Path.{refl, sym, ap}
use Rattle.std.proofs.Common.{◌∙◌, arith, length-append, length-take, length-drop, take_at, take-add, take-take}
use mathlib.Core.List.{List, [], ◌++◌, append_assoc, append-nil}
use Rattle.std.proofs.Math.Nat.{mod-eq_of_lt}
use borrow.Author.Tests.{eq-eqb, ne_eqb, le-leb}
use Rattle.std.specs.Int.Signed.{mag}
use Rattle.std.proofs.Math.ListN.{length, take, drop, take-append-drop}
use Rattle.std.proofs.Math.Seq.{drop-append-le, drop-drop}
use Rattle.count.specs.Count as Count
use Rattle.count.specs.Laws.{frames_few, fits_none, fits_both, frames_none}
use Rattle.crc32.specs.Crc32.{run, crc32, more}
use Rattle.crc32.specs.Laws.{crc32_lt, crc32_append}
use Rattle.line.specs.Line.{shortest, longest}
use Rattle.line_step.specs.declared.Progress.{Progress}
use Rattle.line_step.specs.Step.{kept}
use Rattle.line_step.specs.Step as Step
use Rattle.call.specs.Call as Call
use Rattle.call.specs.Call.{last_form, printed, fresh_job, file_check, output}
use Rattle.call.specs.Chunk as Chunk
use Rattle.whole_call.specs.Ending.{fresh_checked}
use Rattle.whole_call.specs.Whole.{printed_ended, again, lines_made, overlong_made}
use Rattle.print.specs.Print.{over, frame_least, frame_room}
use Rattle.laws.specs.Lists.{at}
use Rattle.state.specs.State.{state_check}
use Rattle.words.specs.Words.{Bytes, words}
use Rattle.words.specs.Laws.{bytes_take}
use Rattle.job.specs.declared.Saved.{Saved}
use Rattle.job.specs.Job.{start, pack, fits, answer, read}
use Rattle.job.specs.Part.{progress, going, after, taken, part}
use Rattle.job.specs.Part as Part
use Rattle.whole_job.specs.Back.{InBounds, small, pack_other}
use Rattle.whole_job.specs.Fits.{CanBeSaved, AfterPart, Fits, part_able, part_fits, part_accepted, part_unused}
use Rattle.whole_job.specs.Shown.{Shown, shown_part}

-- a file after bytes were written over its bytes from place o on
unfoldable pub put_at : ℕ → List ℕ → List ℕ → List ℕ
put_at o v out = take o out ++ (v ++ drop (o + length v) out)

-- what was printed of the lines that are taken stands in the output, and with what the rest of the text prints from this state it is all that is to be printed; the tables are those
-- of this table file, and the job has their CRC-32 and that of the bytes taken; a job file can hold its numbers, and its state is accepted; what was printed ends in its last samples
pub record Good (file text all : List ℕ) (b : List ℤ) (p : Saved) (out : List ℕ) : Type 0 where
  pub of_tables : p.tables ≡ crc32 file
  pub of_call : p.call ≡ crc32 (take p.at text)
  pub within : p.at ≤ length text
  pub able : fits p ≡ true
  pub accepted : state_check b ≡ 0
  pub reach : p.written ≤ length out
  pub made : all ≡ take p.written out ++ printed (words file) (going b p) [] (drop p.at text)
  pub shown : Shown b (take p.written out)

-- a new job, whatever stands in the output: all that is to be printed is what `decode` prints
pub good_fresh : (file text out : List ℕ) → file_check file ≡ 0 → Good file text (output file text) (fresh_job (words file)).block (start (crc32 file)) out
unfolding going progress fresh_job Call.start start output fits crc32 run Shown
good_fresh file text out h =
    record {
      of_tables = refl;
      of_call = refl;
      within = omega arith;
      able = rw (fits_none, frames_none);
      accepted = fresh_checked file h;
      reach = omega arith;
      made = rw (eq-eqb _ _ h);
      shown = λ z. absurd (omega arith);
    }

-- whatever is written behind the place, as by a program that was stopped before it saved its next state
pub good_behind : (file text all : List ℕ) (b : List ℤ) (p : Saved) (out out' : List ℕ) → Good file text all b p out → p.written ≤ length out'
    → take p.written out' ≡ take p.written out → Good file text all b p out'
good_behind file text all b p out out' good h e =
    record {
      of_tables = good.of_tables;
      of_call = good.of_call;
      within = good.within;
      able = good.able;
      accepted = good.accepted;
      reach = h;
      made = good.made ∙ rw e;
      shown = rw e good.shown;
    }

-- however often it was cut, saved and resumed, its counters of rules add up to twice its frames
pub good_both : (file text all : List ℕ) (b : List ℤ) (p : Saved) (out : List ℕ) → Good file text all b p out → Count.subframes p.counts ≡ 2 * p.counts.frames
good_both file text all b p out good = fits_both p.counts (small p good.able).counts

-- a job that goes through a state file: with the same tables it is the job that was saved, with tables of another CRC-32 it is refused
module _ (file text all : List ℕ) (b : List ℤ) (p : Saved) (out : List ℕ) (good : Good file text all b p out)
    (a : Bytes file) (c : Bytes text) (n : length b ≡ 234) (w : (k : ℕ) → mag (at b k) < 32768) (lent : List ℤ) where
  pub has_sum : p.tables < 2 ^ 32
  has_sum = rw good.of_tables (crc32_lt file a)

  pub has_call : p.call < 2 ^ 32
  has_call = rw good.of_call (crc32_lt (take p.at text) (bytes_take p.at text c))

  pub good_other : (other : List ℕ) → crc32 file ≢ crc32 other → read (pack b p) (crc32 other) lent ≡ answer (Err 23) lent
  good_other other h = pack_other b p n w good.able has_sum has_call (crc32 other) lent (λ e. h (sym good.of_tables ∙ e))

put_front : (o : ℕ) (v out : List ℕ) → o ≤ length out → take (o + length v) (put_at o v out) ≡ take o out ++ v
unfolding put_at
put_front o v out h =
    let n : length (take o out ++ v) ≡ o + length v = simp (length-append, length-take) (omega arith) in
    rw (← append_assoc (take o out) v (drop (o + length v) out)) (take_at (take o out ++ v) _ (o + length v) n)

put_reach : (o : ℕ) (v out : List ℕ) → o ≤ length out → o + length v ≤ length (put_at o v out)
unfolding put_at
put_reach o v out h = simp (length-append, length-take, length-drop) (omega arith)

-- a part that is decoded, and written at its place: n bytes of the text were read
module _ (file text all : List ℕ) (b : List ℤ) (p : Saved) (out : List ℕ) (good : Good file text all b p out)
    (most n : ℕ) (forms : List ℕ) (h : p.at + n ≤ length text) (m : length text < 2 ^ 64) where
  abbrev t : List ℤ
  t = words file

  abbrev input : List ℕ
  input = take n (drop p.at text)

  abbrev rest : List ℕ
  rest = drop n (drop p.at text)

  abbrev Q : Chunk.Part
  Q = Chunk.part t (going b p) most (length forms) [] input

  used : ℕ
  used = length input - length Q.unused

  able_here : CanBeSaved (going b p).progress
  unfolding going progress
  able_here = ((small p good.able).counts, (small p good.able).frames)

  grown : AfterPart (going b p) Q
  grown = part_able t (going b p) most (length forms) [] input able_here

  lines_few : Q.job.progress.lines ≤ Count.most
  lines_few = frames_few Q.job.progress.lines Q.job.progress.counts grown.able.0 grown.able.1

  -- what was written and what is printed now
  printed_least : frame_least * Q.job.progress.lines ≤ p.written + length Q.text
  unfolding going progress
  printed_least = omega (arith, grown.text.0, (small p good.able).least_out)

  printed_few : p.written + length Q.text ≤ frame_room * Q.job.progress.lines
  unfolding going progress
  printed_few = omega (arith, grown.text.1, (small p good.able).written)

  length_input : length input ≡ n
  length_input = simp (length-take, length-drop) (omega arith)

  used_all : used + length Q.unused ≡ length input
  unfolding used
  used_all = omega (arith, part_unused t (going b p) most (length forms) [] input)

  -- the place behind it
  next : Saved
  next =
      record {
        counts = Q.job.progress.counts;
        lines = Q.job.progress.lines;
        at = p.at + used;
        written = p.written + length Q.text;
        tables = p.tables;
        call = more p.call (take used input);
      }

  next_is : after p input Q ≡ next
  unfolding after used next
  next_is =
      let l : Q.job.progress.lines ≤ Count.most = lines_few in
      let a : (p.at + used) % 2 ^ 64 ≡ p.at + used = mod-eq_of_lt (omega (arith, length_input)) in
      let w : (p.written + length Q.text) % 2 ^ 64 ≡ p.written + length Q.text = mod-eq_of_lt (omega (arith, printed_few)) in
      rw (a, w)

  -- what is printed of the text from the place on
  from_here : printed t (going b p) [] (drop p.at text) ≡ Q.text ++ printed t Q.job [] (drop (p.at + used) text)
  unfolding over used Chunk.lines Chunk.given
  from_here =
      let u : used ≤ length input = omega (arith, used_all) in
      ap (λ (x : List ℕ). printed t (going b p) [] x) (sym (take-append-drop n (drop p.at text)))
      ∙ lines_made t (going b p) most input forms {next = Q.job} {used = used} {written = length Q.text} {left = over Q.text forms} refl rest
      ∙ rw (take_at Q.text (drop (length Q.text) forms) (length Q.text) refl, ← drop-append-le used input rest u, take-append-drop n (drop p.at text), drop-drop used p.at text)

  call_here : more p.call (take used input) ≡ crc32 (take (p.at + used) text)
  call_here =
      let u : used ≤ n = omega (arith, used_all, length_input) in
      ap (λ (x : ℕ). more x (take used input)) good.of_call
      ∙ ap (λ (x : List ℕ). more (crc32 (take p.at text)) x) (take-take used n (drop p.at text) u)
      ∙ crc32_append (take p.at text) (take used (drop p.at text))
      ∙ ap crc32 (sym (take-add p.at used text))

  fits_next : Q.job.progress.code ≡ 0 → fits next ≡ true
  unfolding fits next going progress
  fits_next c =
      let s : InBounds p = small p good.able in
      let f : Fits (going b p) (0 + length input) Q = part_fits t (going b p) most (length forms) [] input able_here c in
      rw (
        grown.able.0,
        grown.able.1,
        le-leb ((shortest + 1) * Q.job.progress.lines) (p.at + used) (omega (arith, f.least, s.least, used_all)),
        le-leb (p.at + used) ((longest + 1) * Q.job.progress.lines) (omega (arith, f.most, s.at, used_all)),
        le-leb (frame_least * Q.job.progress.lines) (p.written + length Q.text) printed_least,
        le-leb (p.written + length Q.text) (frame_room * Q.job.progress.lines) printed_few,
      )

  same_job : Q.job.progress.code ≡ 0 → Q.job ≡ going Q.job.block next
  unfolding going progress next
  same_job e = λ i. record { block = Q.job.block; progress = record { code = e i; lines = Q.job.progress.lines; counts = Q.job.progress.counts } }

  front : take (p.written + length Q.text) (put_at p.written Q.text out) ≡ take p.written out ++ Q.text
  front = put_front p.written Q.text out good.reach

  good_next : Q.job.progress.code ≡ 0 → Good file text all Q.job.block next (put_at p.written Q.text out)
  unfolding next going
  good_next c =
      record {
        of_tables = good.of_tables;
        of_call = call_here;
        within = omega (arith, used_all, length_input);
        able = fits_next c;
        accepted = part_accepted t (going b p) most (length forms) [] input good.accepted;
        reach = put_reach p.written Q.text out good.reach;
        made =
            good.made
            ∙ ap (λ (x : List ℕ). take p.written out ++ x) (from_here ∙ ap (λ (j : Step.Job). Q.text ++ printed t j [] (drop (p.at + used) text)) (same_job c))
            ∙ sym (append_assoc (take p.written out) Q.text _)
            ∙ ap (λ (x : List ℕ). x ++ printed t (going Q.job.block next) [] (drop (p.at + used) text)) (sym front);
        shown = rw front (shown_part t (going b p) most (length forms) [] input (take p.written out) good.shown);
      }

  stopped : (Q.job.progress.code ≡ 0 → ⊥)
      → let f : List ℕ = last_form Q.job.progress [] in
      let o : ℕ = p.written + length Q.text in
      take (o + length f) (put_at o f (put_at p.written Q.text out)) ≡ all
  stopped c =
      let f : List ℕ = last_form Q.job.progress [] in
      put_front (p.written + length Q.text) f (put_at p.written Q.text out) (put_reach p.written Q.text out good.reach)
      ∙ ap (λ (x : List ℕ). x ++ f) front
      ∙ append_assoc (take p.written out) Q.text f
      ∙ sym (good.made ∙ ap (λ (x : List ℕ). take p.written out ++ x) (from_here ∙ ap (λ (x : List ℕ). Q.text ++ x) (printed_ended t Q.job [] (drop (p.at + used) text) c)))

  -- what the call of `part` gives
  module _ {b' : List ℤ} {code : ℕ} {place : Saved} {written left : ℕ} {forms' : List ℕ} (e : Part.answer b' code place written left forms' ≡ part t b p most input forms) where
    as_block : b' ≡ Q.job.block
    unfolding part taken
    as_block = cc

    as_code : code ≡ Q.job.progress.code
    unfolding part taken
    as_code = cc

    as_place : place ≡ next
    unfolding part taken
    as_place = let k : place ≡ after p input Q = cc in k ∙ next_is

    as_text : take written forms' ≡ Q.text
    unfolding part taken over
    as_text =
        let w : written ≡ length Q.text = cc in
        let f : forms' ≡ Q.text ++ drop (length Q.text) forms = cc in
        rw (w, f) (take_at Q.text (drop (length Q.text) forms) (length Q.text) refl)

    pub good_part : code ≡ 0 → Good file text all b' place (put_at p.written (take written forms') out)
    good_part z = rw (as_text, as_block, as_place) (good_next (sym as_code ∙ z))

    -- a part in which a line is refused: its forms, and the refusal behind them, are all that is printed
    pub refused_part : (code ≡ 0 → ⊥)
        → let f : List ℕ = last_form (progress place code) [] in
        take (place.written + length f) (put_at place.written f (put_at p.written (take written forms') out)) ≡ all
    unfolding progress next
    refused_part z = rw (as_text, as_place, as_code) (stopped (λ c. z (as_code ∙ c)))

-- the text ends with these bytes behind its last line feed: the last form completes the output
pub good_end : (file text all : List ℕ) (b : List ℤ) (p : Saved) (out : List ℕ) → Good file text all b p out
    → Chunk.to_feed (drop p.at text) ≡ length (drop p.at text)
    → let f : List ℕ = last_form (progress p 0) (drop p.at text) in
    take (p.written + length f) (put_at p.written f out) ≡ all
unfolding going printed
good_end file text all b p out good h =
    let t : List ℤ = words file in
    put_front p.written (last_form (progress p 0) (drop p.at text)) out good.reach
    ∙ sym (good.made ∙ ap (λ (x : List ℕ). take p.written out ++ x) (ap (λ (x : List ℕ). printed t (going b p) [] x) (sym (append-nil (drop p.at text))) ∙ sym (again t (going b p) [] (drop p.at text) [] h)))

-- a refusal's form does not depend on the bytes held
held_last : (p : Progress) (a b : List ℕ) → (p.code ≡ 0 → ⊥) → last_form p a ≡ last_form p b
unfolding last_form
held_last p a b h = rw (ne_eqb p.code 0 h)

-- more bytes without a line feed than a line has: the refusal completes the output
pub good_overlong : (file text all : List ℕ) (b : List ℤ) (p : Saved) (out : List ℕ) (n : ℕ) → Good file text all b p out
    → let l : List ℕ = take n (drop p.at text) in
    let q : Progress = Chunk.overlong l (progress p 0) in
    let f : List ℕ = last_form q l in
    (q.code ≡ 0 → ⊥) → take (p.written + length f) (put_at p.written f out) ≡ all
unfolding going
good_overlong file text all b p out n good h =
    let t : List ℤ = words file in
    let l : List ℕ = take n (drop p.at text) in
    let q : Progress = Chunk.overlong l (progress p 0) in
    put_front p.written (last_form q l) out good.reach
    ∙ sym (good.made ∙ ap (λ (x : List ℕ). take p.written out ++ x) (ap (λ (x : List ℕ). printed t (going b p) [] x) (sym (take-append-drop n (drop p.at text)))
    ∙ overlong_made t (going b p) l (drop n (drop p.at text)) ∙ printed_ended t (kept b q) [] _ h ∙ held_last q [] l h))

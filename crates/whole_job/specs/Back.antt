-- A job file read back: what was packed, for every state block that 01's check accepts and all numbers that a job can have; with other tables it is refused with 23. The counters of rules of
-- any file that is read add up to twice its frames. Assumes nothing.
use Rattle.std.specs.Prelude.{◌≡◌, Bool, true, false, cond, ◌&&◌, ◌≢◌, ℕ, ◌+◌, ◌-◌, ◌*◌, ◌^◌, ◌≤◌, ◌<◌, eqb, leb, T, ℤ, Ok, Err}
use Rattle.std.proofs.Math.Path.{refl}
use Rattle.std.proofs.Common.{sym, ◌∙◌, subst, arith}
use mathlib.Core.List.{List, [], ◌++◌, append_assoc, append-nil}
use borrow.Author.Tests.{eq-eqb, ne_eqb, eqb-true, leb-true}
use Rattle.std.specs.Int.Signed.{mag}
use Rattle.std.proofs.Math.ListN.{length, length-append}
use Rattle.std.proofs.Math.Seq.{take_at, drop_at, take_all}
use Rattle.count.specs.Count as Count
use Rattle.count.specs.Laws.{frames_few, fits_both, numbers_small, numbers_back}
use Rattle.crc32.specs.Crc32.{crc32}
use Rattle.crc32.specs.Laws.{crc32_lt}
use Rattle.laws.specs.Lists.{at}
use Rattle.line.specs.Line.{shortest, longest}
use Rattle.print.specs.Print.{frame_least, frame_room}
use Rattle.state.specs.State.{state_check}
use Rattle.words.specs.Words.{Bytes, bytes, number_bytes, numbers_bytes}
use Rattle.words.specs.Laws as Words
use Rattle.job.specs.declared.Saved.{Saved}
use Rattle.job.specs.Job.{state_at, counts_at, sum_at, file_length, tag, version, widths, head, count_widths, state_and_counts, body, pack, fields, block, counts, place, sum_fits, known, fits, check, answer, read}

-- ---- the numbers of a job

both : (a b : Bool) → (a && b) ≡ true → (a ≡ true) × (b ≡ true)
both true b e = (refl, e)
both false b e = absurd (subst T (sym e) tt)

-- what fits is far from the ends of 32 and 64 bits
pub record InBounds (p : Saved) : Type 0 where
  pub counts : Count.fits p.counts ≡ true
  pub frames : Count.frames_are p.lines p.counts ≡ true
  pub lines : p.lines ≤ Count.most
  pub least : (shortest + 1) * p.lines ≤ p.at
  pub at : p.at ≤ (longest + 1) * p.lines
  pub least_out : frame_least * p.lines ≤ p.written
  pub written : p.written ≤ frame_room * p.lines

pub small : (p : Saved) → fits p ≡ true → InBounds p
unfolding fits
small p e =
    let f = both (Count.fits p.counts) _ e in
    let g = both (Count.frames_are p.lines p.counts) _ f.1 in
    let h = both (leb ((shortest + 1) * p.lines) p.at) _ g.1 in
    let i = both (leb p.at ((longest + 1) * p.lines)) _ h.1 in
    let j = both (leb (frame_least * p.lines) p.written) (leb p.written (frame_room * p.lines)) i.1 in
    record {
      counts = f.0;
      frames = g.0;
      lines = frames_few p.lines p.counts f.0 g.0;
      least = leb-true _ _ h.0;
      at = leb-true _ _ i.0;
      least_out = leb-true _ _ j.0;
      written = leb-true _ _ j.1;
    }

-- each number of the head has room in its row
head_fit : (p : Saved) → InBounds p → p.tables < 2 ^ 32 → p.call < 2 ^ 32 → Words.Fit widths (head p)
unfolding widths head
head_fit p s t c =
    let l : p.lines ≤ Count.most = s.lines in
    Words.more 4 tag (omega arith) (omega arith)
    (Words.more 4 version (omega arith) (omega arith)
    (Words.more 8 p.at (omega arith) (omega (arith, s.at))
    (Words.more 8 p.written (omega arith) (omega (arith, s.written))
    (Words.more 4 p.tables (omega arith) t
    (Words.more 4 p.call (omega arith) c
    (Words.more 4 p.lines (omega arith) (omega arith) Words.none))))))

-- and so have the counts
count_fit : (p : Saved) → InBounds p → Words.Fit count_widths (Count.numbers p.counts)
unfolding count_widths Count.numbers
count_fit p s =
    let m = numbers_small p.counts s.counts in
    Words.more 4 _ (omega arith) (m 0)
    (Words.more 4 _ (omega arith) (m 1)
    (Words.more 4 _ (omega arith) (m 2)
    (Words.more 4 _ (omega arith) (m 3)
    (Words.more 4 _ (omega arith) (m 4)
    (Words.more 4 _ (omega arith) (m 5)
    (Words.more 4 _ (omega arith) (m 6) Words.none))))))

-- ---- a packed job

module _ (b : List ℤ) (p : Saved) (n : length b ≡ 234) (w : (k : ℕ) → mag (at b k) < 32768) (e : fits p ≡ true) (t : p.tables < 2 ^ 32) (c : p.call < 2 ^ 32) where
  abbrev H : List ℕ
  H = numbers_bytes widths (head p)

  abbrev N : List ℕ
  N = numbers_bytes count_widths (Count.numbers p.counts)

  abbrev S : List ℕ
  S = number_bytes 4 (crc32 (body b p))

  length_h : length H ≡ state_at
  unfolding widths head Words.total
  length_h = Words.length_numbers_bytes widths (head p) refl

  length_b : length (bytes b) ≡ counts_at - state_at
  length_b = Words.length_bytes b ∙ omega arith

  length_n : length N ≡ sum_at - counts_at
  unfolding count_widths Count.numbers Words.total
  length_n = Words.length_numbers_bytes count_widths (Count.numbers p.counts) refl

  length_s : length S ≡ 4
  length_s = Words.length_number_bytes 4 (crc32 (body b p))

  length_body : length (body b p) ≡ sum_at
  unfolding body state_and_counts
  length_body = simp length-append (omega (arith, length_h, length_b, length_n))

  pub pack_length : length (pack b p) ≡ file_length
  unfolding pack
  pack_length = length-append (body b p) S ∙ omega (arith, length_body, length_s)

  bytes_body : Bytes (body b p)
  unfolding body state_and_counts
  bytes_body =
      Words.bytes_join H _ (Words.bytes_numbers widths (head p)) (Words.bytes_join (bytes b) N (Words.bytes_words b) (Words.bytes_numbers count_widths (Count.numbers p.counts)))

  pub pack_bytes : Bytes (pack b p)
  unfolding pack
  pack_bytes = Words.bytes_join (body b p) S bytes_body (Words.bytes_number 4 _)

  pub pack_sum : sum_fits (pack b p) ≡ true
  unfolding pack sum_fits
  pack_sum =
      rw (take_at (body b p) S sum_at length_body, drop_at (body b p) S sum_at length_body, take_all 4 S (omega (arith, length_s)))
      (eq-eqb _ _ (Words.number_back 4 (crc32 (body b p)) (crc32_lt (body b p) bytes_body)))

  -- the parts of the file
  parts : pack b p ≡ H ++ (bytes b ++ (N ++ S))
  unfolding pack body state_and_counts
  parts = simp append_assoc

  pub pack_fields : fields (pack b p) ≡ head p
  unfolding fields
  pack_fields = rw parts (Words.numbers_back widths (head p) _ (head_fit p (small p e) t c))

  pub pack_known : known (pack b p) ≡ true
  unfolding known head
  pack_known = rw pack_fields

  pub pack_counts : counts (pack b p) ≡ p.counts
  unfolding counts
  pack_counts =
      let f = (small p e).counts in
      let i : length (H ++ bytes b) ≡ counts_at = length-append H (bytes b) ∙ omega (arith, length_h, length_b) in
      rw (parts, ← append_assoc H (bytes b) (N ++ S), drop_at (H ++ bytes b) (N ++ S) counts_at i, take_at N S (sum_at - counts_at) length_n, ← append-nil N, Words.numbers_back count_widths (Count.numbers p.counts) [] (count_fit p (small p e)))
      (numbers_back p.counts f)

  pub pack_place : place (pack b p) ≡ p
  unfolding place head
  pack_place = rw (pack_fields, pack_counts)

  pub pack_block : block (pack b p) ≡ b
  unfolding block
  pack_block = rw (parts, drop_at H (bytes b ++ (N ++ S)) state_at length_h, take_at (bytes b) (N ++ S) (counts_at - state_at) length_b) (Words.words_back b w)

  -- with tables of its CRC-32 the number is that of 01's check of the block, with others 23
  pub pack_check : (tables : ℕ) → check (pack b p) tables ≡ cond (eqb p.tables tables) (state_check b) 23
  unfolding check
  pack_check tables = rw (eq-eqb _ _ pack_length, pack_sum, pack_known, pack_place, e, pack_block)

  pub pack_read : (lent : List ℤ) → state_check b ≡ 0 → read (pack b p) p.tables lent ≡ answer (Ok p) b
  unfolding read
  pack_read lent z = rw (pack_check p.tables, eq-eqb p.tables p.tables refl, eq-eqb _ _ z, pack_place, pack_block)

  -- other tables: 23
  pub pack_other : (tables : ℕ) (lent : List ℤ) → p.tables ≢ tables → read (pack b p) tables lent ≡ answer (Err 23) lent
  unfolding read
  pack_other tables lent h = rw (pack_check tables, ne_eqb _ _ h)

-- a file with a right check sum and another tag or version: 25, whatever else it holds and whichever tables are at hand
pub other_version : (f : List ℕ) (tables : ℕ) (lent : List ℤ) → length f ≡ file_length → sum_fits f ≡ true → known f ≡ false → read f tables lent ≡ answer (Err 25) lent
unfolding read check
other_version f tables lent n s k = rw (eq-eqb _ _ n, s, k)

-- ---- a file that is read, whoever wrote it

read_fits : (f : List ℕ) (tables : ℕ) → check f tables ≡ 0 → fits (place f) ≡ true
unfolding check
read_fits f tables = by (eqb (length f) file_length) (sum_fits f) (known f) (fits (place f)) refl
  where
    by : (x y z w : Bool) → fits (place f) ≡ w
        → cond x (cond y (cond z (cond w (cond (eqb (place f).tables tables) (state_check (block f)) 23) 22) 25) 22) 3 ≡ 0 → fits (place f) ≡ true
    by true true true true e h = e
    by true true true false e h = absurd (omega arith)
    by true true false w e h = absurd (omega arith)
    by true false z w e h = absurd (omega arith)
    by false y z w e h = absurd (omega arith)

read_place : (f : List ℕ) (tables : ℕ) (lent b : List ℤ) (p : Saved) → read f tables lent ≡ answer (Ok p) b → (check f tables ≡ 0) × (p ≡ place f)
unfolding read
read_place f tables lent b p = by (eqb (check f tables) 0) refl
  where
    by : (x : Bool) → eqb (check f tables) 0 ≡ x → cond x (answer (Ok (place f)) (block f)) (answer (Err (check f tables)) lent) ≡ answer (Ok p) b
        → (check f tables ≡ 0) × (p ≡ place f)
    by true e h = (eqb-true _ _ e, cc)
    by false e h = let z : ◌≡◌ {A = ℕ} 0 1 = cc in absurd (omega arith)

-- two subframes for each frame
pub read_both : (f : List ℕ) (tables : ℕ) (lent b : List ℤ) (p : Saved) → read f tables lent ≡ answer (Ok p) b → Count.subframes p.counts ≡ 2 * p.counts.frames
read_both f tables lent b p h =
    let e = read_place f tables lent b p h in
    fits_both p.counts (small p (rw e.1 (read_fits f tables e.0))).counts

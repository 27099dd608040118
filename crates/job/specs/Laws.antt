-- What the proofs of `job` use of its definitions: the job file put together and tested, and names. Assumes nothing.
use Rattle.std.specs.Prelude.{◌≡◌, ℕ, suc, ◌+◌, ◌-◌, ◌*◌, ◌^◌, ◌<◌, ◌≤◌, min, Bool, true, false, cond, ◌≢◌, List, [], ◌∷◌, ◌++◌, length, take, drop, ℤ, ◌==◌, slice_index, slice_index_or, slice_range, refl, Result, Ok, Err, None, Some}
use Rattle.std.proofs.Common.{sym, ap, ◌∙◌, append_assoc, append-nil, arith, length-append, length-take, length-drop, drop_of_length-le, take-suc, take_all, length-take-le, take_at, drop_at, drop-drop}
use borrow.Author.Tests.{eq-eqb, ne_eqb, eqb-true, le-leb, lt-leb}
use Rattle.std.proofs.Math.Seq.{take-length}
use Rattle.count.specs.declared.Counts.{Counts}
use Rattle.count.specs.Count as Count
use Rattle.crc32.specs.Crc32.{crc32}
use Rattle.print.specs.Print.{over}
use Rattle.state.specs.State.{state_check}
use Rattle.text.specs.Text.{ascii}
use Rattle.words.specs.Words.{bytes, from_bytes, to_bytes, number, number_bytes, numbers_bytes, put_numbers}
use Rattle.words.specs.Laws.{from_whole, to_whole, length_bytes, length_number_bytes, length_numbers_bytes, put_whole, total}
use Rattle.job.specs.declared.Saved.{Saved}
use Rattle.job.specs.Names.{new, aside, folder}
use Rattle.job.specs.Names as Names
use Rattle.job.specs.Job.{state_at, counts_at, sum_at, file_length, widths, head, count_widths, state_and_counts, body, pack, block, place, sum_fits, known, fits, check, answer, read}

-- ---- written

-- what stands up to the end of a part that was put in
pub front : (l v r : List ℕ) (a e : ℕ) → a ≤ e → e ≤ length l → length v ≡ e - a → take e (take a l ++ (v ++ r)) ≡ take a l ++ v
front l v r a e h k g =
    let n : length (take a l ++ v) ≡ e = simp (length-append, length-take) (omega arith) in
    rw (← append_assoc (take a l) v r) (take_at (take a l ++ v) r e n)

-- numbers of these widths, written to a part
pub front_numbers : (l v r ws vs : List ℕ) (a e : ℕ) → a ≤ e → e ≤ length l → length ws ≡ length vs → total ws ≡ e - a
    → v ≡ put_numbers ws vs (slice_range l a e) → take e (take a l ++ (v ++ r)) ≡ take a l ++ numbers_bytes ws vs
front_numbers l v r ws vs a e h k n t g =
    let m : length (slice_range l a e) ≡ total ws = simp (length-take, length-drop) (omega arith) in
    let f : v ≡ numbers_bytes ws vs = g ∙ put_whole ws vs _ n m in
    front l v r a e h k (ap length f ∙ length_numbers_bytes ws vs n ∙ t) ∙ rw f

pub front_sum : (l v r : List ℕ) (s : ℕ) → file_length ≤ length l → s ≡ crc32 (take sum_at l) → v ≡ number_bytes (length (take 4 (drop sum_at l))) s
    → take file_length (take sum_at l ++ (v ++ r)) ≡ take sum_at l ++ number_bytes 4 (crc32 (take sum_at l))
front_sum l v r s h e g =
    let m : length (take 4 (drop sum_at l)) ≡ 4 = simp (length-take, length-drop) (omega arith) in
    let f : v ≡ number_bytes 4 (crc32 (take sum_at l)) = g ∙ rw (m, e) in
    front l v r sum_at file_length (omega arith) h (ap length f ∙ length_number_bytes 4 _) ∙ rw f

pub front_state : (l u v r r' : List ℕ) (b : List ℤ) (c : Counts) (ns : List ℕ) → sum_at ≤ length l → length b ≡ 234 → u ≡ to_bytes b (slice_range l state_at counts_at) → ns ≡ Count.numbers c
    → let o : List ℕ = take state_at l ++ (u ++ r) in sum_at ≤ length o → v ≡ put_numbers count_widths ns (slice_range o counts_at sum_at) → take sum_at (take counts_at o ++ (v ++ r')) ≡ take state_at l ++ state_and_counts b c
unfolding state_and_counts count_widths Count.numbers total
front_state l u v r r' b c ns h n e i k g =
    let o : List ℕ = take state_at l ++ (u ++ r) in
    let f : u ≡ bytes b = e ∙ to_whole b (slice_range l state_at counts_at) (simp (length-take, length-drop) (omega arith)) in
    let a : take counts_at o ≡ take state_at l ++ u = front l u r state_at counts_at (omega arith) (omega arith) (ap length f ∙ length_bytes b ∙ omega arith) in
    front_numbers o v r' count_widths ns counts_at sum_at (omega arith) k (widths_of i) (total_of) g ∙ rw (a, f, i) (append_assoc (take state_at l) (bytes b) _)
  where
    widths_of : ns ≡ Count.numbers c → length count_widths ≡ length ns
    widths_of i = ap length (sym i)

    total_of : total count_widths ≡ sum_at - counts_at
    total_of = refl

pub pack_whole : (b : List ℤ) (p : Saved) (o₁ o₂ o₃ : List ℕ) → take state_at o₁ ≡ numbers_bytes widths (head p) → take sum_at o₂ ≡ take state_at o₁ ++ state_and_counts b p.counts
    → take file_length o₃ ≡ take sum_at o₂ ++ number_bytes 4 (crc32 (take sum_at o₂)) → length o₃ ≡ file_length → o₃ ≡ pack b p
unfolding pack body
pack_whole b p o₁ o₂ o₃ e₁ e₂ e₃ n = sym (take_all file_length o₃ (omega arith)) ∙ e₃ ∙ rw (e₂, e₁)

-- ---- read

-- a number of k bytes at place a
pub part_number : (l : List ℕ) (a k n : ℕ) → a + k ≤ length l → k ≤ 8
    → (n ≡ number (take 8 (take k (drop a l)))) × (n < 2 ^ (8 * min 8 (length (take k (drop a l))))) → n ≡ number (take k (drop a l))
part_number l a k n h g p =
    let i : length (take k (drop a l)) ≡ k = simp (length-take, length-drop) (omega arith) in
    p.0 ∙ rw (take_all 8 (take k (drop a l)) (omega arith))

pub sum_is : (f : List ℕ) (n s : ℕ) → length f ≡ file_length
    → (n ≡ number (take 8 (take 4 (drop sum_at f)))) × (n < 2 ^ (8 * min 8 (length (take 4 (drop sum_at f))))) → s ≡ crc32 (take sum_at f) → (n == s) ≡ sum_fits f
unfolding sum_fits
sum_is f n s h p e = rw (part_number f sum_at 4 n (omega arith) (omega arith) p, e)

pub block_is : (f : List ℕ) (lent z : List ℤ) → length f ≡ file_length → length lent ≡ 234 → z ≡ from_bytes (slice_range f state_at counts_at) lent → z ≡ block f
unfolding block
block_is f lent z h k e = e ∙ from_whole (slice_range f state_at counts_at) lent (simp (length-take, length-drop) (omega arith))

-- the tests of `check`, in their order
pub check_length : (f : List ℕ) (tables : ℕ) → length f ≢ file_length → 3 ≡ check f tables
unfolding check
check_length f tables h = rw (ne_eqb _ _ h)

pub check_sum : (f : List ℕ) (tables : ℕ) → length f ≡ file_length → sum_fits f ≡ false → 22 ≡ check f tables
unfolding check
check_sum f tables h e = rw (eq-eqb _ _ h, e)

module _ (f : List ℕ) (tables : ℕ) (h : length f ≡ file_length) (e : sum_fits f ≡ true) where
  pub check_known : known f ≡ false → 25 ≡ check f tables
  unfolding check
  check_known k = rw (eq-eqb _ _ h, e, k)

  module _ (p : Saved) (k : known f ≡ true) (g : p ≡ place f) where
    pub check_fits : fits p ≡ false → 22 ≡ check f tables
    unfolding check
    check_fits i = rw (eq-eqb _ _ h, e, k, ← g, i)

    pub check_tables : fits p ≡ true → p.tables ≢ tables → 23 ≡ check f tables
    unfolding check
    check_tables i t = rw (eq-eqb _ _ h, e, k, ← g, i, ne_eqb _ _ t)

    module _ (b : List ℤ) (i : fits p ≡ true) (t : p.tables ≡ tables) (j : b ≡ block f) where
      pub check_state : state_check b ≡ check f tables
      unfolding check
      check_state = rw (eq-eqb _ _ h, e, k, ← g, i, eq-eqb _ _ t, ← j)

-- a file that is not refused has 536 bytes
pub check_zero : (f : List ℕ) (tables : ℕ) → check f tables ≡ 0 → length f ≡ file_length
unfolding check
check_zero f tables e = by (length f == file_length) refl
  where
    by : (t : Bool) → (length f == file_length) ≡ t → length f ≡ file_length
    by true h = eqb-true _ _ h
    by false h = let z : ◌≡◌ {A = ℕ} 3 0 = rw h at e in absurd (omega arith)

pub read_refused : (f : List ℕ) (tables : ℕ) (lent : List ℤ) (r : ℕ) → r ≡ check f tables → (r ≢ 0) → answer (Err r) lent ≡ read f tables lent
unfolding read
read_refused f tables lent r e h = rw (← e, ne_eqb _ _ h)

pub read_done : (f : List ℕ) (tables : ℕ) (lent z : List ℤ) (p : Saved) → 0 ≡ check f tables → p ≡ place f → length lent ≡ 234
    → z ≡ from_bytes (slice_range f state_at counts_at) lent → answer (Ok p) z ≡ read f tables lent
unfolding read
read_done f tables lent z p e g k i =
    let n : length f ≡ file_length = check_zero f tables (sym e) in
    rw (← e, g, block_is f lent z n k i)

-- ---- names

pub aside_short : (path out : List ℕ) → length out < length path + 4 → (Names.answer None out ≡ aside path out) × (0 ≤ length out)
unfolding aside
aside_short path out h = (rw (lt-leb (length path + 4) (length out) h), omega arith)

-- two parts written one behind the other
two_parts : (path q out o v : List ℕ) (n : ℕ) → length path + length q ≤ length out → n ≡ length path → o ≡ take (length path) path ++ drop (length path) out
    → v ≡ q ++ drop (length q) (take (length o - n) (drop n o)) → take n o ++ (v ++ drop (length o - n) (drop n o)) ≡ over (path ++ q) out
unfolding over
two_parts path q out o v n h e g i =
    let r : List ℕ = drop (length path) out in
    let g' : o ≡ path ++ r = g ∙ rw take-length in
    let a : take n o ≡ path = rw g' (take_at path r n (sym e)) in
    let b : drop n o ≡ r = rw g' (drop_at path r n (sym e)) in
    let lo : length o ≡ length out = ap length g' ∙ length-append path r ∙ rw length-drop (omega arith) in
    let lr : length r ≡ length o - n = rw length-drop (omega arith) in
    let t : take (length o - n) r ≡ r = take_all (length o - n) r (omega arith) in
    let d : drop (length o - n) r ≡ [] = drop_of_length-le r {i = length o - n} (omega arith) in
    let w : drop (length q) r ≡ drop (length (path ++ q)) out = drop-drop (length q) (length path) out ∙ rw length-append in
    rw (i, b, a, t, d, append-nil, w) (sym (append_assoc path q _))

pub aside_done : (path out o v : List ℕ) (n m : ℕ) → length path + 4 ≤ length out → n ≡ length path → o ≡ take (length path) path ++ drop (length path) out → m ≡ 4
    → v ≡ ascii ".new" ++ drop 4 (take (length o - n) (drop n o))
    → (Names.answer (Some (n + m)) (take n o ++ (v ++ drop (length o - n) (drop n o))) ≡ aside path out) × (n + m ≤ length out)
unfolding aside new
aside_done path out o v n m h e g f i =
    let k : n + m ≡ length path + 4 = omega arith in
    (rw (le-leb (length path + 4) (length out) h, two_parts path (ascii ".new") out o v n h e g i, k), omega arith)

folder_snoc : (l : List ℕ) (b : ℕ) → folder (l ++ (b ∷ [])) ≡ cond (b == 47) (suc (length l)) (folder l)
unfolding folder
folder_snoc [] b = refl
folder_snoc (x ∷ l) b = rw (folder_snoc l b) (by (b == 47))
  where
    by : (t : Bool) → cond (cond t (suc (length l)) (folder l) == 0) (cond (x == 47) 1 0) (suc (cond t (suc (length l)) (folder l))) ≡ cond t (suc (suc (length l))) (folder (x ∷ l))
    by true = rw (ne_eqb (suc (length l)) 0 (λ z. omega arith))
    by false = refl

folder_take : (l : List ℕ) (n : ℕ) → n < length l → folder (take (suc n) l) ≡ cond (slice_index l n == 47) (suc n) (folder (take n l))
folder_take l n h = rw (take-suc l n 0 h, folder_snoc, length-take-le n l (omega arith))

module _ (l : List ℕ) (n : ℕ) (h : 0 < n) (k : n ≤ length l) (e : folder l ≡ folder (take n l)) where
  last : suc (n - 1) ≡ n
  last = omega arith

  step : folder l ≡ cond (slice_index l (n - 1) == 47) (suc (n - 1)) (folder (take (n - 1) l))
  step = e ∙ ap (λ (m : ℕ). folder (take m l)) (sym last) ∙ folder_take l (n - 1) (omega arith)

  pub folder_here : slice_index_or l (n - 1) 0 ≡ 47 → n ≡ folder l
  folder_here g = sym (step ∙ rw (eq-eqb _ _ g) last)

  pub folder_not : (slice_index l (n - 1) ≢ 47) → folder l ≡ folder (take (n - 1) l)
  folder_not g = step ∙ rw (ne_eqb _ _ g)

pub folder_all : (l : List ℕ) → folder l ≡ folder (take (length l) l)
folder_all l = rw take-length

pub folder_none : (l : List ℕ) (n : ℕ) → n ≤ 0 → folder l ≡ folder (take n l) → 0 ≡ folder l
unfolding folder
folder_none l n h e = let z : n ≡ 0 = omega arith in sym (rw z at e)

-- What a job leaves is its own: an OUT that a good job wrote (`good_own`), or that was left by one that was stopped (`left_own`), and a STATE.new that was left (`aside_own`) pass the tests of
-- job_step; an OUT that is shorter than what was written, or that has other samples there, is refused. Assumes nothing.
use Rattle.std.specs.Prelude.{◌≡◌, refl, Bool, true, false, cond, ◌&&◌, ◌||◌, ◌≢◌, List, [], ◌∷◌, ◌++◌, ℕ, zero, suc, ◌+◌, ◌-◌, ◌*◌, ◌/◌, ◌%◌, ◌^◌, ◌<◌, eqb, leb, ℤ, pos, length, take, drop, replicate}
use Rattle.std.proofs.Common.{sym, ap, ◌∙◌, append_assoc, arith, eq-eqb, ne_eqb, le-leb, length-take, take_at, drop_at, get_or-drop, to_z}
use Rattle.std.proofs.lemmas.Bool.{lt-leb}
use Rattle.std.specs.Int.Signed.{mag}
use Rattle.std.specs.Int.{w16}
use Rattle.basic_op.specs.Ops.{low16}
use Rattle.basic_op.specs.Low.{low_lt}
use Rattle.block.specs.Places.{tail_length, tail_place}
use Rattle.call.specs.Call.{last_form, printed, fresh_job, file_check, output}
use Rattle.count.specs.declared.Counts.{Counts}
use Rattle.job.specs.declared.Saved.{Saved}
use Rattle.job.specs.Job.{file_length, widths, head, body, pack, fits}
use Rattle.job_step.specs.Step.{like, frame_form, own_output, own_state, tail_at, out_check}
use Rattle.job_step.specs.Step as Step
use Rattle.job_step.specs.Laws.{like_none, words_parts}
use Rattle.laws.specs.Bytes.{same, same_self, same_true}
use Rattle.laws.specs.Digits.{digit, is_digit, value_digit, digit_is}
use Rattle.laws.specs.Lists.{at}
use Rattle.line_step.specs.declared.Progress.{Progress}
use Rattle.line_step.specs.Step.{Job, Step, one_more, stop, done, line_step}
use Rattle.line_step.specs.Laws.{by_step}
use Rattle.print.specs.Print.{frame_room, word, words, pcm, figure, figures, total, refused}
use Rattle.print.specs.Laws.{length_words, number, sample_back}
use Rattle.text.specs.Text.{ascii}
use Rattle.words.specs.Words.{number_bytes, numbers_bytes}
use Rattle.words.specs.Words.{words as words_of}
use Rattle.whole_job.specs.Back.{pack_length}
use Rattle.whole_job.specs.Resume.{Good}
use Rattle.whole_job.specs.Shown.{Shown}

-- ---- OUT of a job that has written

-- the test of OUT with these bytes
unfoldable pub out_refused : Saved → List ℤ → List ℕ → ℕ
out_refused p b out = out_check p b (length out) (take frame_room out) (drop (tail_at p) (take p.written out))

-- the job's own passes
pub good_own : (file text all : List ℕ) (b : List ℤ) (p : Saved) (out : List ℕ) → Good file text all b p out → (p.written ≡ 0 → ⊥) → out_refused p b out ≡ 0
unfolding out_refused out_check tail_at Shown
good_own file text all b p out good h =
    let n : length (take p.written out) ≡ p.written = length-take p.written out ∙ omega (arith, good.reach) in
    let e : drop (p.written - 42) (take p.written out) ≡ Step.last_printed b =
    ap (λ (m : ℕ). drop (m - 42) (take p.written out)) (sym n) ∙ good.shown (omega arith) in
    rw (ne_eqb p.written 0 h, le-leb p.written (length out) good.reach, e, same_self (Step.last_printed b))

-- one that is shorter than what was written does not
pub short_out : (b : List ℤ) (p : Saved) (out : List ℕ) → length out < p.written → out_refused p b out ≡ 27
unfolding out_refused out_check
short_out b p out h = rw (ne_eqb p.written 0 (λ e. omega arith), lt-leb p.written (length out) h)

-- the digits of a sample
word_at : (m n : ℕ) (l : List ℤ) → take 4 (drop (4 * m) (words (m + (1 + n)) l)) ≡ word (low16 (at l m))
unfolding words word
word_at m n l =
    let d : List ℤ = drop m l in
    let z : m + 0 ≡ m = omega arith in
    ap (λ (x : List ℕ). take 4 (drop (4 * m) x)) (words_parts m (1 + n) l)
    ∙ ap (take 4) (drop_at (words m l) (words (1 + n) d) (4 * m) (length_words m l) ∙ words_parts 1 n d)
    ∙ take_at (words 1 d) (words n (drop 1 d)) 4 refl
    ∙ ap (λ (x : ℤ). word (low16 x)) (get_or-drop m l 0 (pos 0) ∙ rw z)

-- unlike samples of 16 bits have unlike digits
words_unlike : (n k : ℕ) (l m : List ℤ) → k < n → mag (at l k) < 32768 → mag (at m k) < 32768 → words n l ≡ words n m → at l k ≡ at m k
words_unlike n k l m h f g e =
    let i : k + (1 + (n - k - 1)) ≡ n = omega arith in
    sym (back l f) ∙ ap (λ (x : List ℕ). to_z w16 (number (take 4 (drop (4 * k) x)))) (rw i e) ∙ back m g
  where
    back : (l : List ℤ) → mag (at l k) < 32768 → to_z w16 (number (take 4 (drop (4 * k) (words (k + (1 + (n - k - 1))) l)))) ≡ at l k
    back l f = ap (λ (x : List ℕ). to_z w16 (number x)) (word_at k (n - k - 1) l) ∙ sample_back (at l k) (record { sfits = f })

last_unlike : (b b' : List ℤ) (k : ℕ) → k < tail_length → mag (at b (tail_place + k)) < 32768 → mag (at b' (tail_place + k)) < 32768
    → Step.last_printed b ≡ Step.last_printed b' → at b (tail_place + k) ≡ at b' (tail_place + k)
unfolding Step.last_printed
last_unlike b b' k h f g e =
    let x : List ℕ = words tail_length (drop tail_place b) in
    let y : List ℕ = words tail_length (drop tail_place b') in
    let d : x ≡ y = sym (take_at x (ascii ")\n") 40 (length_words 10 (drop tail_place b))) ∙ ap (take 40) e ∙ take_at y (ascii ")\n") 40 (length_words 10 (drop tail_place b')) in
    let u : at (drop tail_place b) k ≡ at b (tail_place + k) = get_or-drop tail_place b k (pos 0) in
    let v : at (drop tail_place b') k ≡ at b' (tail_place + k) = get_or-drop tail_place b' k (pos 0) in
    sym u ∙ words_unlike tail_length k (drop tail_place b) (drop tail_place b') h (rw u f) (rw v g) d ∙ v

-- nor does one whose last samples, of 16 bits, are others
pub other_out : (b b' : List ℤ) (p : Saved) (out : List ℕ) (k : ℕ) → k < tail_length → mag (at b (tail_place + k)) < 32768 → mag (at b' (tail_place + k)) < 32768
    → at b (tail_place + k) ≢ at b' (tail_place + k) → (p.written ≡ 0 → ⊥) → drop (tail_at p) (take p.written out) ≡ Step.last_printed b' → out_refused p b out ≡ 27
unfolding out_refused out_check
other_out b b' p out k h f g d z e = rw (ne_eqb p.written 0 z, e) (by (leb p.written (length out)) (same (Step.last_printed b') (Step.last_printed b)) refl)
  where
    by : (x y : Bool) → same (Step.last_printed b') (Step.last_printed b) ≡ y → ◌≡◌ {A = ℕ} (cond (x && y) 0 27) 27
    by true true i = absurd (d (last_unlike b b' k h f g (sym (same_true _ _ i))))
    by true false i = refl
    by false y i = refl

-- ---- the first bytes of an output

-- the beginning of a text that begins like a form
like_take : (n : ℕ) (l form : List ℕ) → like l form ≡ true → like (take n l) form ≡ true
unfolding like
like_take zero l form e = refl
like_take (suc n) [] form e = refl
like_take (suc n) (a ∷ l) [] e = refl
like_take (suc n) (a ∷ l) (b ∷ form) e = by (Step.fits a b) e (like_take n l form)
  where
    by : (x : Bool) → (x && like l form) ≡ true → (like l form ≡ true → like (take n l) form ≡ true) → (x && like (take n l) form) ≡ true
    by true e f = f e
    by false e f = e

-- of three tests one is passed
any : (x y z : Bool) → (x || (y || z)) ≡ true → (x' y' z' : Bool) → (x ≡ true → x' ≡ true) → (y ≡ true → y' ≡ true) → (z ≡ true → z' ≡ true) → (x' || (y' || z')) ≡ true
any x y z e true y' z' f g h = refl
any x y z e false true z' f g h = refl
any x y z e false false true f g h = refl
any true y z e false false false f g h = f refl
any false true z e false false false f g h = g refl
any false false z e false false false f g h = h e

own_take : (n : ℕ) (l : List ℕ) → own_output l ≡ true → own_output (take n l) ≡ true
unfolding own_output
own_take n l e =
    any (like l frame_form) (like l (ascii "(total ")) (like l (ascii "(refused ")) e (like (take n l) frame_form) (like (take n l) (ascii "(total ")) (like (take n l) (ascii "(refused "))
    (like_take n l frame_form) (like_take n l (ascii "(total ")) (like_take n l (ascii "(refused "))

-- a part at a time
like_parts : (a b c d : List ℕ) → length a ≡ length c → like (a ++ b) (c ++ d) ≡ (like a c && like b d)
unfolding like
like_parts [] b [] d h = refl
like_parts [] b (y ∷ c) d h = absurd (omega arith)
like_parts (x ∷ a) b [] d h = absurd (omega arith)
like_parts (x ∷ a) b (y ∷ c) d h = rw (like_parts a b c d (omega arith)) (by (Step.fits x y))
  where
    by : (z : Bool) → (z && (like a c && like b d)) ≡ ((z && like a c) && like b d)
    by true = refl
    by false = refl

-- digits
Hex : List ℕ → Type 0
Hex [] = Unit {0}
Hex (a ∷ l) = (is_digit a ≡ true) × Hex l

digit_good : (v : ℕ) → v < 16 → is_digit (digit v) ≡ true
digit_good v h = sym (digit_is (digit v)) ∙ rw (value_digit v h) (eq-eqb (digit v) (digit v) refl)

hex_join : (l m : List ℕ) → Hex l → Hex m → Hex (l ++ m)
unfolding Hex
hex_join [] m f g = g
hex_join (a ∷ l) m f g = (f.0, hex_join l m f.1 g)

hex_like : (n : ℕ) (l : List ℕ) → Hex l → like l (replicate n Step.h) ≡ true
unfolding Hex like Step.fits
hex_like n [] f = refl
hex_like zero (a ∷ l) f = refl
hex_like (suc n) (a ∷ l) f = rw f.0 (hex_like n l f.1)

word_hex : (n : ℕ) → n < 65536 → Hex (word n)
unfolding Hex word
word_hex n h = (digit_good (n / 4096) (omega arith), (digit_good (n / 256 % 16) (omega arith), (digit_good (n / 16 % 16) (omega arith), (digit_good (n % 16) (omega arith), tt))))

words_hex : (n : ℕ) (l : List ℤ) → Hex (words n l)
unfolding Hex words
words_hex zero l = tt
words_hex (suc n) l = hex_join (words n l) _ (words_hex n l) (word_hex (low16 (at l n)) (low_lt (at l n)))

-- a frame's form, whatever stands behind it
pcm_own : (l : List ℤ) (rest : List ℕ) → own_output (pcm l ++ rest) ≡ true
unfolding own_output frame_form pcm like Step.fits
pcm_own l rest =
    let e : like ((words 80 l ++ ascii ")\n") ++ rest) (replicate 320 Step.h ++ ascii ")\n") ≡ true =
    rw (append_assoc (words 80 l) (ascii ")\n") rest, like_parts (words 80 l) (ascii ")\n" ++ rest) (replicate 320 Step.h) (ascii ")\n") (length_words 80 l ∙ refl), hex_like 320 (words 80 l) (words_hex 80 l), like_none rest) in
    rw e

-- the last forms
total_own : (c : Counts) → own_output (total c) ≡ true
unfolding own_output frame_form total figures figure like Step.fits
total_own c = refl

refused_own : (code line : ℕ) → own_output (refused code line) ≡ true
unfolding own_output frame_form refused figure like Step.fits
refused_own code line = refl

last_own : (p : Progress) (held : List ℕ) → own_output (last_form p held) ≡ true
unfolding last_form
last_own p held = by (eqb p.code 0) (eqb (length held) 0)
  where
    by : (x y : Bool) → own_output (cond x (cond y (total p.counts) (refused 9 (one_more p.lines))) (refused p.code (one_more p.lines))) ≡ true
    by true true = total_own p.counts
    by true false = refused_own 9 (one_more p.lines)
    by false y = refused_own p.code (one_more p.lines)

-- a line, whatever is printed behind it
line_own : (t : List ℤ) (job : Job) (held : List ℕ) (rest : Job → List ℕ) → ((j : Job) → own_output (rest j) ≡ true)
    → let s : Step = line_step t job held in own_output (s.text ++ rest s.job) ≡ true
unfolding stop done
line_own t job held rest f =
    by_step (λ (s : Step). own_output (s.text ++ rest s.job) ≡ true) t job held (λ n h. f _) (λ kind payload next e. pcm_own _ _)

-- all that is printed from any place on
printed_own : (t : List ℤ) (job : Job) (held text : List ℕ) → own_output (printed t job held text) ≡ true
unfolding printed
printed_own t job held [] = last_own job.progress held
printed_own t job held (b ∷ text) =
    by (eqb job.progress.code 0) (eqb b 10) (line_own t job held (λ j. printed t j [] text) (λ j. printed_own t j [] text)) (printed_own t job (held ++ (b ∷ [])) text)
  where
    s : Step
    s = line_step t job held

    by : (x y : Bool) → own_output (s.text ++ printed t s.job [] text) ≡ true → own_output (printed t job (held ++ (b ∷ [])) text) ≡ true
        → own_output (cond x (cond y (s.text ++ printed t s.job [] text) (printed t job (held ++ (b ∷ [])) text)) (last_form job.progress held)) ≡ true
    by true true f g = f
    by true false f g = g
    by false y f g = last_own job.progress held

output_own : (file text : List ℕ) → own_output (output file text) ≡ true
unfolding output
output_own file text = by (eqb (file_check file) 0)
  where
    by : (x : Bool) → own_output (cond x (printed (words_of file) (fresh_job (words_of file)) [] text) (refused (file_check file) 0)) ≡ true
    by true = printed_own (words_of file) (fresh_job (words_of file)) [] text
    by false = refused_own (file_check file) 0

-- a job that has written nothing yet finds what it would print, or the beginning of that: it was stopped before it saved a state
pub left_own : (file text : List ℕ) (n : ℕ) (b : List ℤ) (p : Saved) → p.written ≡ 0 → out_refused p b (take n (output file text)) ≡ 0
unfolding out_refused out_check
left_own file text n b p e = rw (eq-eqb p.written 0 e, own_take frame_room (take n (output file text)) (own_take n (output file text) (output_own file text)))

-- ---- STATE.new

tagged : (b : List ℤ) (p : Saved) → like (pack b p) (ascii "HDMK") ≡ true
unfolding pack body widths head numbers_bytes number_bytes like Step.fits
tagged b p = refl

-- what was left of a job file that was being written
pub aside_own : (b : List ℤ) (p : Saved) → length b ≡ 234 → ((k : ℕ) → mag (at b k) < 32768) → fits p ≡ true → p.tables < 2 ^ 32 → p.call < 2 ^ 32
    → (n : ℕ) → let f : List ℕ = take n (pack b p) in own_state (take 4 f) (length f) ≡ true
unfolding own_state
aside_own b p h w e t c n =
    rw (
      le-leb (length (take n (pack b p))) file_length (rw length-take (omega (arith, pack_length b p h w e t c))),
      like_take 4 (take n (pack b p)) (ascii "HDMK") (like_take n (pack b p) (ascii "HDMK") (tagged b p)),
    )

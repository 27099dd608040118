-- Laws of a payload text's lines: the digits of a frame are a part of the line, and what each test of the code says. Assumes nothing.
use Rattle.std.specs.Prelude.{◌≡◌, refl, Bool, true, false, cond, ◌||◌, length, take, drop, Result, Ok, Err, is_ok}
use Rattle.std.proofs.Common.{sym, subst, ◌∙◌, arith, add-one, length-append, length-take, length-drop}
use Rattle.std.proofs.Math.Path.{ap}
use mathlib.Core.List.{List, ◌++◌, append_assoc}
use Prim.Native.Nat.{ℕ, ◌+◌, ◌-◌, ◌*◌, ◌/◌, ◌≤◌, ◌<◌}
use Rattle.std.proofs.Math.Seq.{take-append_seam}
use borrow.Author.Tests.{eq-eqb, ne_eqb, lt-ltb, le-ltb}
use Rattle.text.specs.Text.{ascii, Put}
use Rattle.text.specs.Laws.{then, nothing}
use Rattle.refusal.specs.declared.Refusal.{Refusal}
use Rattle.refusal.specs.Refusal.{numbered}
use Rattle.line.specs.Line as Line
use Rattle.line.specs.Line.{hex, opening, closing, form, text, bytes, is_hex, is, took, line}
use Rattle.line.specs.Laws.{hex_take, hex_drop, hex_same, length_bytes}
use Rattle.print.specs.Laws.{front}
use Rattle.print.specs.Print.{over}
use Rattle.rtp.specs.declared.FrameCount.{FrameCount}
use Rattle.rtp.specs.declared.FramePart.{FramePart}
use Rattle.rtp.specs.Rtp.{frames, find, part}
use Rattle.rtp.specs.Laws.{within, voice_length, sid_length, frames_most}
use Rattle.payload_line.specs.PayloadLine.{longest, room, refusal, ended, frame_line, frame_lines, payload, of_payload, is_line, payload_line, Printed, Answer, answer, given}

-- ---- a frame's digits

-- what lies in the payload lies in its digits, at twice the place
pub frame_digits : (t : List ℕ) (k : ℕ) {r : FramePart} → is_hex t ≡ true → r ≡ find (length t / 2) k
    → take (2 * r.start + 2 * r.length - 2 * r.start) (drop (2 * r.start) t) ≡ hex (part (payload t) k)
unfolding part payload
frame_digits t k {r} h e =
    let l : List ℕ = bytes (length t / 2) t in
    let n : length l ≡ length t / 2 = length_bytes (length t / 2) t in
    let m : 2 * r.start + 2 * r.length - 2 * r.start ≡ 2 * r.length = omega arith in
    let d : take (2 * r.length) (drop (2 * r.start) (hex l)) ≡ hex (take r.length (drop r.start l)) =
    sym (hex_take r.length (drop r.start l) ∙ ap (take (2 * r.length)) (hex_drop r.start l)) in
    rw m (ap (λ (x : List ℕ). take (2 * r.length) (drop (2 * r.start) x)) (hex_same t h) ∙ d ∙ rw (n, e))

pub digits_within : (t : List ℕ) (k : ℕ) {r : FramePart} → r ≡ find (length t / 2) k → 2 * r.start + 2 * r.length ≤ length t
digits_within t k {r} e = let w : r.start + r.length ≤ length t / 2 = rw e (within (length t / 2) k) in omega arith

pub digits_few : (t : List ℕ) (a b : ℕ) → length (take (a + b - a) (drop a t)) ≤ b
digits_few t a b = simp length-take (omega arith)

-- the opening, the digits and the end of a line are the line
pub line_is : (o h : List ℕ) → o ++ (h ++ ascii "))\n") ≡ ended (o ++ (h ++ closing))
unfolding ended closing
line_is o h = simp append_assoc

opening_voice : length (opening 0) ≡ 14
unfolding opening
opening_voice = refl

opening_sid : length (opening 1) ≡ 12
unfolding opening
opening_sid = refl

-- the line of a frame, by its kind
module _ (t : List ℕ) (k : ℕ) {r : FramePart} (h : is_hex t ≡ true) (e : r ≡ find (length t / 2) k) where
  abbrev digits : List ℕ
  digits = take (2 * r.start + 2 * r.length - 2 * r.start) (drop (2 * r.start) t)

  kind_is : r.kind ≡ (find (length (payload t)) k).kind
  unfolding payload
  kind_is = ap (λ (x : FramePart). x.kind) e ∙ ap (λ (n : ℕ). (find n k).kind) (sym (length_bytes (length t / 2) t))

  line_of : (kind : ℕ) → r.kind ≡ kind → opening kind ++ (digits ++ ascii "))\n") ≡ frame_line (payload t) k
  unfolding frame_line text form
  line_of kind f =
      let d : List ℕ = hex (part (payload t) k) in
      ap (λ (x : List ℕ). opening kind ++ (x ++ ascii "))\n")) (frame_digits t k h e) ∙ line_is (opening kind) d ∙ ap (λ (n : ℕ). ended (opening n ++ (d ++ closing))) (sym f ∙ kind_is)

  pub voice_fits : r.kind ≡ 0 → length digits ≤ 20
  voice_fits f = let m : r.length ≤ 10 = rw e (voice_length (length t / 2) k (rw e at f)) in omega (arith, digits_few t (2 * r.start) (2 * r.length))

  pub sid_fits : (r.kind ≡ 0 → ⊥) → length digits ≤ 4
  sid_fits f = let m : r.length ≤ 2 = rw e (sid_length (length t / 2) k (λ z. f (rw e z))).1 in omega (arith, digits_few t (2 * r.start) (2 * r.length))

  -- what is written for it has at most 37 bytes, and is its line
  behind : (o : List ℕ) {from m : ℕ} {lent out : List ℕ} → Put (o ++ (digits ++ ascii "))\n")) from lent m out → m ≡ from + (length o + (length digits + 3))
  behind o p = p.place ∙ simp length-append

  pub put_voice : r.kind ≡ 0 → {from m : ℕ} {lent out : List ℕ} → Put (opening 0 ++ (digits ++ ascii "))\n")) from lent m out
      → (m ≤ from + 37) × Put (frame_line (payload t) k) from lent m out
  put_voice f {from} {m} {lent} {out} p =
      let o : length (opening 0) ≡ 14 = opening_voice in
      (omega (arith, behind (opening 0) p, voice_fits f), subst (λ (x : List ℕ). Put x from lent m out) (line_of 0 f) p)

  pub put_sid : (r.kind ≡ 0 → ⊥) → {from m : ℕ} {lent out : List ℕ} → Put (opening 1 ++ (digits ++ ascii "))\n")) from lent m out
      → (m ≤ from + 37) × Put (frame_line (payload t) k) from lent m out
  put_sid f {from} {m} {lent} {out} p =
      let o : length (opening 1) ≡ 12 = opening_sid in
      let g : r.kind ≡ 1 = rw e (sid_length (length t / 2) k (λ z. f (rw e z))).0 in
      (omega (arith, behind (opening 1) p, sid_fits f), subst (λ (x : List ℕ). Put x from lent m out) (line_of 1 g) p)

-- the lines of the frames passed
pub lines_none : (l lent : List ℕ) → Put (frame_lines l 0) 0 lent 0 lent
unfolding frame_lines
lines_none l lent = nothing lent 0 (omega arith)

pub lines_more : (l : List ℕ) (k : ℕ) {lent y out : List ℕ} {m r : ℕ} → Put (frame_lines l k) 0 lent m y → Put (frame_line l k) m y r out → Put (frame_lines l (k + 1)) 0 lent r out
unfolding frame_lines
lines_more l k p q = rw (add-one k) (then p q)

-- ---- what is written from the front

pub done : {s lent out : List ℕ} {r : ℕ} (code : ℕ) → Put s 0 lent r out → answer code r out ≡ given (record { code = code; text = s }) lent
unfolding given
done code p = rw ((front p).0, (front p).1)

-- a form at the front of its room
pub form_taken : (s lent : List ℕ) {out : List ℕ} {n : ℕ} → n ≡ length s → out ≡ over s lent → take (n - 0) (drop 0 out) ≡ s
unfolding over
form_taken s lent {out} {n} e f = let m : n - 0 ≡ length s = omega arith in rw (m, f) (take-append_seam s (drop (length s) lent))

pub form_fits : (s lent : List ℕ) {out : List ℕ} {n : ℕ} → n ≡ length s → out ≡ over s lent → n ≤ length out
unfolding over
form_fits s lent e f = rw (e, f) (simp length-append (omega arith))

-- ---- lines of a call

unfoldable pub is_frame : Line.Answer → Bool
is_frame (Line.answer (Err n) out) = false
is_frame (Line.answer (Ok kind) out) = true

pub tells_ok : (a : Result ℕ Refusal) (bytes : List ℕ) → is_ok a ≡ is_frame (Line.answer (numbered a) bytes)
unfolding is_frame
tells_ok (Ok kind) bytes = refl
tells_ok (Err r) bytes = refl

pub line_tells : (t lent : List ℕ) → length lent ≡ 10 → is_frame (line t lent) ≡ is_line t
unfolding line is_line took is_frame
line_tells t lent h = rw (eq-eqb _ _ h) (by (is 0 t) (is 1 t) (is 2 t) (is 3 t))
  where
    by : (a b c d : Bool)
        → is_frame (cond a (took 0 t lent) (cond b (took 1 t lent) (cond c (took 2 t lent) (cond d (took 3 t lent) (Line.answer (Err 9) lent))))) ≡ a || (b || (c || d))
    by true b c d = refl
    by false true c d = refl
    by false false true d = refl
    by false false false true = refl
    by false false false false = refl

-- ---- the tests of the code

module _ (t : List ℕ) (number : ℕ) {r : FrameCount} (e : r ≡ frames (length t / 2)) where
  counted : r ≡ frames (length (payload t))
  unfolding payload
  counted = e ∙ ap frames (sym (length_bytes (length t / 2) t))

  pub payload_refused : (r.code ≡ 0 → ⊥) → refusal r.code number ≡ of_payload number (payload t)
  unfolding of_payload
  payload_refused h = rw (← counted, ne_eqb r.code 0 h)

  pub payload_taken : r.code ≡ 0 → record { code = 0; text = frame_lines (payload t) r.frames } ≡ of_payload number (payload t)
  unfolding of_payload
  payload_taken h = rw (← counted, h)

  pub count_fits : length t ≤ longest → 37 * r.frames ≤ room
  count_fits h = let m : r.frames ≤ length t / 2 / 10 + 1 = rw e (frames_most (length t / 2)) in omega arith

module _ (t : List ℕ) (number : ℕ) where
  pub line_overlong : longest < length t → refusal 9 number ≡ payload_line number t
  unfolding payload_line
  line_overlong h = rw (lt-ltb longest (length t) h)

  module _ (h : length t ≤ longest) where
    pub line_payload : is_hex t ≡ true → of_payload number (payload t) ≡ payload_line number t
    unfolding payload_line
    line_payload a = rw (le-ltb longest (length t) h, a)

    pub line_kept : is_hex t ≡ false → is_line t ≡ true → record { code = 0; text = ended t } ≡ payload_line number t
    unfolding payload_line
    line_kept a b = rw (le-ltb longest (length t) h, a, b)

    pub line_none : is_hex t ≡ false → is_line t ≡ false → refusal 9 number ≡ payload_line number t
    unfolding payload_line
    line_none a b = rw (le-ltb longest (length t) h, a, b)

-- what is printed has room where lent bytes keep their number
written_of : Answer → ℕ
written_of (answer code n out) = n

bytes_of : Answer → List ℕ
bytes_of (answer code n out) = out

pub written_fits : (p : Printed) (lent : List ℕ) {code n : ℕ} {out : List ℕ} → answer code n out ≡ given p lent → length out ≡ length lent → n ≤ length lent
unfolding given over written_of bytes_of
written_fits p lent {code} {n} {out} e h =
    let w : n ≡ length p.text = ap written_of e in
    let o : length out ≡ length p.text + (length lent - length p.text) = ap (λ (x : Answer). length (bytes_of x)) e ∙ simp (length-append, length-drop) in
    omega arith

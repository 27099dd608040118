-- A header that was written is read back: a file that begins with it has its samples behind it. Assumes nothing.
use Rattle.std.specs.Prelude.{◌≡◌, Bool, cond, length, drop, Ok, Option, None, Some}
use Rattle.std.proofs.Math.Path.{refl}
use Rattle.std.proofs.Common.{◌∙◌, length-append}
use Rattle.std.proofs.Math.Bool.{true, false}
use mathlib.Core.List.{List, ◌++◌}
use Prim.Native.Nat.{ℕ, ◌+◌, ◌-◌, ◌%◌, ◌^◌, ◌≤◌, ◌<◌}
use native.Mathlib.Omega.{arith}
use borrow.Author.Tests.{eq-eqb, lt-ltb, le-ltb}
use Rattle.laws.specs.Bytes.{same}
use Rattle.laws.specs.Loops.{steps, steps_parts, steps_still}
use Rattle.text.specs.Text.{ascii, starts}
use Rattle.words.specs.Words.{number, number_bytes}
use Rattle.words.specs.Laws.{number_back}
use Rattle.wav.specs.declared.Place.{Place}
use Rattle.wav.specs.Wav.{field, behind, named, next, last, fault, found, samples, look, header}
use Rattle.wav.specs.Laws.{length_header}

-- ---- one chunk

-- whether a chunk with a whole head has a name
named_whole : (name l : List ℕ) (at : ℕ) (b : Bool) → at + 8 ≤ length l → starts name (drop at l) ≡ b → named name l at ≡ b
unfolding named
named_whole name l at b h e = rw (le-ltb (length l - at) 8 (omega arith)) e

-- one that is no `data` is passed, where more follows
pass : (l : List ℕ) (at : ℕ) (form : Option ℕ) (size : ℕ) (b : Bool) → at + 8 + size < length l → field l (at + 4) 4 ≡ size → starts (ascii "data") (drop at l) ≡ false → starts (ascii "fmt ") (drop at l) ≡ b
    → next l (record { at = at; format = form }) ≡ record { at = at + 8 + size + size % 2; format = cond b (Some (at + 8)) form }
unfolding next behind
pass l at form size b h e f g =
    rw (le-ltb (length l - at) 8 (omega arith), named_whole (ascii "data") l at false (omega arith) f, named_whole (ascii "fmt ") l at b (omega arith) g, e, lt-ltb size (length l - (at + 8)) (omega arith))

-- `data` is not left
stay : (l : List ℕ) (at : ℕ) (form : Option ℕ) → at + 8 ≤ length l → starts (ascii "data") (drop at l) ≡ true → next l (record { at = at; format = form }) ≡ record { at = at; format = form }
unfolding next
stay l at form h e = rw (le-ltb (length l - at) 8 (omega arith), named_whole (ascii "data") l at true h e)

-- ---- the header

module _ (tag bits size : ℕ) (more : List ℕ) where
  length_file : length (header tag bits size ++ more) ≡ 58 + length more
  length_file = rw (length-append, length_header)

  -- `fmt `, `fact`, and then `data`
  last_file : last (header tag bits size ++ more) ≡ record { at = 50; format = Some 20 }
  unfolding last steps header number_bytes field number starts same
  last_file =
      let l : List ℕ = header tag bits size ++ more in
      let f : ℕ → Place → Place = λ k p. next l p in
      let n = length_file in
      let a : next l (record { at = 12; format = None }) ≡ record { at = 38; format = Some 20 } = pass l 12 None 18 true (omega arith) refl refl refl in
      let b : next l (record { at = 38; format = Some 20 }) ≡ record { at = 50; format = Some 20 } = pass l 38 (Some 20) 4 false (omega arith) refl refl refl in
      let d : next l (record { at = 50; format = Some 20 }) ≡ record { at = 50; format = Some 20 } = stay l 50 (Some 20) (omega arith) refl in
      steps_parts f 2 62 (record { at = 12; format = None }) ∙ rw (a, b) (steps_still f 62 (record { at = 50; format = Some 20 }) (λ k h. d))

  -- the format is the one that was asked for
  fault_file : tag < 65536 → bits < 65536 → fault (header tag bits size ++ more) (Some 20) tag bits ≡ Ok tt
  unfolding fault header number_bytes field number
  fault_file h k =
      let l : List ℕ = header tag bits size ++ more in
      let n = length_file in
      let t : field l 20 2 ≡ tag = omega arith in
      let b : field l 34 2 ≡ bits = omega arith in
      rw (le-ltb (length l - 20) 16 (omega arith), eq-eqb (field l 20 2) tag t, eq-eqb (field l 34 2) bits b)

  -- a file that begins with a header has its samples behind it, as many bytes as it says
  pub look_header : tag < 65536 → bits < 65536 → size < 2 ^ 32 → look (header tag bits size ++ more) tag bits ≡ Ok (record { from = 58; bytes = size })
  unfolding look samples found header number_bytes field number starts same
  look_header h k j =
      let l : List ℕ = header tag bits size ++ more in
      let n = length_file in
      let s : field l 54 4 ≡ size = number_back 4 size (omega arith) in
      rw (le-ltb (length l) 12 (omega arith), last_file, named_whole (ascii "data") l 50 true (omega arith) refl, fault_file h k, s)

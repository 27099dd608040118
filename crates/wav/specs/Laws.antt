-- Laws of WAV files. Assumes nothing.
use Rattle.std.specs.Prelude.{◌≡◌, refl, Bool, true, false, cond, List, [], ◌∷◌, ℕ, ◌+◌, ◌-◌, ◌*◌, ◌/◌, ◌%◌, ◌≤◌, ltb, length, take, drop}
use Rattle.std.proofs.Common.{◌∙◌, arith, length-drop, take_all, ltb-false}
use Rattle.text.specs.Text.{starts}
use Rattle.words.specs.Words.{number_bytes, numbers_bytes, put_numbers}
use Rattle.words.specs.Laws.{total, put_whole}
use Rattle.wav.specs.Wav.{named, count, header}

-- a chunk that has a name has a whole head
pub named_room : (name l : List ℕ) (at : ℕ) → named name l at ≡ true → 8 ≤ length l - at
unfolding named
named_room name l at e = by (ltb (length l - at) 8) refl e
  where
    by : (p : Bool) → ltb (length l - at) 8 ≡ p → cond p false (starts name (drop at l)) ≡ true → 8 ≤ length l - at
    by true f g = let z : ◌≡◌ {A = Bool} false true = g in let y : ◌≡◌ {A = ℕ} 0 1 = cc in absurd (omega arith)
    by false f g = ltb-false _ _ f

-- all that stands behind a place
pub rest : (l : List ℕ) (at : ℕ) → take (length l - at) (drop at l) ≡ drop at l
rest l at = take_all (length l - at) (drop at l) (omega (arith, length-drop at l))

-- ---- the header of a new file

pub length_header : (tag bits size : ℕ) → length (header tag bits size) ≡ 58
unfolding header number_bytes
length_header tag bits size = refl

-- its numbers, each in as many bytes as its width says
abbrev pub widths : List ℕ
widths = 4 ∷ 4 ∷ 4 ∷ 4 ∷ 4 ∷ 2 ∷ 2 ∷ 4 ∷ 4 ∷ 2 ∷ 2 ∷ 2 ∷ 4 ∷ 4 ∷ 4 ∷ 4 ∷ 4 ∷ []

abbrev pub values : ℕ → ℕ → ℕ → List ℕ
values tag bits size =
    0x46464952 ∷ (50 + size + size % 2) ∷ 0x45564157 ∷ 0x20746d66 ∷ 18 ∷ tag ∷ 1 ∷ 8000 ∷ (8000 * (bits / 8)) ∷ (bits / 8) ∷ bits ∷ 0 ∷ 0x74636166 ∷ 4 ∷ count size (bits / 8) ∷ 0x61746164 ∷ size ∷ []

pub header_whole : (tag bits size : ℕ) (lent out : List ℕ) → length lent ≡ 58 → out ≡ put_numbers widths (values tag bits size) lent → out ≡ header tag bits size
unfolding header number_bytes numbers_bytes total
header_whole tag bits size lent out h e = e ∙ put_whole widths (values tag bits size) lent refl h

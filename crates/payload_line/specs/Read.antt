-- How Line reads what is printed: the claims of Lines.antt, proved. Assumes nothing.
use Rattle.std.specs.Prelude.{◌≡◌, refl, List, [], ◌∷◌, ◌++◌, ℕ, zero, suc, ◌+◌, ◌/◌, ◌<◌, length, get_or, take, drop, Ok, Err}
use Rattle.std.proofs.Common.{arith, get_or-drop, eq-eqb}
use Rattle.laws.specs.Bytes.{same}
use Rattle.laws.specs.Digits.{value_lt}
use Rattle.kind.specs.Kind.{payload_length}
use Rattle.line.specs.Line as Line
use Rattle.line.specs.Line.{opening, form, text, bytes, is_form, is, line}
use Rattle.line.specs.Laws.{complete}
use Rattle.print.specs.Print.{refused, figure}
use Rattle.rtp.specs.Rtp.{find, part}
use Rattle.rtp.specs.Parts.{payload as claims}
use Rattle.payload_line.specs.PayloadLine.{ended, frame_line, payload}
use Rattle.payload_line.specs.Lines.{Lines}

-- a text is known by itself with a line feed
ended_same : (s u : List ℕ) → ended s ≡ ended u → s ≡ u
unfolding ended
ended_same [] [] e = refl
ended_same [] (b ∷ []) e = let z : ◌≡◌ {A = ℕ} 0 1 = cc in absurd (omega arith)
ended_same [] (b ∷ c ∷ u) e = let z : ◌≡◌ {A = ℕ} 0 1 = cc in absurd (omega arith)
ended_same (a ∷ []) [] e = let z : ◌≡◌ {A = ℕ} 0 1 = cc in absurd (omega arith)
ended_same (a ∷ b ∷ s) [] e = let z : ◌≡◌ {A = ℕ} 0 1 = cc in absurd (omega arith)
ended_same (a ∷ s) (b ∷ u) e =
    let f : a ≡ b = cc in
    let g : ended s ≡ ended u = cc in
    rw (f, ended_same s u g)

-- ---- the line of a frame

-- two digits make a byte
bytes_small : (n : ℕ) (l : List ℕ) (i : ℕ) → get_or (bytes n l) i 0 < 256
unfolding bytes
bytes_small zero l i = omega arith
bytes_small (suc n) l zero = omega (arith, value_lt (get_or l 0 0), value_lt (get_or l 1 0))
bytes_small (suc n) l (suc i) = bytes_small n (drop 2 l) i

-- and so in a part
take_small : (n : ℕ) (l : List ℕ) → ((i : ℕ) → get_or l i 0 < 256) → (i : ℕ) → get_or (take n l) i 0 < 256
take_small zero l b i = omega arith
take_small (suc n) [] b i = omega arith
take_small (suc n) (x ∷ l) b zero = b 0
take_small (suc n) (x ∷ l) b (suc i) = take_small n l (λ j. b (suc j)) i

part_small : (l : List ℕ) (k : ℕ) → ((i : ℕ) → get_or l i 0 < 256) → (i : ℕ) → get_or (part l k) i 0 < 256
unfolding part
part_small l k b = take_small (find (length l) k).length (drop (find (length l) k).start l) (λ i. rw get_or-drop (b ((find (length l) k).start + i)))

payload_small : (t : List ℕ) (i : ℕ) → get_or (payload t) i 0 < 256
unfolding payload
payload_small t i = bytes_small (length t / 2) t i

frame_read_proof : (t s ten : List ℕ) (k : ℕ) → (find (length (payload t)) k).code ≡ 0 → ended s ≡ frame_line (payload t) k → length ten ≡ 10
    → line s ten ≡ Line.answer (Ok (find (length (payload t)) k).kind) (part (payload t) k ++ drop (length (part (payload t) k)) ten)
unfolding frame_line
frame_read_proof t s ten k c e h =
    let l : List ℕ = payload t in
    let kind : ℕ = (find (length l) k).kind in
    let n : length (part l k) ≡ payload_length kind = claims.part_length l k c in
    let b : (i : ℕ) → get_or (part l k) i 0 < 256 = part_small l k (payload_small t) in
    rw (ended_same s (text kind (part l k)) e, n) (complete kind (omega (arith, claims.voice_or_sid (length l) k)) (part l k) ten n b h)

-- ---- the form of a refusal

-- a text that begins with `(r` is of no form
other_text : (s ten : List ℕ) → length ten ≡ 10 → line (40 ∷ 114 ∷ s) ten ≡ Line.answer (Err 9) ten
unfolding line is is_form form same opening
other_text s ten h = rw (eq-eqb (length ten) 10 h)

refusal_refused_proof : (s ten : List ℕ) (code number : ℕ) → ended s ≡ refused code number → length ten ≡ 10 → line s ten ≡ Line.answer (Err 9) ten
unfolding ended refused figure
refusal_refused_proof [] ten code number e h = let z : ◌≡◌ {A = ℕ} 10 40 = cc in absurd (omega arith)
refusal_refused_proof (a ∷ []) ten code number e h = let z : ◌≡◌ {A = ℕ} 10 114 = cc in absurd (omega arith)
refusal_refused_proof (a ∷ b ∷ s) ten code number e h =
    let f : a ≡ 40 = cc in
    let g : b ≡ 114 = cc in
    rw (f, g) (other_text s ten h)

pub lines : Lines
lines = record { frame_read = frame_read_proof; refusal_refused = refusal_refused_proof }

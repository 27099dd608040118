-- A line of printed samples that gives bytes is what is printed of these. Assumes nothing.
use Rattle.std.specs.Prelude.{◌≡◌, refl, List, ◌++◌, map, ℕ, ◌-◌, ◌≤◌, ℤ, pos, length, take, drop, replicate}
use Rattle.std.proofs.Common.{sym, ◌∙◌, arith, length-take, take_at, ne_eqb}
use Rattle.std.proofs.lemmas.List.{length-map, length-replicate}
use Rattle.text.specs.Text.{ascii}
use Rattle.g711.specs.G711.{value, byte_of}
use Rattle.g711.specs.Undo.{write_read}
use Rattle.pcm_line.specs.PcmLine.{samples}
use Rattle.pcm_line.specs.Laws.{samples_few}
use Rattle.pcm_line.proofs.Laws.{line_samples}
use Rattle.leg.specs.Leg.{leg_line, bytes_of, answer}
use Rattle.leg.specs.Laws.{values}
use Rattle.leg.proofs.Laws.{took}

pub line_back : (law : ℕ) (t lent left : List ℕ) (n : ℕ) → answer 0 n left ≡ bytes_of law t lent → leg_line law (take n left) ≡ t ++ ascii "\n"
unfolding bytes_of leg_line
line_back law t lent left n e =
    let s : List ℤ = samples t in
    let b : List ℕ = map (byte_of law) s in
    let w = took law s lent left n e in
    let k : length b ≡ length s = length-map s (byte_of law) in
    let f : take n left ≡ b = rw w.bytes (take_at b (drop (length s) lent) n (k ∙ sym w.many)) in
    let zeros : List ℤ = replicate 80 (pos 0) in
    let few : length b ≤ 80 = omega (arith, samples_few t) in
    let room : length s ≡ length (take (length b - 0) zeros) = simp (length-take, length-replicate) (omega arith) in
    let v : s ≡ map (value law) b = (values law b few zeros refl (sym (write_read law w.known_law s (take (length b - 0) zeros) b w.table_values k room).1) refl).1 in
    rw (f, ne_eqb (length b) 0 (λ z. w.some_samples (omega arith)), w.known_law, ← v) (line_samples t (omega (arith, w.some_samples)))

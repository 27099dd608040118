-- Laws of the comparison, from what the calls inside it give. Assumes nothing.
use Rattle.std.specs.Prelude.{ℕ, ◌-◌, ◌≤◌, ◌≡◌, refl, Ok, Bool, true, false, cond, List, [], ◌++◌, eqb, ℤ, length, take, drop}
use Rattle.std.proofs.Common.{ap, ◌∙◌, append_assoc, append-nil, zero-add, arith, eqb-true, le-leb, length-append, length-take, length-drop, drop_of_length-le, drop_at}
use Rattle.block.specs.Block.{put}
use Rattle.tables.specs.Layout.{table_check}
use Rattle.plc.specs.declared.Decision.{Decision}
use Rattle.state.specs.State.{read_params, write_params, accepted}
use Rattle.parameters.specs.declared.Decoded.{Decoded}
use Rattle.parameters.specs.Parameters.{parameters}
use Rattle.decoder.specs.Call.{input_check}
use Rattle.decoder.specs.Laws.{both, room_is}
use Rattle.compare_step.specs.declared.Far.{Far}
use Rattle.compare_step.specs.declared.Left.{Left}
use Rattle.compare_step.specs.Compare.{front_length, compare_length, read_far, far_words, left_of, step, memory_check, refusal, answer, stepped}

-- v in place of the front of b
pub put_front : (b v : List ℤ) (n : ℕ) → length v ≡ n → n ≤ length b → put b 0 v ≡ v ++ drop n b
unfolding put
put_front b v n h k = rw (h, zero-add n, le-leb n (length b) k)

-- ---- what a call that is not refused knows of its arguments

memory_is : (m : List ℤ) → memory_check m ≡ 0 → length m ≡ compare_length
unfolding memory_check
memory_is m q = go (eqb (length m) compare_length) refl q
  where
    chosen : Bool → ℕ
    chosen x = cond x (cond (accepted (read_params m)) 0 4) 3

    go : (x : Bool) → eqb (length m) compare_length ≡ x → chosen x ≡ 0 → length m ≡ compare_length
    go true e z = eqb-true _ _ e
    go false e z = absurd (omega arith)

pub lengths : (t m : List ℤ) (kind : ℕ) (payload : List ℕ) (samples room : ℕ) → refusal t m kind payload samples room ≡ 0 → (length m ≡ compare_length) × ((samples ≡ 80) × (room ≡ 80))
unfolding refusal
lengths t m kind payload samples room q =
    let a = (both (table_check t) _ q).1 in
    let b = both (memory_check m) _ a in
    let c = both (input_check kind payload samples) _ b.1 in
    (memory_is m b.0, (room_is kind payload samples c.0, room_is kind payload room c.1))

-- ---- a frame, from what the calls give: the parameters v, what was kept h, the far samples z and the slots s before it; what it leaves, r and x, and the samples o; and the words w in front of the slots

module _ (t m : List ℤ) (d : Decision) (y out : List ℤ) {v : Decoded} {h : Far} {z s x o w n : List ℤ} {r : Left} (size : length m ≡ compare_length) (ev : v ≡ parameters t d (read_params m))
    (eh : h ≡ read_far m) (ez : z ≡ y) (es : s ≡ drop front_length m) (er : left_of r x o ≡ step t d v z out h s) (ew : w ≡ write_params v.params ++ far_words r.far)
    (lw : length w ≡ front_length) (en : n ≡ put (take front_length m ++ (x ++ drop (length m - front_length) (drop front_length m))) 0 w) where
  stepped_is : left_of r x o ≡ step t d (parameters t d (read_params m)) y out (read_far m) (drop front_length m)
  stepped_is = er ∙ (λ i. step t d (ev i) (ez i) out (eh i) (es i))

  front : length (take front_length m) ≡ front_length
  front = length-take front_length m ∙ omega arith

  -- nothing stands behind the slots
  whole : take front_length m ++ (x ++ drop (length m - front_length) (drop front_length m)) ≡ take front_length m ++ x
  whole =
      let e : drop (length m - front_length) (drop front_length m) ≡ [] = drop_of_length-le (drop front_length m) {i = length m - front_length} (simp length-drop (omega arith)) in
      ap (λ (l : List ℤ). take front_length m ++ (x ++ l)) e ∙ ap (λ (l : List ℤ). take front_length m ++ l) (append-nil x)

  memory : n ≡ write_params v.params ++ (far_words r.far ++ x)
  memory =
      en ∙ ap (λ (l : List ℤ). put l 0 w) whole ∙ put_front (take front_length m ++ x) w front_length lw (omega (arith, front, length-append (take front_length m) x))
      ∙ ap (λ (l : List ℤ). w ++ l) (drop_at (take front_length m) x front_length front)
      ∙ ap (λ (l : List ℤ). l ++ x) ew ∙ append_assoc (write_params v.params) (far_words r.far) x

  pub done : answer (Ok r.class) n o ≡ stepped t m d y out
  unfolding stepped
  done =
      let a = memory ∙ (λ i. write_params (ev i).params ++ (far_words (stepped_is i).far ++ (stepped_is i).slots)) in
      λ i. answer (Ok (stepped_is i).class) (a i) (stepped_is i).samples

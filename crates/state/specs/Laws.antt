-- Laws of the state block: what is written is read, what is read is written, and a fresh state is accepted. Assumes nothing.
use Rattle.std.specs.Prelude.{◌≡◌, refl, Bool, true, false, cond, ◌&&◌, List, [], ◌∷◌, ◌++◌, ℕ, eqb, ℤ, length}
use Rattle.std.proofs.Common.{ap, sym, ◌∙◌, true≢false, append_assoc, append-nil, arith, eqb-true, eq-eqb, length-append}
use Rattle.block.specs.Laws.{length_part, front_part, front_word, back_part, back_word, last_part}
use Rattle.block.specs.Places.{past_length, tail_length, past_place, tail_place, state_length}
use Rattle.tables.specs.Layout.{table_check}
use Rattle.tables.specs.Laws.{accepted_delay}
use Rattle.tables.specs.Formula.{lsp_quantizer_initial_memory, gain_predictor_initial_memory}
use Rattle.state.specs.State.{State, read_params, read_signal, read, lsp_params, excitation_params, write_params, write, fresh_params, fresh, predictor_in_range, accepted, state_check, accepted_state}

-- ---- how many words each part has

pub record Sized (s : State) : Type 0 where
  pub r0 : length s.params.r0 ≡ 10
  pub r1 : length s.params.r1 ≡ 10
  pub r2 : length s.params.r2 ≡ 10
  pub r3 : length s.params.r3 ≡ 10
  pub omega : length s.params.omega ≡ 10
  pub lsp : length s.params.lsp ≡ 10
  pub mem : length s.params.gain.mem ≡ 4
  pub past : length s.signal.past ≡ past_length
  pub tail : length s.signal.tail ≡ tail_length

pub read_sized : (b : List ℤ) → Sized (read b)
unfolding read read_params read_signal
read_sized b =
    record {
      r0 = length_part b 0 10;
      r1 = length_part b 10 10;
      r2 = length_part b 20 10;
      r3 = length_part b 30 10;
      omega = length_part b 41 10;
      lsp = length_part b 51 10;
      mem = length_part b 63 4;
      past = length_part b past_place past_length;
      tail = length_part b tail_place tail_length;
    }

pub fresh_sized : (t : List ℤ) → Sized (fresh t)
unfolding fresh fresh_params lsp_quantizer_initial_memory gain_predictor_initial_memory
fresh_sized t =
    record {
      r0 = refl;
      r1 = refl;
      r2 = refl;
      r3 = refl;
      omega = refl;
      lsp = length_part t 1856 10;
      mem = refl;
      past = refl;
      tail = refl;
    }

pub length_write : (s : State) → Sized s → length (write s) ≡ state_length
unfolding write write_params lsp_params excitation_params
length_write s k = simp (length-append, k.r0, k.r1, k.r2, k.r3, k.omega, k.lsp, k.mem, k.past, k.tail)

-- ---- what is written is read

write_flat : (s : State) → write s ≡ s.params.r0 ++ (s.params.r1 ++ (s.params.r2 ++ (s.params.r3 ++ (s.params.predictor ∷ (s.params.omega ++ (s.params.lsp
    ++ (s.params.pitch.old ∷ s.params.seed ∷ (s.params.gain.mem ++ (s.params.gain.gp ∷ s.params.gain.gc ∷ s.params.beta ∷ (s.signal.past ++ s.signal.tail))))))))))
unfolding write write_params lsp_params excitation_params
write_flat s = simp append_assoc

pub read_write : (s : State) → Sized s → read (write s) ≡ s
unfolding read read_params read_signal
read_write s k =
    let b = write s in
    let h : length b ≡ state_length = length_write s k in
    let a = front_part 0 10 b s.params.r0 _ (omega arith) k.r0 (write_flat s) in
    let c = front_part 10 10 b s.params.r1 _ (omega arith) k.r1 a.1 in
    let d = front_part 20 10 b s.params.r2 _ (omega arith) k.r2 c.1 in
    let e = front_part 30 10 b s.params.r3 _ (omega arith) k.r3 d.1 in
    let f = front_word 40 b _ _ e.1 in
    let g = front_part 41 10 b s.params.omega _ (omega arith) k.omega f.1 in
    let i = front_part 51 10 b s.params.lsp _ (omega arith) k.lsp g.1 in
    let j = front_word 61 b _ _ i.1 in
    let l = front_word 62 b _ _ j.1 in
    let m = front_part 63 4 b s.params.gain.mem _ (omega arith) k.mem l.1 in
    let n = front_word 67 b _ _ m.1 in
    let o = front_word 68 b _ _ n.1 in
    let p = front_word 69 b _ _ o.1 in
    let q = front_part past_place past_length b s.signal.past _ (omega arith) k.past p.1 in
    let r = front_part tail_place tail_length b s.signal.tail [] (omega arith) k.tail (q.1 ∙ sym (append-nil _)) in
    rw (a.0, c.0, d.0, e.0, f.0, g.0, i.0, j.0, l.0, m.0, n.0, o.0, p.0, q.0, r.0)

-- ---- what is read is written

pub write_read : (b : List ℤ) → length b ≡ state_length → write (read b) ≡ b
unfolding read read_params read_signal
write_read b h =
    write_flat (read b)
    ∙ back_part 0 10 b _ (omega arith) (back_part 10 10 b _ (omega arith) (back_part 20 10 b _ (omega arith) (back_part 30 10 b _ (omega arith)
    (back_word 40 b _ (omega arith) (back_part 41 10 b _ (omega arith) (back_part 51 10 b _ (omega arith)
    (back_word 61 b _ (omega arith) (back_word 62 b _ (omega arith) (back_part 63 4 b _ (omega arith)
    (back_word 67 b _ (omega arith) (back_word 68 b _ (omega arith) (back_word 69 b _ (omega arith)
    (back_part past_place past_length b _ (omega arith) (last_part tail_place tail_length b h))))))))))))))

-- ---- accepted states

pub accepted_write : (s : State) → Sized s → accepted s.params ≡ true → accepted_state (write s) ≡ true
unfolding accepted_state read
accepted_write s k h = rw (eq-eqb _ _ (length_write s k)) (ap (λ (x : State). accepted x.params) (read_write s k) ∙ h)

-- a fresh state is accepted
pub fresh_accepted : (t : List ℤ) → table_check t ≡ 0 → accepted_state (write (fresh t)) ≡ true
unfolding fresh fresh_params accepted predictor_in_range
fresh_accepted t h = accepted_write (fresh t) (fresh_sized t) (accepted_delay t h)

pub accepted_of_check : (b : List ℤ) → state_check b ≡ 0 → accepted_state b ≡ true
unfolding state_check accepted_state
accepted_of_check b e = go (eqb (length b) state_length) (accepted (read_params b)) e
  where
    go : (x y : Bool) → ◌≡◌ {A = ℕ} (cond x (cond y 0 4) 3) 0 → x && y ≡ true
    go true true h = refl
    go true false h = absurd (omega arith)
    go false y h = absurd (omega arith)

pub check_of_accepted : (b : List ℤ) → accepted_state b ≡ true → state_check b ≡ 0
unfolding state_check accepted_state
check_of_accepted b e = go (eqb (length b) state_length) (accepted (read_params b)) e
  where
    go : (x y : Bool) → x && y ≡ true → ◌≡◌ {A = ℕ} (cond x (cond y 0 4) 3) 0
    go true true h = refl
    go true false h = absurd (true≢false (sym h))
    go false y h = absurd (true≢false (sym h))

-- what an accepted block is
pub accepted_parts : (b : List ℤ) → accepted_state b ≡ true → (length b ≡ state_length) × (accepted (read_params b) ≡ true)
unfolding accepted_state
accepted_parts b e = go (eqb (length b) state_length) (accepted (read_params b)) e refl
  where
    go : (x y : Bool) → x && y ≡ true → eqb (length b) state_length ≡ x → (length b ≡ state_length) × (y ≡ true)
    go true y h p = (eqb-true _ _ p, h)
    go false y h p = absurd (true≢false (sym h))

-- The memory of a comparison: what is written is read, and one call on it is one step on its parts. Assumes nothing.
use Rattle.std.specs.Prelude.{ℕ, zero, suc, ◌≡◌, refl, Bool, true, false, T, eqb, ℤ, pos, drop, replicate}
use Rattle.std.proofs.Common.{sym, ap, ◌∙◌, arith, eq-eqb, eqb-true, length-append, length-drop}
use Rattle.std.proofs.Math.Bool.{cond}
use mathlib.Core.List.{List, ◌∷◌, ◌++◌, map, append_assoc}
use Rattle.std.proofs.lemmas.Bool.{eqb-false}
use Rattle.std.proofs.Math.Dec.{eqb-suc-zero}
use Rattle.std.specs.Float.Ieee.Bits.{is_true}
use Rattle.std.proofs.Math.ListN.{length}
use Rattle.std.proofs.lemmas.List.{length-replicate, length-map}
use Rattle.kind.specs.Kind as kinds
use Rattle.block.specs.Laws.{length_part, front_part, front_word, back_part, back_word}
use Rattle.block.specs.Places.{past_length, tail_length}
use Rattle.tables.specs.Layout.{table_check}
use Rattle.plc.specs.declared.Decision.{Decision}
use Rattle.plc.specs.declared.Decision.TheVariants.{Voice, Concealment}
use Rattle.plc.specs.Kinds.{decide}
use Rattle.state.specs.declared.Params.{Params}
use Rattle.state.specs.State.{State, read_params, lsp_params, excitation_params, write_params, fresh_params, fresh, accepted}
use Rattle.state.specs.Laws.{Sized, fresh_sized}
use Rattle.parameters.specs.declared.Decoded.{Decoded}
use Rattle.parameters.specs.Parameters.{parameters}
use Rattle.decoder.specs.Frame.{decode}
use Rattle.decoder.specs.Call.{first_of, input_check}
use Rattle.accepted.specs.Lengths.{sized_after}
use Rattle.accepted.specs.Accepted.{accepted_after_frame}
use Rattle.inverse.specs.Inverse.{frame_words, word}
use Rattle.inverse.specs.Window.{length_frame_words}
use Rattle.compare_step.specs.Slots.{candidates, all_tried, only_fitting}
use Rattle.compare_step.specs.declared.Far.{Far}
use Rattle.compare_step.specs.Compare.{ok, read_far, far_words, no_far, taken, known, slots_tried, found, slots_left, look, voice_far, concealed_far, Step, voice_step, step, memory_check, refusal, Answer, answer, stepped, compare, begun, begin}
use Rattle.recover.specs.Sound.{memory_of}
use Rattle.recover.specs.SlotLaws.{length_all_tried, length_candidates, length_only_fitting}

-- ---- the parameters' parts have the words that they take in a block

abbrev pub with_zeros : Params → State
with_zeros p = record { params = p; signal = record { past = replicate past_length (pos 0); tail = replicate tail_length (pos 0) } }

pub record Fitted (p : Params) : Type 0 where
  pub sized : Sized (with_zeros p)

pub fitted_after : (t : List ℤ) (d : Decision) (p : Params) → Fitted p → Fitted (parameters t d p).params
unfolding decode
fitted_after t d p k =
    let h = sized_after t (with_zeros p) k.sized d in
    record {
      sized = record {
        r0 = h.r0;
        r1 = h.r1;
        r2 = h.r2;
        r3 = h.r3;
        omega = h.omega;
        lsp = h.lsp;
        mem = h.mem;
        past = k.sized.past;
        tail = k.sized.tail;
      };
    }

pub fitted_fresh : (t : List ℤ) → Fitted (fresh_params t)
unfolding fresh
fitted_fresh t = record { sized = fresh_sized t }

-- ---- the memory by its parts

abbrev pub memory : Params → Far → List ℤ → List ℤ
memory p h s = write_params p ++ (far_words h ++ s)

-- the answer that a step gives
abbrev pub answer_of : Decoded → Step → Answer
answer_of v r = answer (ok r.class) (memory v.params r.far r.slots) r.samples

module _ (p : Params) (h : Far) (s : List ℤ) (k : Fitted p) (lt : length h.tail ≡ 10) (lw : length h.words ≡ 160) (ls : length s ≡ 1960) where
  abbrev z : Sized (with_zeros p)
  z = k.sized

  pub length_memory : length (memory p h s) ≡ 2203
  unfolding write_params lsp_params excitation_params far_words
  length_memory = simp (length-append, z.r0, z.r1, z.r2, z.r3, z.omega, z.lsp, z.mem, lt, lw, ls)

  flat : memory p h s ≡ p.r0 ++ (p.r1 ++ (p.r2 ++ (p.r3 ++ (p.predictor ∷ (p.omega ++ (p.lsp ++ (p.pitch.old ∷ p.seed ∷ (p.gain.mem ++ (p.gain.gp ∷ p.gain.gc ∷ p.beta
      ∷ (h.count ∷ h.clean ∷ h.status ∷ (h.tail ++ (h.words ++ s))))))))))))
  unfolding write_params lsp_params excitation_params far_words
  flat = simp append_assoc

  pub memory_read : (read_params (memory p h s) ≡ p) × ((read_far (memory p h s) ≡ h) × (drop 243 (memory p h s) ≡ s))
  unfolding read_params read_far
  memory_read =
      let b = memory p h s in
      let l : length b ≡ 2203 = length_memory in
      let a0 = front_part 0 10 b p.r0 _ (omega arith) z.r0 flat in
      let a1 = front_part 10 10 b p.r1 _ (omega arith) z.r1 a0.1 in
      let a2 = front_part 20 10 b p.r2 _ (omega arith) z.r2 a1.1 in
      let a3 = front_part 30 10 b p.r3 _ (omega arith) z.r3 a2.1 in
      let a4 = front_word 40 b _ _ a3.1 in
      let a5 = front_part 41 10 b p.omega _ (omega arith) z.omega a4.1 in
      let a6 = front_part 51 10 b p.lsp _ (omega arith) z.lsp a5.1 in
      let a7 = front_word 61 b _ _ a6.1 in
      let a8 = front_word 62 b _ _ a7.1 in
      let a9 = front_part 63 4 b p.gain.mem _ (omega arith) z.mem a8.1 in
      let b0 = front_word 67 b _ _ a9.1 in
      let b1 = front_word 68 b _ _ b0.1 in
      let b2 = front_word 69 b _ _ b1.1 in
      let c0 = front_word 70 b _ _ b2.1 in
      let c1 = front_word 71 b _ _ c0.1 in
      let c2 = front_word 72 b _ _ c1.1 in
      let c3 = front_part 73 10 b h.tail _ (omega arith) lt c2.1 in
      let c4 = front_part 83 160 b h.words s (omega arith) lw c3.1 in
      (rw (a0.0, a1.0, a2.0, a3.0, a4.0, a5.0, a6.0, a7.0, a8.0, a9.0, b0.0, b1.0, b2.0), (rw (c0.0, c1.0, c2.0, c3.0, c4.0), c4.1))

  -- ---- a call

  pub memory_good : T (accepted p) → memory_check (memory p h s) ≡ 0
  unfolding memory_check
  memory_good ok = rw (eq-eqb (length (memory p h s)) 2203 length_memory, memory_read.0, is_true (accepted p) ok)

  stepped_is : (t : List ℤ) (d : Decision) (y out : List ℤ) → stepped t (memory p h s) d y out ≡ answer_of (parameters t d p) (step t d (parameters t d p) y out h s)
  unfolding stepped
  stepped_is t d y out = let m = memory_read in λ i. answer_of (parameters t d (m.0 i)) (step t d (parameters t d (m.0 i)) y out (m.1.0 i) (m.1.1 i))

  pub compare_is : (t : List ℤ) (kind : ℕ) (payload : List ℕ) (y out : List ℤ) → table_check t ≡ 0 → T (accepted p) → input_check kind payload (length y) ≡ 0 → input_check kind payload (length out) ≡ 0
      → compare t (memory p h s) kind payload y out ≡ answer_of (parameters t (decide kind payload) p) (step t (decide kind payload) (parameters t (decide kind payload) p) y out h s)
  unfolding compare refusal first_of
  compare_is t kind payload y out g ok hy ho = rw (g, memory_good ok, hy, ho) (stepped_is t (decide kind payload) y out)

-- ---- a frame has 80 samples

pub eighty : (kind : ℕ) (payload : List ℕ) (n : ℕ) → input_check kind payload n ≡ 0 → n ≡ 80
unfolding input_check
eighty kind payload n h = go (kinds.known kind) (eqb (length payload) (kinds.payload_length kind)) (eqb n 80) refl h
  where
    go : (x q z : Bool) → eqb n 80 ≡ z → ◌≡◌ {A = ℕ} (cond x (cond q (cond z 0 7) 6) 5) 0 → n ≡ 80
    go true true true i h = eqb-true n 80 i
    go true true false i h = absurd (omega arith)
    go true false z i h = absurd (omega arith)
    go false q z i h = absurd (omega arith)

-- ---- any memory

pub record Whole (m : List ℤ) : Type 0 where
  pub params : Params
  pub far : Far
  pub slots : List ℤ
  pub is : m ≡ memory params far slots
  pub fitted : Fitted params
  pub ok : T (accepted params)
  pub tail_room : length far.tail ≡ 10
  pub words_room : length far.words ≡ 160
  pub slots_room : length slots ≡ 1960

fitted_read : (m : List ℤ) → Fitted (read_params m)
unfolding read_params
fitted_read m =
    record {
      sized = record {
        r0 = length_part m 0 10;
        r1 = length_part m 10 10;
        r2 = length_part m 20 10;
        r3 = length_part m 30 10;
        omega = length_part m 41 10;
        lsp = length_part m 51 10;
        mem = length_part m 63 4;
        past = length-replicate past_length (pos 0);
        tail = length-replicate tail_length (pos 0);
      };
    }

module _ (m : List ℤ) (l : length m ≡ 2203) where
  read_tail : length (read_far m).tail ≡ 10
  unfolding read_far
  read_tail = length_part m 73 10

  read_words : length (read_far m).words ≡ 160
  unfolding read_far
  read_words = length_part m 83 160

  read_slots : length (drop 243 m) ≡ 1960
  read_slots = omega (arith, length-drop 243 m)

  memory_written : memory (read_params m) (read_far m) (drop 243 m) ≡ m
  unfolding read_params read_far
  memory_written =
      flat (read_params m) (read_far m) (drop 243 m) (fitted_read m) read_tail read_words read_slots
      ∙ back_part 0 10 m _ (omega arith) (back_part 10 10 m _ (omega arith) (back_part 20 10 m _ (omega arith) (back_part 30 10 m _ (omega arith)
      (back_word 40 m _ (omega arith) (back_part 41 10 m _ (omega arith) (back_part 51 10 m _ (omega arith)
      (back_word 61 m _ (omega arith) (back_word 62 m _ (omega arith) (back_part 63 4 m _ (omega arith)
      (back_word 67 m _ (omega arith) (back_word 68 m _ (omega arith) (back_word 69 m _ (omega arith)
      (back_word 70 m _ (omega arith) (back_word 71 m _ (omega arith) (back_word 72 m _ (omega arith)
      (back_part 73 10 m _ (omega arith) (back_part 83 160 m _ (omega arith) refl)))))))))))))))))

pub whole : (m : List ℤ) → memory_check m ≡ 0 → Whole m
unfolding memory_check
whole m h = go (eqb (length m) 2203) refl (accepted (read_params m)) refl h
  where
    go : (x : Bool) → eqb (length m) 2203 ≡ x → (q : Bool) → accepted (read_params m) ≡ q → ◌≡◌ {A = ℕ} (cond x (cond q 0 4) 3) 0 → Whole m
    go true e true g i =
        let l = eqb-true (length m) 2203 e in
        record {
          params = read_params m;
          far = read_far m;
          slots = drop 243 m;
          is = sym (memory_written m l);
          fitted = fitted_read m;
          ok = rw g tt;
          tail_room = read_tail m l;
          words_room = read_words m l;
          slots_room = read_slots m l;
        }
    go true e false g i = absurd (omega arith)
    go false e q g i = absurd (omega arith)

-- ---- a call leaves a memory that isn't refused

-- of two numbers that neither refuses
neither : (j k : ℕ) → first_of j k ≡ 0 → (j ≡ 0) × (k ≡ 0)
unfolding first_of
neither j k h = go (eqb j 0) refl h
  where
    go : (x : Bool) → eqb j 0 ≡ x → cond x k j ≡ 0 → (j ≡ 0) × (k ≡ 0)
    go true e h = (eqb-true j 0 e, h)
    go false e h = absurd (eqb-false j 0 e h)

-- the lengths of what a step leaves
record Lengths (r : Step) : Type 0 where
  tail : length r.far.tail ≡ 10
  words : length r.far.words ≡ 160
  slots : length r.slots ≡ 1960

module _ (t : List ℤ) (v : Decoded) (y out : List ℤ) (h : Far) (s : List ℤ) (ly : length y ≡ 80) (lt : length h.tail ≡ 10) (lw : length h.words ≡ 160) (ls : length s ≡ 1960) where
  ten : length (drop 70 y) ≡ 10
  ten = omega (arith, length-drop 70 y)

  either : {A : Type 0} (b : Bool) (x z : List A) (n : ℕ) → length x ≡ n → length z ≡ n → length (cond b x z) ≡ n
  either true x z n p q = p
  either false x z n p q = q

  tried_long : length (slots_tried t v y h s) ≡ 1960
  unfolding slots_tried
  tried_long =
      let x = cond (taken h) (candidates h.words h.tail s) s in
      let l : length x ≡ 1960 = either (taken h) (candidates h.words h.tail s) s 1960 (length_candidates h.words h.tail s lw lt ∙ ls) ls in
      either (known h) (all_tried t v y x) x 1960 (length_all_tried t v y x ∙ l) l

  left_long : length (slots_left h (slots_tried t v y h s)) ≡ 1960
  unfolding slots_left
  left_long = let x = slots_tried t v y h s in either (found h x) (only_fitting x) x 1960 (length_only_fitting x ∙ tried_long) tried_long

  words_long : (b : Bool) → length (cond b h.words (drop 80 h.words ++ map word (frame_words v.first.a v.second.a (h.tail ++ y)))) ≡ 160
  words_long b = either b h.words (drop 80 h.words ++ map word (frame_words v.first.a v.second.a (h.tail ++ y))) 160 lw new
    where
      new : length (drop 80 h.words ++ map word (frame_words v.first.a v.second.a (h.tail ++ y))) ≡ 160
      new =
          length-append (drop 80 h.words) (map word (frame_words v.first.a v.second.a (h.tail ++ y)))
          ∙ omega (arith, length-drop 80 h.words, lw, length-map (frame_words v.first.a v.second.a (h.tail ++ y)) word, length_frame_words v.first.a v.second.a (h.tail ++ y))

  step_lengths : (d : Decision) → Lengths (step t d v y out h s)
  unfolding step voice_step voice_far look concealed_far
  step_lengths (Voice f) = record { tail = ten; words = words_long (found h (slots_tried t v y h s)); slots = left_long }
  step_lengths Concealment = record { tail = ten; words = lw; slots = ls }

refused_stays : (t m : List ℤ) (kind : ℕ) (payload : List ℕ) (y out : List ℤ) → memory_check m ≡ 0 → (n : ℕ) → refusal t m kind payload (length y) (length out) ≡ suc n
    → memory_check (memory_of (compare t m kind payload y out)) ≡ 0
unfolding compare
refused_stays t m kind payload y out h n e = rw (e, eqb-suc-zero) h

stepped_stays : (t m : List ℤ) (kind : ℕ) (payload : List ℕ) (y out : List ℤ) → memory_check m ≡ 0 → refusal t m kind payload (length y) (length out) ≡ 0
    → memory_check (memory_of (compare t m kind payload y out)) ≡ 0
unfolding refusal
stepped_stays t m kind payload y out h e =
    let n1 = neither (table_check t) (first_of (memory_check m) (first_of (input_check kind payload (length y)) (input_check kind payload (length out)))) e in
    let n2 = neither (memory_check m) (first_of (input_check kind payload (length y)) (input_check kind payload (length out))) n1.1 in
    let n3 = neither (input_check kind payload (length y)) (input_check kind payload (length out)) n2.1 in
    let x = whole m h in
    let d = decide kind payload in
    let v = parameters t d x.params in
    let r = step t d v y out x.far x.slots in
    let l = step_lengths t v y out x.far x.slots (eighty kind payload (length y) n3.0) x.tail_room x.words_room x.slots_room d in
    let q : compare t m kind payload y out ≡ answer_of v r =
    ap (λ (z : List ℤ). compare t z kind payload y out) x.is
    ∙ compare_is x.params x.far x.slots x.fitted x.tail_room x.words_room x.slots_room t kind payload y out n1.0 x.ok n3.0 n3.1 in
    ap (λ (z : Answer). memory_check (memory_of z)) q
    ∙ memory_good v.params r.far r.slots (fitted_after t d x.params x.fitted) l.tail l.words l.slots (accepted_after_frame x.params x.ok t d)

pub memory_stays : (t m : List ℤ) (kind : ℕ) (payload : List ℕ) (y out : List ℤ) → memory_check m ≡ 0 → memory_check (memory_of (compare t m kind payload y out)) ≡ 0
memory_stays t m kind payload y out h = go (refusal t m kind payload (length y) (length out)) refl
  where
    go : (n : ℕ) → refusal t m kind payload (length y) (length out) ≡ n → memory_check (memory_of (compare t m kind payload y out)) ≡ 0
    go zero e = stepped_stays t m kind payload y out h e
    go (suc n) e = refused_stays t m kind payload y out h n e

-- ---- before the first frame

pub begins_with : (t lent m : List ℤ) → begin t lent ≡ begun 0 m → (table_check t ≡ 0) × (m ≡ memory (fresh_params t) no_far (replicate 1960 (pos 0)))
unfolding begin
begins_with t lent m = go (eqb (table_check t) 0) refl (eqb (length lent) 2203)
  where
    go : (x : Bool) → eqb (table_check t) 0 ≡ x → (q : Bool) → cond x (cond q (begun 0 (memory (fresh_params t) no_far (replicate 1960 (pos 0)))) (begun 3 lent)) (begun (table_check t) lent) ≡ begun 0 m
        → (table_check t ≡ 0) × (m ≡ memory (fresh_params t) no_far (replicate 1960 (pos 0)))
    go true e true h = (eqb-true (table_check t) 0 e, let i : memory (fresh_params t) no_far (replicate 1960 (pos 0)) ≡ m = cc in sym i)
    go true e false h = let i : ◌≡◌ {A = ℕ} 3 0 = cc in absurd (omega arith)
    go false e q h = let i : table_check t ≡ 0 = cc in absurd (eqb-false (table_check t) 0 e i)

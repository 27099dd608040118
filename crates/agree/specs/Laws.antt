-- Laws of the comparison of two state blocks: what is equal where it says so, and the refusals by those of each block. Assumes nothing.
use Rattle.std.specs.Prelude.{◌≡◌, Bool, true, false, cond, ◌&&◌, ◌||◌, List, eqb, ltb, ℤ, length}
use Rattle.std.proofs.Math.Path.{refl}
use Rattle.std.proofs.Common.{sym, ap, ◌∙◌, true≢false, arith, ltb-true, ltb-false, eqb-true}
use Prim.Native.Nat.{ℕ, zero, suc, ◌+◌, ◌-◌, ◌%◌, ◌^◌, ◌≤◌, ◌<◌}
use Rattle.std.specs.Int.Signed.{lt_z}
use Rattle.laws.specs.Lists.{at, tab, at_tab}
use Rattle.laws.specs.Loops.{both_hold, nowhere_each, nowhere_all}
use Rattle.block.specs.Block.{part}
use Rattle.block.specs.Places.{past_length, tail_length, past_place, tail_place, state_length}
use Rattle.basic_op.specs.Ops.{low16}
use Rattle.state.specs.State.{read_params, read_signal, accepted, accepted_state, state_check}
use Rattle.state.specs.Laws.{accepted_parts}
use Rattle.state.specs.Same.{neither_less, never_less}
use Rattle.state.specs.declared.Params.{Params}
use Rattle.agree.specs.Agree.{equal_words, same_parameters, same_seed_bits, same_signal, refusal}

-- ---- equal words

-- words p to q - 1 are equal
abbrev pub Equal : List ℤ → List ℤ → ℕ → ℕ → Type 0
Equal a b p q = (k : ℕ) → p ≤ k → k < q → at a k ≡ at b k

module _ (a b : List ℤ) (p n : ℕ) (e : equal_words a b p n ≡ true) where
  equal_next : (k : ℕ) → k < n → at a (p + k) ≡ at b (p + k)
  unfolding equal_words
  equal_next k h = neither_less (at a (p + k)) (at b (p + k)) (nowhere_each (λ k. lt_z (at a (p + k)) (at b (p + k)) || lt_z (at b (p + k)) (at a (p + k))) n k e h)

  pub equal_word : Equal a b p (p + n)
  equal_word k g h = let j : k ≡ p + (k - p) = omega arith in rw j (equal_next (k - p) (omega arith))

  -- some of them
  pub equal_within : (q m : ℕ) → p ≤ q → q + m ≤ p + n → part a q m ≡ part b q m
  unfolding part tab
  equal_within q zero g h = refl
  equal_within q (suc m) g h = rw (equal_within q m g (omega arith), equal_word (q + m) (omega arith) (omega arith))

-- and it says so wherever they are equal
pub words_equal : (a b : List ℤ) (p n : ℕ) → Equal a b p (p + n) → equal_words a b p n ≡ true
unfolding equal_words
words_equal a b p n h =
    nowhere_all _ n (λ k l.
    let e : at a (p + k) ≡ at b (p + k) = h (p + k) (omega arith) (omega arith) in
    rw (e, never_less (at b (p + k))))

-- in parts
pub joined : (a b : List ℤ) (p q r : ℕ) → Equal a b p q → Equal a b q r → Equal a b p r
joined a b p q r x y k g h = by (ltb k q) refl
  where
    by : (t : Bool) → ltb k q ≡ t → at a k ≡ at b k
    by true e = x k g (ltb-true k q e)
    by false e = y k (ltb-false k q e) h

word_equal : (a b : List ℤ) (p : ℕ) → at a p ≡ at b p → Equal a b p (suc p)
word_equal a b p e k g h = let j : k ≡ p = omega arith in rw j e

pub part_equal : (a b : List ℤ) (p n : ℕ) → part a p n ≡ part b p n → Equal a b p (p + n)
unfolding part
part_equal a b p n e k g h =
    let j : k ≡ p + (k - p) = omega arith in
    rw j (sym (at_tab (λ i. at a (p + i)) n (k - p) (omega arith)) ∙ ap (λ (l : List ℤ). at l (k - p)) e ∙ at_tab (λ i. at b (p + i)) n (k - p) (omega arith))

-- ---- parameters, seed and signal

-- every parameter but the seed is the same
pub record SameParams (p q : Params) : Type 0 where
  pub r0 : p.r0 ≡ q.r0
  pub r1 : p.r1 ≡ q.r1
  pub r2 : p.r2 ≡ q.r2
  pub r3 : p.r3 ≡ q.r3
  pub predictor : p.predictor ≡ q.predictor
  pub omega : p.omega ≡ q.omega
  pub lsp : p.lsp ≡ q.lsp
  pub old : p.pitch.old ≡ q.pitch.old
  pub mem : p.gain.mem ≡ q.gain.mem
  pub gp : p.gain.gp ≡ q.gain.gp
  pub gc : p.gain.gc ≡ q.gain.gc
  pub beta : p.beta ≡ q.beta

pub parameters_equal : (a b : List ℤ) → same_parameters a b ≡ true → SameParams (read_params a) (read_params b)
unfolding same_parameters read_params
parameters_equal a b e =
    let h = both_hold (equal_words a b 0 62) (equal_words a b 63 7) e in
    record {
      r0 = equal_within a b 0 62 h.0 0 10 (omega arith) (omega arith);
      r1 = equal_within a b 0 62 h.0 10 10 (omega arith) (omega arith);
      r2 = equal_within a b 0 62 h.0 20 10 (omega arith) (omega arith);
      r3 = equal_within a b 0 62 h.0 30 10 (omega arith) (omega arith);
      predictor = equal_word a b 0 62 h.0 40 (omega arith) (omega arith);
      omega = equal_within a b 0 62 h.0 41 10 (omega arith) (omega arith);
      lsp = equal_within a b 0 62 h.0 51 10 (omega arith) (omega arith);
      old = equal_word a b 0 62 h.0 61 (omega arith) (omega arith);
      mem = equal_within a b 63 7 h.1 63 4 (omega arith) (omega arith);
      gp = equal_word a b 63 7 h.1 67 (omega arith) (omega arith);
      gc = equal_word a b 63 7 h.1 68 (omega arith) (omega arith);
      beta = equal_word a b 63 7 h.1 69 (omega arith) (omega arith);
    }

-- and the other way round
pub equal_parameters : (a b : List ℤ) → SameParams (read_params a) (read_params b) → same_parameters a b ≡ true
unfolding same_parameters read_params
equal_parameters a b g = rw (words_equal a b 0 62 lsf, words_equal a b 63 7 gains)
  where
    lsf : Equal a b 0 62
    lsf =
        joined a b 0 10 62 (part_equal a b 0 10 g.r0)
        (joined a b 10 20 62 (part_equal a b 10 10 g.r1)
        (joined a b 20 30 62 (part_equal a b 20 10 g.r2)
        (joined a b 30 40 62 (part_equal a b 30 10 g.r3)
        (joined a b 40 41 62 (word_equal a b 40 g.predictor)
        (joined a b 41 51 62 (part_equal a b 41 10 g.omega) (joined a b 51 61 62 (part_equal a b 51 10 g.lsp) (word_equal a b 61 g.old)))))))

    gains : Equal a b 63 70
    gains =
        joined a b 63 67 70 (part_equal a b 63 4 g.mem)
        (joined a b 67 68 70 (word_equal a b 67 g.gp) (joined a b 68 69 70 (word_equal a b 68 g.gc) (word_equal a b 69 g.beta)))

-- the bits of the seeds that a concealed frame's pulses are made of
pub seed_bits_equal : (a b : List ℤ) → same_seed_bits a b ≡ true → low16 (read_params a).seed % 2 ^ 13 ≡ low16 (read_params b).seed % 2 ^ 13
unfolding same_seed_bits read_params
seed_bits_equal a b e = eqb-true _ _ e

pub signal_equal : (a b : List ℤ) → same_signal a b ≡ true → read_signal a ≡ read_signal b
unfolding same_signal read_signal
signal_equal a b e =
    let within = equal_within a b past_place (past_length + tail_length) e in
    rw (within past_place past_length (omega arith) (omega arith), within tail_place tail_length (omega arith) (omega arith))

-- ---- refusals

-- where neither block is refused, both are accepted
pub agree_accepted : (a b : List ℤ) → refusal a b ≡ 0 → (accepted_state a ≡ true) × (accepted_state b ≡ true)
unfolding refusal accepted_state
agree_accepted a b e = go (eqb (length a) state_length) (eqb (length b) state_length) (accepted (read_params a)) (accepted (read_params b)) e
  where
    go : (k l p q : Bool) → ◌≡◌ {A = ℕ} (cond (k && l) (cond (p && q) 0 4) 3) 0 → (k && p ≡ true) × (l && q ≡ true)
    go true true true true h = (refl, refl)
    go true true true false h = absurd (omega arith)
    go true true false q h = absurd (omega arith)
    go true false p q h = absurd (omega arith)
    go false l p q h = absurd (omega arith)

-- and both are whole
pub whole : (a b : List ℤ) → refusal a b ≡ 0 → (length a ≡ state_length) × (length b ≡ state_length)
whole a b e = let h = agree_accepted a b e in ((accepted_parts a h.0).0, (accepted_parts b h.1).0)

-- and the other way round
pub accepted_agree : (a b : List ℤ) → accepted_state a ≡ true → accepted_state b ≡ true → refusal a b ≡ 0
unfolding refusal accepted_state
accepted_agree a b x y = go (eqb (length a) state_length) (eqb (length b) state_length) (accepted (read_params a)) (accepted (read_params b)) x y
  where
    go : (k l p q : Bool) → k && p ≡ true → l && q ≡ true → ◌≡◌ {A = ℕ} (cond (k && l) (cond (p && q) 0 4) 3) 0
    go true true true true x y = refl
    go true true true false x y = absurd (true≢false (sym y))
    go true true false q x y = absurd (true≢false (sym x))
    go true false true q x y = absurd (true≢false (sym y))
    go true false false q x y = absurd (true≢false (sym x))
    go false l p q x y = absurd (true≢false (sym x))

-- the refusal by the checks of both blocks
pub refusal_checks : (a b : List ℤ) → refusal a b ≡ cond (eqb (state_check a) 3 || eqb (state_check b) 3) 3 (cond (eqb (state_check a) 4 || eqb (state_check b) 4) 4 0)
unfolding refusal state_check
refusal_checks a b = go (eqb (length a) state_length) (eqb (length b) state_length) (accepted (read_params a)) (accepted (read_params b))
  where
    check : Bool → Bool → ℕ
    check k p = cond k (cond p 0 4) 3

    go : (k l p q : Bool) → ◌≡◌ {A = ℕ} (cond (k && l) (cond (p && q) 0 4) 3) (cond (eqb (check k p) 3 || eqb (check l q) 3) 3 (cond (eqb (check k p) 4 || eqb (check l q) 4) 4 0))
    go true true true true = refl
    go true true true false = refl
    go true true false true = refl
    go true true false false = refl
    go true false true q = refl
    go true false false q = refl
    go false true p true = refl
    go false true p false = refl
    go false false p q = refl

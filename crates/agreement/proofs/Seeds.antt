-- The erasure seed of a decoder that began fresh is told by the number of frames that it concealed.
use Prim.Native.Nat.{ℕ, zero, suc, ◌+◌, ◌*◌, ◌%◌}
use mathlib.Core.Path.{◌≡◌, refl, sym, ap, ◌∙◌}
use mathlib.Core.Bool.{Bool, cond}
use mathlib.Core.List.{List, [], ◌∷◌, ◌++◌}
use mathlib.Core.Logic.{◌↔◌}
use native.Mathlib.Omega.{arith}
use lib.Dec.{T, eqb-suc-zero}
use lib.IntN.{ℤ, pos}
use borrow.Author.Tests.{lt-ltb}
use Rattle.laws.specs.Loops.{steps, steps_parts}
use Rattle.basic_op.specs.Ops.{low16}
use Rattle.tables.specs.Layout.{AcceptedTables}
use Rattle.fixed.specs.Fixed.{random, random_index}
use Rattle.fixed.specs.Draws.{draws, word}
use Rattle.fixed.specs.Period.{same_seed, period}
use Rattle.plc.specs.Kinds.{decide}
use Rattle.state.specs.State.{State, read_params, read, write, fresh_params, fresh, accepted_state}
use Rattle.state.specs.Laws.{Sized, read_sized, read_write, fresh_sized, fresh_accepted}
use Rattle.parameters.specs.Parts.{Parts}
use Rattle.decoder.specs.Frame.{decode}
use Rattle.decoder.specs.Call.{block}
use Rattle.accepted.specs.Lengths.{sized_after}
use Rattle.agreement.specs.Demand.{Call, FrameValues, frames, made}
use Rattle.agreement.specs.Run.{taken, frame_of, values_of, run, state_after, block_after}
use Rattle.agreement.specs.Gap.{begun, past, one_concealed, concealed, seed, seed_period, pulse_period, received}
use Rattle.agreement.proofs.Runs.{demand_2, accepted_after}

-- ---- one frame

-- kind 0 is not concealed, every other is
kind_0 : one_concealed 0 ≡ 0
unfolding one_concealed
kind_0 = refl

kind_above : (k : ℕ) → one_concealed (suc k) ≡ 1
unfolding one_concealed
kind_above k = ap (λ (b : Bool). cond b 1 0) (lt-ltb 0 (suc k) (omega arith))

-- four draws in a concealed frame, none in a voice frame
one_seed : (c : Call) (s : State) → (frame_of c s).state.params.seed ≡ draws (4 * one_concealed c.kind) s.params.seed
unfolding frame_of decode decide Parts random_index steps
one_seed c s = go c.kind refl
  where
    go : (k : ℕ) → c.kind ≡ k → (frame_of c s).state.params.seed ≡ draws (4 * one_concealed c.kind) s.params.seed
    go zero e = rw (e, kind_0)
    go (suc k) e = rw (e, eqb-suc-zero, kind_above k)

-- ---- a list of frames

-- the draws of m frames, then those of n
then : (m n : ℕ) (s : ℤ) → draws (4 * n) (draws (4 * m) s) ≡ draws (4 * (m + n)) s
then m n s =
    let e : 4 * m + 4 * n ≡ 4 * (m + n) = omega arith in
    sym (steps_parts (λ _ x. random x) (4 * m) (4 * n) s) ∙ ap (λ (k : ℕ). draws k s) e

pub run_seed : (cs : List Call) (s : State) → (state_after cs s).params.seed ≡ draws (4 * concealed (run cs s)) s.params.seed
unfolding state_after run concealed values_of steps
run_seed [] s = refl
run_seed (c ∷ cs) s =
    let n = concealed (run cs (frame_of c s).state) in
    let k = one_concealed c.kind in
    run_seed cs (frame_of c s).state ∙ ap (draws (4 * n)) (one_seed c s) ∙ then k n s.params.seed

-- ---- on blocks

pub sized_run : (cs : List Call) (s : State) → Sized s → Sized (state_after cs s)
unfolding state_after frame_of
sized_run [] s h = h
sized_run (c ∷ cs) s h = sized_run cs (frame_of c s).state (sized_after c.tables s h _)

written_seed : (s : State) → Sized s → seed (write s) ≡ s.params.seed
unfolding read read_params
written_seed s h = ap (λ (u : State). u.params.seed) (read_write s h)

-- what calls leave of an accepted block
seed_left : (cs : List Call) (b : List ℤ) → T (accepted_state b) → seed (block_after cs b) ≡ draws (4 * concealed (frames cs b)) (seed b)
unfolding read read_params
seed_left cs b ok =
    ap seed (demand_2.block_left cs b ok) ∙ written_seed _ (sized_run (taken cs) (read b) (read_sized b)) ∙ run_seed (taken cs) (read b)
    ∙ ap (λ (l : List FrameValues). draws (4 * concealed l) (seed b)) (sym (demand_2.from_block cs b ok))

fresh_seed : (t : List ℤ) → seed (write (fresh t)) ≡ pos 21845
unfolding fresh fresh_params
fresh_seed t = written_seed (fresh t) (fresh_sized t)

pub accepted_fresh : (t : List ℤ) → AcceptedTables t → T (accepted_state (write (fresh t)))
accepted_fresh t h = rw (fresh_accepted t h) tt

pub accepted_left : (cs : List Call) (b : List ℤ) → T (accepted_state b) → T (accepted_state (block_after cs b))
unfolding block_after
accepted_left [] b ok = ok
accepted_left (c ∷ cs) b ok = accepted_left cs (block (made c b)) (accepted_after c b ok)

pub accepted_begun : (t : List ℤ) → AcceptedTables t → (hs : List Call) → T (accepted_state (begun t hs))
accepted_begun t h hs = accepted_left hs (write (fresh t)) (accepted_fresh t h)

pub seed_is : (t : List ℤ) → AcceptedTables t → (hs : List Call) → seed (begun t hs) ≡ draws (4 * concealed (past t hs)) (pos 21845)
seed_is t h hs = seed_left hs (write (fresh t)) (accepted_fresh t h) ∙ ap (draws (4 * concealed (past t hs))) (fresh_seed t)

-- ---- two decoders that began fresh

fours : (m n : ℕ) → ((4 * m) % 65536 ≡ (4 * n) % 65536) ↔ (m % seed_period ≡ n % seed_period)
fours m n = (λ e. let f : 4 * (m % seed_period) ≡ 4 * (n % seed_period) = sym (four m) ∙ e ∙ four n in omega arith, λ e. four m ∙ ap (λ (k : ℕ). 4 * k) e ∙ sym (four n))
  where
    four : (m : ℕ) → (4 * m) % 65536 ≡ 4 * (m % seed_period)
    four m = omega arith

fresh_word : T (word (pos 21845))
unfolding word
fresh_word = tt

counted : (m n : ℕ) → (draws (4 * m) (pos 21845) ≡ draws (4 * n) (pos 21845)) ↔ (m % seed_period ≡ n % seed_period)
counted m n =
    let s = same_seed (pos 21845) fresh_word (4 * m) (4 * n) in
    (λ e. (fours m n).0 (s.0 e), λ e. s.1 ((fours m n).1 e))

pub seeds : (t : List ℤ) → AcceptedTables t → (hs ks : List Call) → (seed (begun t hs) ≡ seed (begun t ks)) ↔ (concealed (past t hs) % seed_period ≡ concealed (past t ks) % seed_period)
seeds t h hs ks =
    let c = counted (concealed (past t hs)) (concealed (past t ks)) in
    (λ e. c.0 (sym (seed_is t h hs) ∙ e ∙ seed_is t h ks), λ e. seed_is t h hs ∙ c.1 e ∙ sym (seed_is t h ks))

-- ---- and then received the same frames

calls_concealed : List Call → ℕ
calls_concealed [] = 0
calls_concealed (c ∷ cs) = one_concealed c.kind + calls_concealed cs

concealed_is : (vs : List FrameValues) → concealed vs ≡ calls_concealed (received vs)
unfolding concealed calls_concealed
concealed_is [] = refl
concealed_is (v ∷ vs) = ap (λ (n : ℕ). one_concealed v.call.kind + n) (concealed_is vs)

block_parts : (hs cs : List Call) (b : List ℤ) → block_after (hs ++ cs) b ≡ block_after cs (block_after hs b)
unfolding block_after
block_parts [] cs b = refl
block_parts (c ∷ hs) cs b = block_parts hs cs (block (made c b))

seed_then : (t : List ℤ) → AcceptedTables t → (hs cs : List Call) → seed (begun t (hs ++ cs)) ≡ draws (4 * (concealed (past t hs) + concealed (frames cs (begun t hs)))) (pos 21845)
seed_then t h hs cs =
    let k = concealed (frames cs (begun t hs)) in
    ap seed (block_parts hs cs (write (fresh t))) ∙ seed_left cs (begun t hs) (accepted_begun t h hs) ∙ ap (draws (4 * k)) (seed_is t h hs) ∙ then (concealed (past t hs)) k (pos 21845)

both_more : (m n k : ℕ) → ((m + k) % seed_period ≡ (n + k) % seed_period) ↔ (m % seed_period ≡ n % seed_period)
both_more m n k = (λ e. omega arith, λ e. omega arith)

pub seeds_stay : (t : List ℤ) (ha hb ca cb : List Call) → AcceptedTables t → received (frames ca (begun t ha)) ≡ received (frames cb (begun t hb))
    → (seed (begun t (ha ++ ca)) ≡ seed (begun t (hb ++ cb))) ↔ (seed (begun t ha) ≡ seed (begun t hb))
seeds_stay t ha hb ca cb h same =
    let m = concealed (past t ha) in
    let n = concealed (past t hb) in
    let k = concealed (frames ca (begun t ha)) in
    let seed_a : seed (begun t (ha ++ ca)) ≡ draws (4 * (m + k)) (pos 21845) = seed_then t h ha ca in
    let seed_b : seed (begun t (hb ++ cb)) ≡ draws (4 * (n + k)) (pos 21845) =
    seed_then t h hb cb ∙ ap (λ (c : ℕ). draws (4 * (n + c)) (pos 21845)) (concealed_is (frames cb (begun t hb)) ∙ ap calls_concealed (sym same) ∙ sym (concealed_is (frames ca (begun t ha)))) in
    let after = counted (m + k) (n + k) in
    let more = both_more m n k in
    let before = seeds t h ha hb in
    (λ e. before.1 (more.0 (after.0 (sym seed_a ∙ e ∙ seed_b))), λ e. seed_a ∙ after.1 (more.1 (before.0 e)) ∙ sym seed_b)

-- ---- the 13 low bits

pub low_seeds : (t : List ℤ) → AcceptedTables t → (hs ks : List Call) → concealed (past t hs) % pulse_period ≡ concealed (past t ks) % pulse_period → low16 (seed (begun t hs)) % 8192 ≡ low16 (seed (begun t ks)) % 8192
low_seeds t h hs ks e =
    let m = concealed (past t hs) in
    let n = concealed (past t ks) in
    ap (λ (s : ℤ). low16 s % 8192) (seed_is t h hs) ∙ (period.low_bits 13 (omega arith) (pos 21845) (4 * m) (4 * n)).1 (fours_13 m n e) ∙ sym (ap (λ (s : ℤ). low16 s % 8192) (seed_is t h ks))
  where
    four : (m : ℕ) → (4 * m) % 8192 ≡ 4 * (m % pulse_period)
    four m = omega arith

    fours_13 : (m n : ℕ) → m % pulse_period ≡ n % pulse_period → (4 * m) % 8192 ≡ (4 * n) % 8192
    fours_13 m n e = four m ∙ ap (λ (k : ℕ). 4 * k) e ∙ sym (four n)

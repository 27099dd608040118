-- How many words each stage gives: what a frame leaves has room in a state block. Assumes nothing.
use Rattle.std.specs.Prelude.{ℕ, zero, suc, ◌+◌, ◌≡◌, refl, Bool, true, false, cond, List, ℤ, pos, length, drop, set}
use Rattle.std.proofs.Common.{◌∙◌, length-set, length-drop}
use Rattle.std.proofs.Math.ListN.{length-append, length-replicate}
use Rattle.std.specs.Int.Signed.{lt_z, shr_z}
use Rattle.laws.specs.Lists.{at, length_tab}
use Rattle.laws.specs.Loops.{steps, length_run}
use Rattle.basic_op.specs.Ops.{add, sub}
use Rattle.sort.specs.Laws.{length_sort}
use Rattle.lsp_ma.specs.Ma.{ma_prediction, invert_ma_prediction}
use Rattle.lsp.specs.Lsp.{codebook_sum, spread_pair, enforce_spacing, new_row, order_and_bound, decode_lsf, erased_row, lsf_to_lsp}
use Rattle.adaptive.specs.Adaptive.{adaptive_vector}
use Rattle.gain.specs.Gain as gain
use Rattle.synth.specs.Laws.{length_excitation, length_reconstruct_exc, length_reconstruct_speech}
use Rattle.plc.specs.declared.Decision.{Decision}
use Rattle.plc.specs.declared.Decision.TheVariants.{Voice, Concealment}
use Rattle.state.specs.declared.Params.{Params}
use Rattle.state.specs.State.{Signal, State}
use Rattle.state.specs.Laws.{Sized}
use Rattle.parameters.specs.declared.Subframe.{Subframe}
use Rattle.parameters.specs.Parameters.{parameters}
use Rattle.parameters.specs.Parts.{Parts}
use Rattle.decoder.specs.declared.Buffers.{Buffers}
use Rattle.decoder.specs.Frame.{frame_buffers, subframe_signal, frame_signal, decode}

length_spread : (spacing : ℤ) (k : ℕ) (l : List ℤ) → length (spread_pair spacing k l) ≡ length l
unfolding spread_pair
length_spread spacing k l =
    let shortfall = add (sub (at l k) (at l (k + 1))) spacing in
    go (lt_z (pos 0) shortfall) (sub (at l k) (shr_z shortfall 2)) (add (at l (k + 1)) (shr_z shortfall 2))
  where
    go : (b : Bool) (x y : ℤ) → length (cond b (set (set l k x) (k + 1) y) l) ≡ length l
    go true x y = length-set (set l k x) (k + 1) y ∙ length-set l k x
    go false x y = refl

length_steps : (f : ℕ → List ℤ → List ℤ) → ((k : ℕ) (l : List ℤ) → length (f k l) ≡ length l) → (n : ℕ) (l : List ℤ) → length (steps f n l) ≡ length l
unfolding steps
length_steps f h zero l = refl
length_steps f h (suc n) l = h n (steps f n l) ∙ length_steps f h n l

length_spacing : (spacing : ℤ) (l : List ℤ) → length (enforce_spacing spacing l) ≡ length l
unfolding enforce_spacing
length_spacing spacing l = length_steps (spread_pair spacing) (length_spread spacing) 9 l

length_row : (t : List ℤ) (l1 l2 l3 : ℕ) → length (new_row t l1 l2 l3) ≡ 10
unfolding new_row codebook_sum
length_row t l1 l2 l3 = simp (length_spacing, length_tab)

length_lsf : (t : List ℤ) (l0 : ℕ) (l : List ℤ) (past : List (List ℤ)) → length (decode_lsf t l0 l past) ≡ 10
unfolding decode_lsf order_and_bound ma_prediction
length_lsf t l0 l past = simp (length-set, length_run, length_sort, length_tab)

length_erased : (t : List ℤ) (predictor : ℤ) (omega : List ℤ) (past : List (List ℤ)) → length (erased_row t predictor omega past) ≡ 10
unfolding erased_row invert_ma_prediction
length_erased t predictor omega past = length_tab 10 _

length_lsp : (scale : ℤ) (l : List ℤ) → length (lsf_to_lsp scale l) ≡ 10
unfolding lsf_to_lsp
length_lsp scale l = length_tab 10 _

length_push : (mem : List ℤ) (u : ℤ) → length (gain.push mem u) ≡ 4
unfolding gain.push
length_push mem u = refl

length_vector : (b30 : List ℤ) (second : Bool) (t0 frac : ℤ) (exc : List ℤ) → length (adaptive_vector b30 second t0 frac exc) ≡ length exc
unfolding adaptive_vector
length_vector b30 second t0 frac exc = length_run _ _ 40 exc

length_exc : (t : List ℤ) (second : Bool) (v : Subframe) (b : Buffers) → length (subframe_signal t second v b).exc ≡ length b.exc
unfolding subframe_signal
length_exc t second v b = length_reconstruct_exc _ _ _ _ ∙ length_excitation _ _ _ _ _ ∙ length_vector _ _ _ _ _

length_speech : (t : List ℤ) (second : Bool) (v : Subframe) (b : Buffers) → length (subframe_signal t second v b).speech ≡ length b.speech
unfolding subframe_signal
length_speech t second v b = length_reconstruct_speech _ _ _ _

module _ (t : List ℤ) (first second : Subframe) (s : Signal) where
  past_kept : length s.past ≡ 154 → length (drop 80 (frame_signal t first second s).exc) ≡ 154
  unfolding frame_signal frame_buffers
  past_kept h = simp (length-drop, length_exc, length-append, length-replicate, h)

  tail_kept : length s.tail ≡ 10 → length (drop 80 (frame_signal t first second s).speech) ≡ 10
  unfolding frame_signal frame_buffers
  tail_kept h = simp (length-drop, length_speech, length-append, length-replicate, h)

-- parameters that fit a state block
record Fitting (p : Params) : Type 0 where
  r0 : length p.r0 ≡ 10
  r1 : length p.r1 ≡ 10
  r2 : length p.r2 ≡ 10
  r3 : length p.r3 ≡ 10
  omega : length p.omega ≡ 10
  lsp : length p.lsp ≡ 10
  mem : length p.gain.mem ≡ 4

module _ (t : List ℤ) (s : State) (k : Sized s) where
  fitting : (d : Decision) → Fitting (parameters t d s.params).params
  unfolding Parts gain.decode gain.conceal
  fitting (Voice f) =
      record { r0 = length_row _ _ _ _; r1 = k.r0; r2 = k.r1; r3 = k.r2; omega = length_lsf _ _ _ _; lsp = length_lsp _ _; mem = length_push _ _ }
  fitting Concealment =
      record { r0 = length_erased _ _ _ _; r1 = k.r0; r2 = k.r1; r3 = k.r2; omega = k.omega; lsp = length_lsp _ _; mem = length_push _ _ }

  -- a frame on a state that fits a block leaves one that does
  pub sized_after : (d : Decision) → Sized (decode t d s).state
  unfolding decode
  sized_after d =
      let f = fitting d in
      record {
        r0 = f.r0;
        r1 = f.r1;
        r2 = f.r2;
        r3 = f.r3;
        omega = f.omega;
        lsp = f.lsp;
        mem = f.mem;
        past = past_kept t _ _ s.signal k.past;
        tail = tail_kept t _ _ s.signal k.tail;
      }

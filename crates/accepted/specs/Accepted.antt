-- A frame leaves an accepted state (01, "Operations and their refusals", Frame): its predictor and its delay are in range, so no later call is refused for the state. Assumes nothing.
use Rattle.std.specs.Prelude.{ℕ, zero, suc, ◌%◌, ◌<◌, ◌≡◌, refl, ◌&&◌, List, T, leb, ℤ, pos, negsuc}
use Rattle.std.proofs.Common.{arith, mod-lt, lit<}
use Rattle.std.specs.Float.Ieee.Bits.{is_true}
use Rattle.std.specs.Int.Signed.{le_z}
use Rattle.std.proofs.Math.Facts.{and_yes, yes_and, leb_yes, yes_leb}
use Rattle.pitch.specs.Pitch.{parity_ok, first, second, erased}
use Rattle.pitch.specs.Laws.{second_range, erased_range}
use Rattle.plc.specs.declared.Decision.{Decision}
use Rattle.plc.specs.declared.Decision.TheVariants.{Voice, Concealment}
use Rattle.plc.specs.Kinds.{decide}
use Rattle.state.specs.declared.Params.{Params}
use Rattle.state.specs.State.{State, read_params, read, write, delay_in_range, predictor_in_range, accepted, state_check}
use Rattle.state.specs.Laws.{read_sized, accepted_write, accepted_of_check, check_of_accepted, accepted_parts}
use Rattle.parameters.specs.Parameters.{parameters}
use Rattle.parameters.specs.Parts.{Parts}
use Rattle.decoder.specs.Frame.{decode}
use Rattle.decoder.specs.Call.{number, block, frame}
use Rattle.decoder.specs.Laws.{frame_done, frame_refused}
use Rattle.accepted.specs.Lengths.{sized_after}

wider : (z : ℤ) → T (le_z (pos 19) z && le_z z (pos 143)) → T (delay_in_range z)
unfolding delay_in_range
wider (pos n) h =
    let p = and_yes (leb 19 n) (leb n 143) h in
    yes_and (leb 19 n) (leb n 144) p.0 (yes_leb {a = n} {b = 144} (omega (arith, leb_yes {a = n} {b = 143} p.1)))
wider (negsuc n) h = absurd h

-- an erased subframe carries a delay in range
erased_good : (old : ℤ) → T (delay_in_range old) → T (delay_in_range (erased old).state.old)
unfolding delay_in_range
erased_good old h = wider (erased old).state.old (erased_range old (and_yes (le_z (pos 19) old) (le_z old (pos 144)) h).0)

predictor_good : (n : ℕ) → n < 2 → T (predictor_in_range (pos n))
unfolding predictor_in_range
predictor_good n h = yes_and (leb 0 n) (leb n 1) (yes_leb {a = 0} {b = n} (omega arith)) (yes_leb {a = n} {b = 1} (omega arith))

module _ (p : Params) (ok : T (accepted p)) where
  carried_predictor : T (predictor_in_range p.predictor)
  unfolding accepted
  carried_predictor = (and_yes (predictor_in_range p.predictor) (delay_in_range p.pitch.old) ok).0

  pub carried_delay : T (delay_in_range p.pitch.old)
  unfolding accepted
  carried_delay = (and_yes (predictor_in_range p.predictor) (delay_in_range p.pitch.old) ok).1

  pub accepted_after_frame : (t : List ℤ) (d : Decision) → T (accepted (parameters t d p).params)
  unfolding accepted Parts delay_in_range
  accepted_after_frame t (Voice f) =
      let t1 = (first p.pitch.old f.p1 (parity_ok f.p1 f.p0)).delay.integer in
      yes_and (predictor_in_range (pos (f.l0 % 2))) (delay_in_range (second f.p2 t1).state.old)
      (predictor_good (f.l0 % 2) (mod-lt f.l0 (lit< tt)))
      (second_range f.p2 t1)
  accepted_after_frame t Concealment =
      let once = (erased p.pitch.old).state.old in
      yes_and (predictor_in_range p.predictor) (delay_in_range (erased once).state.old) carried_predictor (erased_good once (erased_good p.pitch.old carried_delay))

-- ---- blocks

pub decode_accepted : (t : List ℤ) (d : Decision) (b : List ℤ) → state_check b ≡ 0 → state_check (write (decode t d (read b)).state) ≡ 0
unfolding decode read
decode_accepted t d b h =
    let s : State = (decode t d (read b)).state in
    let ok : T (accepted (read_params b)) = rw (accepted_parts b (accepted_of_check b h)).1 tt in
    check_of_accepted (write s) (accepted_write s (sized_after t (read b) (read_sized b) d) (is_true (accepted s.params) (accepted_after_frame (read_params b) ok t d)))

-- whatever a frame call answers
pub frame_accepted : (t b : List ℤ) (kind : ℕ) (payload : List ℕ) (out : List ℤ) → state_check b ≡ 0 → state_check (block (frame t b kind payload out)) ≡ 0
frame_accepted t b kind payload out h = go (number (frame t b kind payload out)) refl
  where
    go : (k : ℕ) → number (frame t b kind payload out) ≡ k → state_check (block (frame t b kind payload out)) ≡ 0
    go zero e = rw (frame_done t b kind payload out e).0 (decode_accepted t (decide kind payload) b h)
    go (suc k) e = rw (frame_refused t b kind payload out (λ z. omega arith)).0 h

-- From an accepted block the calls give what the stages' run of specs/Run.antt gives, and so from the fresh state: demand 2.
use Prim.Native.Nat.{ℕ, zero, suc}
use mathlib.Core.Path.{◌≡◌, refl, sym, ap, ap₂, ◌∙◌}
use mathlib.Core.List.{List, [], ◌∷◌, map}
use native.Mathlib.Omega.{arith}
use lib.Dec.{T, eqb, eqb-suc-zero}
use lib.Ieee.Bits.{is_true}
use lib.IntN.{ℤ, pos}
use lib.ListN.{length, replicate, length-replicate}
use mir.Facts.{and_yes}
use Rattle.tables.specs.Layout.{AcceptedTables}
use Rattle.state.specs.State.{read_params, read, write, fresh, accepted, state_check, accepted_state}
use Rattle.plc.specs.Kinds.{decide}
use Rattle.state.specs.Laws.{Sized, read_sized, read_write, write_read, fresh_sized, fresh_accepted, accepted_of_check, check_of_accepted, accepted_parts}
use Rattle.decoder.specs.Call.{first_of, refusal, number, block, output, frame}
use Rattle.decoder.specs.Laws.{frame_number, frame_done, frame_refused}
use Rattle.accepted.specs.Lengths.{sized_after}
use Rattle.accepted.specs.Accepted.{decode_accepted, frame_accepted}
use Rattle.agreement.specs.Demand.{Call, made, answers, values, frames, AcceptedAfter, AnyOutput}
use Rattle.agreement.specs.Run.{code, taken, frame_of, values_of, run, state_after, block_after, Demand2}

-- ---- one call on an accepted block

pub accepted_params : (b : List ℤ) → T (accepted_state b) → T (accepted (read b).params)
unfolding accepted_state read
accepted_params b ok = (and_yes (eqb (length b) 234) (accepted (read_params b)) ok).1

checked : (b : List ℤ) → T (accepted_state b) → state_check b ≡ 0
checked b ok = check_of_accepted b (is_true (accepted_state b) ok)

pub accepted_after : AcceptedAfter
unfolding made
accepted_after c b ok = rw (accepted_of_check _ (frame_accepted c.tables b c.kind c.payload (replicate c.room (pos 0)) (checked b ok))) tt

module _ (c : Call) (b : List ℤ) (ok : T (accepted_state b)) where
  pub made_number : number (made c b) ≡ code c
  unfolding made refusal code first_of
  made_number = frame_number _ _ _ _ _ ∙ rw (checked b ok, length-replicate)

  pub made_frame : code c ≡ 0 → (block (made c b) ≡ write (frame_of c (read b)).state) × (output (made c b) ≡ (frame_of c (read b)).samples)
  unfolding made frame_of
  made_frame e = frame_done _ _ _ _ _ (made_number ∙ e)

  pub made_none : (k : ℕ) → code c ≡ suc k → block (made c b) ≡ b
  unfolding made
  made_none k e = (frame_refused c.tables b c.kind c.payload (replicate c.room (pos 0)) (λ z. omega (arith, made_number))).0

  sized : Sized (frame_of c (read b)).state
  unfolding frame_of
  sized = sized_after c.tables (read b) (read_sized b) _

  pub read_after : read (write (frame_of c (read b)).state) ≡ (frame_of c (read b)).state
  read_after = read_write _ sized

  pub left_accepted : T (accepted_state (write (frame_of c (read b)).state))
  unfolding frame_of
  left_accepted = rw (accepted_of_check _ (decode_accepted c.tables (decide c.kind c.payload) b (checked b ok))) tt

  values_are : code c ≡ 0 → values c b ≡ values_of c (read b)
  unfolding values values_of frame_of read
  values_are e = rw (made_frame e).1

-- ---- all calls

pub answers_are : (cs : List Call) (b : List ℤ) → T (accepted_state b) → answers cs b ≡ map code cs
unfolding answers
answers_are [] b ok = refl
answers_are (c ∷ cs) b ok = ap₂ ◌∷◌ (made_number c b ok) (answers_are cs _ (accepted_after c b ok))

-- the frames of the calls and the block that they leave are those of the run
record Ran (cs : List Call) (b : List ℤ) : Type 0 where
  frames_are : frames cs b ≡ run (taken cs) (read b)
  block_is : block_after cs b ≡ write (state_after (taken cs) (read b))

ran : (cs : List Call) (b : List ℤ) → T (accepted_state b) → Ran cs b
unfolding frames run taken block_after state_after
ran [] b ok = record { frames_are = refl; block_is = sym (write_read b (accepted_parts b (is_true (accepted_state b) ok)).0) }
ran (c ∷ cs) b ok = go (code c) refl (ran cs _ (left_accepted c b ok)) (ran cs b ok)
  where
    go : (k : ℕ) → code c ≡ k → Ran cs (write (frame_of c (read b)).state) → Ran cs b → Ran (c ∷ cs) b
    go zero e r s =
        let x = read_after c b ok in
        record {
          frames_are = rw (made_number c b ok, e, (made_frame c b ok e).0) (ap₂ ◌∷◌ (values_are c b ok e) (r.frames_are ∙ ap (run (taken cs)) x));
          block_is = rw (e, (made_frame c b ok e).0) (r.block_is ∙ ap (λ y. write (state_after (taken cs) y)) x);
        }
    go (suc k) e r s =
        record {
          frames_are = rw (made_number c b ok, e, eqb-suc-zero, made_none c b ok k e) s.frames_are;
          block_is = rw (e, eqb-suc-zero, made_none c b ok k e) s.block_is;
        }

pub frames_are : (cs : List Call) (b : List ℤ) → T (accepted_state b) → frames cs b ≡ run (taken cs) (read b)
frames_are cs b ok = (ran cs b ok).frames_are

pub demand_2 : Demand2
demand_2 =
    record {
      answered = answers_are;
      from_block = frames_are;
      block_left = λ cs b ok. (ran cs b ok).block_is;
      answered_from_fresh = λ t e cs. answers_are cs (write (fresh t)) (begins t e);
      from_fresh = λ t e cs. frames_are cs (write (fresh t)) (begins t e) ∙ ap (run (taken cs)) (holds t);
      block_left_from_fresh = λ t e cs. (ran cs (write (fresh t)) (begins t e)).block_is ∙ ap (λ x. write (state_after (taken cs) x)) (holds t);
    }
  where
    begins : (t : List ℤ) → AcceptedTables t → T (accepted_state (write (fresh t)))
    begins t e = rw (fresh_accepted t e) tt

    holds : (t : List ℤ) → read (write (fresh t)) ≡ fresh t
    holds t = read_write (fresh t) (fresh_sized t)

-- ---- the output's old words

pub any_output : AnyOutput
unfolding made frame
any_output c b out h = go (refusal c.tables b c.kind c.payload c.room) refl
  where
    go : (k : ℕ) → refusal c.tables b c.kind c.payload c.room ≡ k →
        let x = frame c.tables b c.kind c.payload out in
        let y = made c b in
        (number x ≡ number y) × (block x ≡ block y) × (number y ≡ 0 → output x ≡ output y)
    go zero e = rw (h, length-replicate, e) (refl, refl, λ z. refl)
    go (suc k) e = rw (h, length-replicate, e, eqb-suc-zero) (refl, refl, λ z. absurd (omega arith))

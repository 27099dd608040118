-- What `agree` answers of two state blocks holds of all frames that both decoders then receive, and it says something of what five common voice frames leave (`states_agree`, `told_after_five` of specs/Gap.antt).
use Prim.Native.Nat.{ℕ, zero, suc, ◌≤◌}
use mathlib.Core.Path.{◌≡◌, refl, sym, ap, ◌∙◌}
use mathlib.Core.Bool.{Bool, true, false, cond}
use mathlib.Core.List.{List}
use lib.Dec.{T, lit≤, eqb-suc-zero}
use lib.IntN.{ℤ}
use lib.ListN.{length}
use lib.Ieee.Bits.{is_true}
use Rattle.std.specs.Prelude.{Result, Ok, Err}
use Rattle.state.specs.State.{read, accepted_state}
use Rattle.state.specs.Laws.{read_sized, read_write}
use Rattle.agree.specs.declared.Agreement.{Agreement}
use Rattle.agree.specs.declared.Agreement.TheVariants as agreed
use Rattle.agree.specs.Agree.{same_parameters, same_seed_bits, same_signal, refusal, agreement, agree}
use Rattle.agree.specs.Laws.{parameters_equal, equal_parameters, seed_bits_equal, signal_equal, agree_accepted, accepted_agree}
use Rattle.agreement.specs.Demand.{Call, frames}
use Rattle.agreement.specs.Run.{taken, run, state_after, block_after}
use Rattle.agreement.specs.Gap.{received, Common, ParametersAgree, Foretold, Told}
use Rattle.agreement.proofs.Runs.{demand_2}
use Rattle.agreement.proofs.Agree.{begins}
use Rattle.agreement.proofs.Seeds.{sized_run, accepted_left}
use Rattle.agreement.proofs.Gap.{Same, same_params, params_same, Near, Rest, gap, same_taken, run_a, run_b, left_same}

module _ (a b : List ℤ) (ca cb : List Call) (same : received (frames ca a) ≡ received (frames cb b)) where
  holds : Result Agreement ℕ → Type 0
  holds r = Foretold r (frames ca a) (frames cb b)

  module _ (ok : refusal a b ≡ 0) (e : same_parameters a b ≡ true) where
    ok_a : T (accepted_state a)
    ok_a = rw (agree_accepted a b ok).0 tt

    ok_b : T (accepted_state b)
    ok_b = rw (agree_accepted a b ok).1 tt

    all : Rest 5 (Near (read a).params (read b).params) (run (taken ca) (read a)) (run (taken ca) (read b))
    unfolding read
    all = gap 5 (lit≤ tt) (taken ca) (read a) (read b) (same_params _ _ (parameters_equal a b e))

    x : frames ca a ≡ run (taken ca) (read a)
    x = run_a ca cb a b ok_a ok_b same

    y : frames cb b ≡ run (taken ca) (read b)
    y = run_b ca cb a b ok_a ok_b same

    parameters_hold : ParametersAgree (frames ca a) (frames cb b)
    parameters_hold =
        let u = all.values in
        record {
          delays_all = rw (x, y) u.delays;
          pitch_gains_all = rw (x, y) u.pitch;
          fixed_gains_all = rw (x, y) u.fixed;
          frequencies_all = rw (x, y) u.lsf;
          filters_all = rw (x, y) u.filters;
        }

    near : same_seed_bits a b ≡ true → Near (read a).params (read b).params
    unfolding read
    near d = seed_bits_equal a b d

    pulses_hold : same_seed_bits a b ≡ true → holds (Ok agreed.Pulses)
    unfolding holds
    pulses_hold d = (parameters_hold, rw (x, y) (all.pulses (near d)))

    samples_hold : same_seed_bits a b ≡ true → same_signal a b ≡ true → holds (Ok agreed.Samples)
    unfolding holds read
    samples_hold d s = (parameters_hold, (pulses_hold d).1, rw (x, y) (all.samples (near d) 0 (lit≤ tt) (begins (taken ca) (read a) (read b) (signal_equal a b s))))

    by : (p q : Bool) → same_seed_bits a b ≡ p → same_signal a b ≡ q → holds (Ok (cond p (cond q agreed.Samples agreed.Pulses) agreed.Parameters))
    unfolding holds
    by true true d s = samples_hold d s
    by true false d s = pulses_hold d
    by false q d s = parameters_hold

  pub states_agree : Foretold (agree a b) (frames ca a) (frames cb b)
  unfolding holds agree agreement
  states_agree = go (refusal a b) refl
    where
      not_refused : refusal a b ≡ 0 → (p : Bool) → same_parameters a b ≡ p → holds (Ok (cond p (cond (same_seed_bits a b) (cond (same_signal a b) agreed.Samples agreed.Pulses) agreed.Parameters) agreed.Nothing))
      not_refused ok true e = by ok e (same_seed_bits a b) (same_signal a b) refl refl
      not_refused ok false e = tt

      go : (n : ℕ) → refusal a b ≡ n → Foretold (agree a b) (frames ca a) (frames cb b)
      go zero ok = rw ok (not_refused ok (same_parameters a b) refl)
      go (suc n) e = rw (e, eqb-suc-zero) tt

-- ---- what common frames leave, once five were voice frames in a row

-- the state that calls leave of an accepted block
pub read_left : (cs : List Call) (b : List ℤ) → T (accepted_state b) → read (block_after cs b) ≡ state_after (taken cs) (read b)
read_left cs b ok = ap read (demand_2.block_left cs b ok) ∙ read_write _ (sized_run (taken cs) (read b) (read_sized b))

told : (a b : List ℤ) → T (accepted_state a) → T (accepted_state b) → Same (read a).params (read b).params → Told (agree a b)
unfolding agree agreement read
told a b ok_a ok_b e =
    rw (accepted_agree a b (is_true (accepted_state a) ok_a) (is_true (accepted_state b) ok_b), equal_parameters a b (params_same _ _ e)) (by (same_seed_bits a b) (same_signal a b))
  where
    by : (p q : Bool) → Told (Ok (cond p (cond q agreed.Samples agreed.Pulses) agreed.Parameters))
    by true true = tt
    by true false = tt
    by false q = tt

pub told_after_five : (ca cb : List Call) (a b : List ℤ) → T (accepted_state a) → T (accepted_state b) → Common 5 (frames ca a) (frames cb b) → 5 ≤ length (frames ca a)
    → Told (agree (block_after ca a) (block_after cb b))
told_after_five ca cb a b ok_a ok_b k l =
    let x = read_left ca a ok_a in
    let y : read (block_after cb b) ≡ state_after (taken ca) (read b) = read_left cb b ok_b ∙ ap (λ (c : List Call). state_after c (read b)) (sym (same_taken ca cb a b ok_a ok_b k.same)) in
    told (block_after ca a) (block_after cb b) (accepted_left ca a ok_a) (accepted_left cb b ok_b) (rw (x, y) (left_same ca cb a b ok_a ok_b k l))

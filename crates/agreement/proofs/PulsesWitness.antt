-- Pulses can't be told modulo 1,024 (`pulses_1024` of specs/Gap.antt): a fresh decoder and one that lost 1,024 frames, then six common voice frames and a lost one. The draws of the 1,024 frames are computed, nothing
-- else of them: six voice frames leave all but the seed equal.
use Prim.Native.Nat.{ℕ, zero, suc, ◌*◌, ◌%◌}
use mathlib.Core.Path.{◌≡◌, refl, sym, ap, ◌∙◌}
use mathlib.Core.List.{List, [], ◌∷◌, ◌++◌}
use mathlib.Core.Logic.{◌≢◌}
use lib.Dec.{T, lit≤}
use lib.IntN.{ℤ, pos, negsuc}
use lib.ListN.{replicate}
use Rattle.laws.specs.Lists.{at}
use Rattle.laws.specs.Loops.{steps, steps_none}
use Rattle.basic_op.specs.Ops.{low16, extract_l}
use Rattle.fixed.specs.Fixed.{random, random_index}
use Rattle.fixed.specs.Draws.{draws}
use Rattle.pitch.specs.Pitch as pitch
use Rattle.gain.specs.Gain as gain
use Rattle.plc.specs.Kinds.{decide}
use Rattle.state.specs.declared.Params.{Params}
use Rattle.state.specs.State as state
use Rattle.state.specs.State.{State, write, fresh}
use Rattle.parameters.specs.Parts.{Parts}
use Rattle.decoder.specs.Frame.{decode}
use Rattle.agreement.specs.Demand.{Call, frames, only, All, octets, Real}
use Rattle.agreement.specs.Run.{taken, frame_of, values_of, run, state_after}
use Rattle.agreement.specs.Gap.{begun, past, one_concealed, concealed, pulses, Common, GapDiffers}
use Rattle.agreement.proofs.Agree.{at_start}
use Rattle.agreement.proofs.Witness.{tables, call, is, front, apart}
use Rattle.agreement.proofs.Seeds.{run_seed}
use Rattle.agreement.proofs.Gap.{with_seed, Same, codes, lead_left}
use Rattle.agreement.proofs.GapWitness.{kept, real_fresh, lost, accepted_here, all_lost, lost_count, past_count, Gapped, frames_begun, common}

unfoldable with_gap : List Call
with_gap = call ∷ call ∷ call ∷ call ∷ call ∷ call ∷ lost ∷ []

unfoldable six : List Call
six = call ∷ call ∷ call ∷ call ∷ call ∷ call ∷ []

unfoldable Listed : Type 0
unfolding Gapped with_gap six
Listed = Unit {0}

-- what a concealed frame reads for its pulses
unfoldable Concealed : Type 0
unfolding random random_index pitch.increased pitch.erased pitch.concealed_delays gain.conceal gain.conceal_pitch_gain
Concealed = Unit {0}

taken_all : taken with_gap ≡ with_gap
unfolding Listed
taken_all = refl

frames_run : (hs : List Call) → frames with_gap (begun tables hs) ≡ run with_gap (state_after (taken hs) (fresh tables))
frames_run hs = frames_begun with_gap hs ∙ ap (λ (l : List Call). run l (state_after (taken hs) (fresh tables))) taken_all

draws_4096 : draws 4096 (pos 21845) ≡ negsuc 15018
unfolding steps random extract_l low16
draws_4096 = refl

-- after six voice frames all but the seed is equal, whatever was before them
after_six : (a b : State) → Same (state_after six a).params (state_after six b).params
unfolding Listed
after_six a b = lead_left 0 4 refl six a b (lit≤ tt) (refl, (refl, (refl, (refl, (refl, tt))))) (at_start a.params b.params) (λ e. (tt, tt))

none_concealed : (s : State) → concealed (run six s) ≡ 0
unfolding concealed one_concealed run values_of call six
none_concealed s = refl

seed_six : (s : State) → (state_after six s).params.seed ≡ s.params.seed
seed_six s = run_seed six s ∙ ap (λ (n : ℕ). draws (4 * n) s.params.seed) (none_concealed s) ∙ sym (steps_none (λ _ x. random x) s.params.seed)

-- the pulses of the lost frame behind them, by its draws
drawn : ℤ → Params → List ℤ × List ℤ
drawn x p =
    let w = random_index x in
    let u = random_index w.seed in
    codes tables w.index w.sign u.index u.sign p

pulses_7 : (s : State) → only 7 pulses (run with_gap s) ≡ drawn (state_after six s).params.seed (with_seed (pos 0) (state_after six s).params) ∷ []
unfolding drawn codes with_seed with_gap six lost run state_after values_of frame_of decode decide Parts
pulses_7 s = refl

unfoldable past_b : List Call
past_b = replicate 1024 lost

-- the seed behind 1,024 lost frames
seed_b : (state_after (taken past_b) (fresh tables)).params.seed ≡ negsuc 15018
unfolding past_b state.fresh state.fresh_params
seed_b =
    run_seed (taken (replicate 1024 lost)) (fresh tables)
    ∙ ap (λ (l : List Call). draws (4 * concealed (run l (fresh tables))) (pos 21845)) (all_lost 1024)
    ∙ ap (λ (n : ℕ). draws (4 * n) (pos 21845)) (lost_count 1024 (fresh tables))
    ∙ draws_4096

pulses_b : only 7 pulses (run with_gap (state_after (taken past_b) (fresh tables))) ≡ drawn (negsuc 15018) (with_seed (pos 0) (state_after six (fresh tables)).params) ∷ []
pulses_b =
    let s = state_after (taken past_b) (fresh tables) in
    let e : (state_after six s).params.seed ≡ negsuc 15018 = seed_six s ∙ seed_b in
    let h = after_six s (fresh tables) in
    pulses_7 s ∙ (λ i. drawn (e i) (h.is i) ∷ [])

pulses_a : only 7 pulses (run with_gap (state_after (taken []) (fresh tables))) ≡ drawn (pos 21845) (with_seed (pos 0) (state_after six (fresh tables)).params) ∷ []
unfolding taken state_after state.fresh state.fresh_params
pulses_a = let e = seed_six (fresh tables) in pulses_7 (fresh tables) ∙ (λ i. drawn (e i) (with_seed (pos 0) (state_after six (fresh tables)).params) ∷ [])

-- word 8 of the second subframe
word_8 : List ℤ × List ℤ → ℤ
word_8 x = at x.1 8

word_8_a : word_8 (drawn (pos 21845) (with_seed (pos 0) (state_after six (fresh tables)).params)) ≡ pos 0
unfolding word_8 drawn codes with_seed Listed Concealed
word_8_a = refl

word_8_b : word_8 (drawn (negsuc 15018) (with_seed (pos 0) (state_after six (fresh tables)).params)) ≡ negsuc 8191
unfolding word_8 drawn codes with_seed Listed Concealed
word_8_b = refl

pulses_differ : only 7 pulses (run with_gap (state_after (taken []) (fresh tables))) ≢ only 7 pulses (run with_gap (state_after (taken past_b) (fresh tables)))
unfolding is front
pulses_differ = apart (front (λ x. is 0 (word_8 x))) pulses_a pulses_b (rw word_8_a tt) (rw word_8_b)

common_six : Common 6 (frames with_gap (begun tables [])) (frames with_gap (begun tables past_b))
unfolding Listed
common_six = common 6 with_gap past_b (refl, (refl, (refl, (refl, (refl, (refl, tt)))))) (tt, tt)

tables_a : All (λ c. c.tables ≡ tables) with_gap
unfolding call lost with_gap
tables_a = (refl, (refl, (refl, (refl, (refl, (refl, (refl, tt)))))))

behind : (n : ℕ) → All (λ c. c.tables ≡ tables) (replicate n lost ++ with_gap)
unfolding lost
behind zero = tables_a
behind (suc n) = (refl, behind n)

tables_b : All (λ c. c.tables ≡ tables) (past_b ++ with_gap)
unfolding past_b
tables_b = behind 1024

count_b : concealed (past tables past_b) ≡ 1024
unfolding past_b
count_b = past_count 1024

lost_seven : only 7 (λ v. one_concealed v.call.kind) (run (taken with_gap) (state_after (taken []) (fresh tables))) ≡ 1 ∷ []
unfolding Listed one_concealed
lost_seven = refl

payloads : (n : ℕ) → All (λ c. T (octets c.payload)) (replicate n lost ++ (with_gap ++ with_gap))
unfolding octets Listed
payloads zero = (tt, (tt, (tt, (tt, (tt, (tt, (tt, (tt, (tt, (tt, (tt, (tt, (tt, (tt, tt))))))))))))))
payloads (suc n) = (tt, payloads n)

real : Real tables ([] ++ (past_b ++ (with_gap ++ with_gap))) (write (fresh tables)) (write (fresh tables))
unfolding past_b
real = record { tables = real_fresh.0; state_a = real_fresh.1; state_b = real_fresh.1; payloads = payloads 1024 }

pub pulses_1024 : GapDiffers 6 1024 7 pulses
pulses_1024 =
    record {
      t = tables;
      ha = [];
      hb = past_b;
      ca = with_gap;
      cb = with_gap;
      real = real;
      met = record { tables = accepted_here; kept_a = kept tables accepted_here with_gap tables_a; kept_b = kept tables accepted_here (past_b ++ with_gap) tables_b; common = common_six };
      counts = ap (λ (n : ℕ). n % 1024) (past_count 0) ∙ sym (ap (λ (n : ℕ). n % 1024) count_b);
      lost = ap (only 7 (λ v. one_concealed v.call.kind)) (frames_begun with_gap []) ∙ lost_seven;
      differ = λ e. pulses_differ (sym (ap (only 7 pulses) (frames_run [])) ∙ e ∙ ap (only 7 pulses) (frames_run past_b));
    }

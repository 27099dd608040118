-- The counts of specs/Gap.antt can't be less: no modulus but the multiples of 16,384 tells whether seeds are equal, and four common voice frames are too few (one table block, two pasts and one list of six
-- frames, computed).
use Prim.Native.Nat.{ℕ, zero, suc, ◌+◌, ◌*◌, ◌%◌}
use mathlib.Core.Path.{◌≡◌, refl, sym, ap, ◌∙◌, subst}
use mathlib.Core.List.{List, [], ◌∷◌, ◌++◌}
use mathlib.Core.Logic.{◌≢◌}
use native.Mathlib.Nat.{add-mul-mod_self_right}
use native.Mathlib.Omega.{arith}
use lib.Dec.{T, eqb-suc-zero}
use lib.IntN.{ℤ, pos, negsuc}
use lib.ListN.{take, replicate}
use Rattle.laws.specs.Lists.{at}
use Rattle.tables.specs.Layout as layout
use Rattle.tables.specs.Formula as formula
use Rattle.state.specs.State as state
use Rattle.state.specs.State.{State, read, write, fresh}
use Rattle.state.specs.Laws.{read_write, fresh_sized}
use Rattle.agreement.specs.Demand.{Call, FrameValues, frames, filters, only, All, PassesParity, words, octets, Real}
use Rattle.agreement.specs.Run.{code, taken, frame_of, values_of, run, state_after}
use Rattle.agreement.specs.Gap.{begun, past, one_concealed, concealed, seed_period, received, Common, Kept, SeedsDiffer, GapDiffers}
use Rattle.agreement.proofs.Runs.{demand_2, frames_are}
use Rattle.agreement.proofs.Compute.{Run}
use Rattle.agreement.proofs.Witness.{tables, call, Shown, is, front, apart}
use Rattle.agreement.proofs.Seeds.{accepted_begun, sized_run, seeds}
use Rattle.agreement.proofs.Gap.{received_run}

-- ---- lists of calls that all have table block t

kept_run : (t : List ℤ) (cs : List Call) (s : State) → All (λ c. c.tables ≡ t) cs → Kept t (run (taken cs) s)
unfolding taken run values_of
kept_run t [] s h = tt
kept_run t (c ∷ cs) s h = go (code c) refl (λ s. kept_run t cs s h.1)
  where
    go : (k : ℕ) → code c ≡ k → ((s : State) → Kept t (run (taken cs) s)) → Kept t (run (taken (c ∷ cs)) s)
    go zero e r = rw e (h.0, r (frame_of c s).state)
    go (suc k) e r = rw (e, eqb-suc-zero) (r s)

pub kept : (t : List ℤ) → layout.AcceptedTables t → (cs : List Call) → All (λ c. c.tables ≡ t) cs → Kept t (past t cs)
kept t h cs a = subst (Kept t) (sym (demand_2.from_fresh t h cs)) (kept_run t cs (fresh t) a)

-- ---- no smaller modulus: a decoder that lost m frames, and a fresh one

-- the table block is that of proofs/Witness.antt

unfoldable pub lost : Call
lost = record { tables = tables; kind = 3; payload = []; room = 80 }

unfoldable Lost : Type 0
unfolding Run Shown lost
Lost = Unit {0}

pub accepted_here : layout.AcceptedTables tables
unfolding Lost
accepted_here = refl

lost_taken : code lost ≡ 0
unfolding Lost
lost_taken = refl

pub all_lost : (n : ℕ) → taken (replicate n lost) ≡ replicate n lost
unfolding taken
all_lost zero = refl
all_lost (suc n) = rw lost_taken (ap (λ (l : List Call). lost ∷ l) (all_lost n))

lost_tables : (n : ℕ) → All (λ c. c.tables ≡ tables) (replicate n lost)
unfolding lost
lost_tables zero = tt
lost_tables (suc n) = (refl, lost_tables n)

pub lost_count : (n : ℕ) (s : State) → concealed (run (replicate n lost) s) ≡ n
unfolding concealed one_concealed run values_of lost
lost_count zero s = refl
lost_count (suc n) s = ap (λ (k : ℕ). 1 + k) (lost_count n (frame_of lost s).state) ∙ omega arith

pub past_count : (n : ℕ) → concealed (past tables (replicate n lost)) ≡ n
past_count n = ap concealed (demand_2.from_fresh tables accepted_here (replicate n lost)) ∙ ap (λ (l : List Call). concealed (run l (fresh tables))) (all_lost n) ∙ lost_count n (fresh tables)

pub no_smaller : (m : ℕ) → m % seed_period ≢ 0 → SeedsDiffer m
no_smaller m h =
    record {
      t = tables;
      hs = replicate m lost;
      ks = replicate 0 lost;
      tables = accepted_here;
      kept_a = kept tables accepted_here (replicate m lost) (lost_tables m);
      kept_b = kept tables accepted_here (replicate 0 lost) (lost_tables 0);
      counts = ap (λ (n : ℕ). n % m) (past_count m) ∙ whole m ∙ sym (ap (λ (n : ℕ). n % m) (past_count 0));
      differ = λ e. h (sym (ap (λ (n : ℕ). n % seed_period) (past_count m)) ∙ (seeds tables accepted_here (replicate m lost) (replicate 0 lost)).0 e ∙ ap (λ (n : ℕ). n % seed_period) (past_count 0));
    }
  where
    whole : (m : ℕ) → m % m ≡ 0 % m
    whole m = let e : m ≡ 0 + 1 * m = omega arith in ap (λ (n : ℕ). n % m) e ∙ add-mul-mod_self_right 0 1 m

-- ---- four common voice frames are too few: the last past row of frame 4 is still of before frame 1

-- one voice frame
unfoldable hb : List Call
hb = call ∷ []

-- four voice frames, then two lost
unfoldable cs : List Call
cs = call ∷ call ∷ call ∷ call ∷ lost ∷ lost ∷ []

unfoldable pub Gapped : Type 0
unfolding Lost hb cs state.fresh state.fresh_params formula.lsp_quantizer_initial_memory formula.gain_predictor_initial_memory state_after
Gapped = Unit {0}

-- what a past leaves
read_begun : (t : List ℤ) → layout.AcceptedTables t → (hs : List Call) → read (begun t hs) ≡ state_after (taken hs) (fresh t)
read_begun t h hs = ap read (demand_2.block_left_from_fresh t h hs) ∙ read_write _ (sized_run (taken hs) (fresh t) (fresh_sized t))

pub frames_begun : (cs hs : List Call) → frames cs (begun tables hs) ≡ run (taken cs) (state_after (taken hs) (fresh tables))
frames_begun cs hs = frames_are cs (begun tables hs) (accepted_begun tables accepted_here hs) ∙ ap (run (taken cs)) (read_begun tables accepted_here hs)

-- one list behind two pasts, the first of them empty
pub common : (m : ℕ) (cs hs : List Call) → All (λ v. v.call.kind ≡ 0) (take m (run (taken cs) (fresh tables))) → All PassesParity (take 1 (run (taken cs) (fresh tables)))
    → Common m (frames cs (begun tables [])) (frames cs (begun tables hs))
unfolding taken state_after
common m cs hs voices passes =
    record {
      same = ap received (frames_begun cs []) ∙ received_run (taken cs) _ ∙ sym (ap received (frames_begun cs hs) ∙ received_run (taken cs) _);
      voice = subst (λ (l : List FrameValues). All (λ v. v.call.kind ≡ 0) (take m l)) (sym (frames_begun cs [])) voices;
      parity = subst (λ (l : List FrameValues). All PassesParity (take 1 l)) (sym (frames_begun cs [])) passes;
    }

filters_a : only 6 filters (run (taken cs) (state_after (taken []) (fresh tables))) ≡ (
  (pos 4096 ∷ pos 32441 ∷ negsuc 17525 ∷ negsuc 11836 ∷ pos 31827 ∷ negsuc 22533 ∷ pos 22534 ∷ pos 1011 ∷ pos 32367 ∷ pos 29797 ∷ negsuc 3765 ∷ []),
  (pos 4096 ∷ pos 32439 ∷ negsuc 17517 ∷ negsuc 11857 ∷ pos 31821 ∷ negsuc 22554 ∷ pos 22555 ∷ pos 982 ∷ pos 32363 ∷ pos 29797 ∷ negsuc 3765 ∷ []),
) ∷ []
unfolding Gapped
filters_a = refl

filters_b : only 6 filters (run (taken cs) (state_after (taken hb) (fresh tables))) ≡ (
  (pos 4096 ∷ pos 24579 ∷ negsuc 12307 ∷ pos 0 ∷ pos 0 ∷ pos 0 ∷ pos 0 ∷ pos 16419 ∷ negsuc 22502 ∷ pos 24579 ∷ pos 4096 ∷ []),
  (pos 4096 ∷ pos 24577 ∷ negsuc 12298 ∷ pos 0 ∷ pos 0 ∷ pos 0 ∷ pos 0 ∷ pos 16401 ∷ negsuc 22515 ∷ pos 24578 ∷ pos 4096 ∷ []),
) ∷ []
unfolding Gapped
filters_b = refl

filters_differ : only 6 filters (run (taken cs) (state_after (taken hb) (fresh tables))) ≢ only 6 filters (run (taken cs) (state_after (taken []) (fresh tables)))
unfolding is front
filters_differ = apart (front (λ x. is 4096 (at x.0 10))) filters_b filters_a tt refl

common_four : Common 4 (frames cs (begun tables [])) (frames cs (begun tables hb))
unfolding Gapped
common_four = common 4 cs hb (refl, (refl, (refl, (refl, tt)))) (tt, tt)

tables_a : All (λ c. c.tables ≡ tables) cs
unfolding call lost cs
tables_a = (refl, (refl, (refl, (refl, (refl, (refl, tt))))))

tables_b : All (λ c. c.tables ≡ tables) (hb ++ cs)
unfolding call hb
tables_b = (refl, tables_a)

-- tables and fresh block are words of 16 bits
pub real_fresh : T (words tables) × T (words (write (fresh tables)))
unfolding words Gapped state.write state.write_params state.lsp_params state.excitation_params
real_fresh = (tt, tt)

real : Real tables ([] ++ (hb ++ (cs ++ cs))) (write (fresh tables)) (write (fresh tables))
unfolding octets Gapped
real = record { tables = real_fresh.0; state_a = real_fresh.1; state_b = real_fresh.1; payloads = (tt, (tt, (tt, (tt, (tt, (tt, (tt, (tt, (tt, (tt, (tt, (tt, (tt, tt))))))))))))) }

voice_count : concealed (run (taken hb) (fresh tables)) ≡ 0
unfolding Gapped concealed one_concealed
voice_count = refl

count_b : concealed (past tables hb) ≡ 0
count_b = ap concealed (demand_2.from_fresh tables accepted_here hb) ∙ voice_count

lost_six : only 6 (λ v. one_concealed v.call.kind) (run (taken cs) (state_after (taken []) (fresh tables))) ≡ 1 ∷ []
unfolding Gapped one_concealed
lost_six = refl

pub after_four : GapDiffers 4 seed_period 6 filters
after_four =
    record {
      t = tables;
      ha = [];
      hb = hb;
      ca = cs;
      cb = cs;
      real = real;
      met = record { tables = accepted_here; kept_a = kept tables accepted_here cs tables_a; kept_b = kept tables accepted_here (hb ++ cs) tables_b; common = common_four };
      counts = ap (λ (n : ℕ). n % seed_period) (past_count 0 ∙ sym count_b);
      lost = ap (only 6 (λ v. one_concealed v.call.kind)) (frames_begun cs []) ∙ lost_six;
      differ = λ e. filters_differ (sym (ap (only 6 filters) (frames_begun cs hb)) ∙ sym e ∙ ap (only 6 filters) (frames_begun cs []));
    }

-- The counts 3, 5 and 6 of demand 3 can't be less: one table block, two states and one list of five frames, computed.
use Prim.Native.Nat.{ℕ}
use mathlib.Core.Path.{◌≡◌, refl, sym, subst, ◌∙◌}
use mathlib.Core.Bool.{Bool, false}
use mathlib.Core.List.{List, [], ◌∷◌, ◌++◌}
use mathlib.Core.Logic.{◌≢◌}
use lib.Dec.{T, eqb}
use lib.IntN.{ℤ, pos, negsuc}
use lib.ListN.{take, replicate}
use Rattle.laws.specs.Lists.{at}
use Rattle.state.specs.State.{read}
use Rattle.agreement.specs.Demand.{Call, FrameValues, frames, only, delays, fixed_gains, frequencies, filters, All, VoiceWith, PassesParity, Handed, Alike, words, octets, Real, Differ, Demand3, ParityNeeded}
use Rattle.agreement.specs.Run.{taken, run}
use Rattle.agreement.proofs.Runs.{frames_are}
use Rattle.agreement.proofs.Agree.{agreement}
use Rattle.agreement.proofs.Compute.{Run}

unfoldable pub zeros : ℕ → List ℤ
zeros n = replicate n (pos 0)

-- 0 but: word 1639, the weight of the oldest row in the last frequency, 32767; 1752 of the gain codebook 16384; the initial delay 60;
-- 1872 of the gain prediction 32767; 1876, the scale of frequencies, 20000; 1878, their upper bound, 32767
unfoldable pub tables : List ℤ
tables =
    zeros 1639 ++ (pos 32767 ∷ (zeros 112 ++ (pos 16384 ∷ (zeros 114 ++ (pos 60 ∷ (zeros 4 ++ (pos 32767 ∷ (zeros 3 ++ (pos 20000 ∷ (pos 0 ∷
    pos 32767 ∷ pos 0 ∷ []))))))))))

-- delay 60, all else 0
unfoldable pub left : List ℤ
left = zeros 61 ++ (pos 60 ∷ zeros 172)

-- besides, 32767 in the newest row's last word and in the newest of the gain memory
unfoldable pub right : List ℤ
right = zeros 9 ++ (pos 32767 ∷ (zeros 51 ++ (pos 60 ∷ pos 0 ∷ pos 32767 ∷ zeros 170)))

-- P0 = 1, all else 0
unfoldable pub call : Call
call = record { tables = tables; kind = 0; payload = 0 ∷ 0 ∷ 0 ∷ 32 ∷ 0 ∷ 0 ∷ 0 ∷ 0 ∷ 0 ∷ 0 ∷ []; room = 80 }

unfoldable pub calls : List Call
calls = replicate 5 call

unfoldable pub Shown : Type 0
unfolding zeros tables left right call calls
Shown = Unit {0}

-- ---- the conditions hold

alike : Alike tables calls left right
unfolding Run Shown
alike =
    record {
      handed = record { tables = refl; start_a = tt; start_b = tt; voice = on_run (All (VoiceWith tables)) (v, (v, (v, (v, (v, tt))))) };
      parity = on_run (λ l. All PassesParity (take 1 l)) (tt, tt);
    }
  where
    v : (call.kind ≡ 0) × (call.tables ≡ tables)
    v = (refl, refl)

    on_run : (P : List FrameValues → Type 0) → P (run (taken calls) (read left)) → P (frames calls left)
    on_run P x = subst P (sym (frames_are calls left tt)) x

real : Real tables calls left right
unfolding words octets Shown
real = record { tables = tt; state_a = tt; state_b = tt; payloads = (tt, (tt, (tt, (tt, (tt, tt))))) }

-- ---- the values that differ, on the run that computes no samples

gains_left : only 2 fixed_gains (run (taken calls) (read left)) ≡ (pos 4, pos 4) ∷ []
unfolding Run Shown
gains_left = refl

gains_right : only 2 fixed_gains (run (taken calls) (read right)) ≡ (pos 7510, pos 269) ∷ []
unfolding Run Shown
gains_right = refl

lsf_left : only 4 frequencies (run (taken calls) (read left)) ≡ (pos 0 ∷ pos 0 ∷ pos 0 ∷ pos 0 ∷ pos 0 ∷ pos 0 ∷ pos 0 ∷ pos 0 ∷ pos 0 ∷ pos 0 ∷ []) ∷ []
unfolding Run Shown
lsf_left = refl

lsf_right : only 4 frequencies (run (taken calls) (read right)) ≡ (pos 0 ∷ pos 0 ∷ pos 0 ∷ pos 0 ∷ pos 0 ∷ pos 0 ∷ pos 0 ∷ pos 0 ∷ pos 0 ∷ pos 32766 ∷ []) ∷ []
unfolding Run Shown
lsf_right = refl

filters_left : only 5 filters (run (taken calls) (read left)) ≡ (
  (pos 4096 ∷ pos 24579 ∷ negsuc 12307 ∷ pos 0 ∷ pos 0 ∷ pos 0 ∷ pos 0 ∷ pos 16419 ∷ negsuc 22502 ∷ pos 24579 ∷ pos 4096 ∷ []),
  (pos 4096 ∷ pos 24577 ∷ negsuc 12298 ∷ pos 0 ∷ pos 0 ∷ pos 0 ∷ pos 0 ∷ pos 16401 ∷ negsuc 22515 ∷ pos 24578 ∷ pos 4096 ∷ []),
) ∷ []
unfolding Run Shown
filters_left = refl

filters_right : only 5 filters (run (taken calls) (read right)) ≡ (
  (pos 4096 ∷ pos 28672 ∷ pos 16386 ∷ pos 0 ∷ pos 0 ∷ pos 0 ∷ pos 0 ∷ pos 16419 ∷ negsuc 28596 ∷ negsuc 4115 ∷ pos 2 ∷ []),
  (pos 4096 ∷ pos 24577 ∷ negsuc 12298 ∷ pos 0 ∷ pos 0 ∷ pos 0 ∷ pos 0 ∷ pos 16401 ∷ negsuc 22515 ∷ pos 24578 ∷ pos 4096 ∷ []),
) ∷ []
unfolding Run Shown
filters_right = refl

-- ---- they differ

-- x is n
unfoldable pub is : ℕ → ℤ → Bool
is n (pos m) = eqb m n
is n (negsuc m) = false

-- p of the first member
unfoldable pub front : {A : Type 0} → (A → Bool) → List A → Bool
front p [] = false
front p (x ∷ l) = p x

-- two values of which a test tells them apart
pub apart : {A : Type 0} (p : A → Bool) {x y u v : A} → x ≡ u → y ≡ v → T (p u) → p v ≡ false → x ≢ y
apart p e g t n h = subst T n (subst (λ z. T (p z)) (sym e ∙ h ∙ g) t)

gains_differ : only 2 fixed_gains (run (taken calls) (read left)) ≢ only 2 fixed_gains (run (taken calls) (read right))
unfolding is front
gains_differ = apart (front (λ x. is 4 x.0)) gains_left gains_right tt refl

lsf_differ : only 4 frequencies (run (taken calls) (read left)) ≢ only 4 frequencies (run (taken calls) (read right))
unfolding is front
lsf_differ = apart (front (λ x. is 0 (at x 9))) lsf_left lsf_right tt refl

filters_differ : only 5 filters (run (taken calls) (read left)) ≢ only 5 filters (run (taken calls) (read right))
unfolding is front
filters_differ = apart (front (λ x. is 4096 (at x.0 10))) filters_left filters_right tt refl

shown : {A : Type 0} (n : ℕ) (f : FrameValues → A) → only n f (run (taken calls) (read left)) ≢ only n f (run (taken calls) (read right)) → Differ n f
shown n f d =
    record {
      t = tables;
      cs = calls;
      a = left;
      b = right;
      real = real;
      alike = alike;
      differ = rw (frames_are calls left alike.handed.start_a, frames_are calls right alike.handed.start_b) d;
    }

-- ---- demand 3, whole

pub demand_3 : Demand3
demand_3 =
    record {
      agree = agreement;
      fixed_gains_at_2 = shown 2 fixed_gains gains_differ;
      frequencies_at_4 = shown 4 frequencies lsf_differ;
      filters_at_5 = shown 5 filters filters_differ;
    }

-- ---- without parity

-- delay 61, all else 0
unfoldable later : List ℤ
later = zeros 61 ++ (pos 61 ∷ zeros 172)

-- ten zero bytes, which fail parity
unfoldable zero_call : Call
zero_call = record { tables = tables; kind = 0; payload = replicate 10 0; room = 80 }

unfoldable Failed : Type 0
unfolding Shown later zero_call
Failed = Unit {0}

delay_left : only 1 delays (run (taken (zero_call ∷ [])) (read left)) ≡ (record { integer = pos 60; fraction = pos 0 }, record { integer = pos 54; fraction = pos 1 }) ∷ []
unfolding Run Failed
delay_left = refl

delay_later : only 1 delays (run (taken (zero_call ∷ [])) (read later)) ≡ (record { integer = pos 61; fraction = pos 0 }, record { integer = pos 55; fraction = pos 1 }) ∷ []
unfolding Run Failed
delay_later = refl

delays_differ : only 1 delays (run (taken (zero_call ∷ [])) (read left)) ≢ only 1 delays (run (taken (zero_call ∷ [])) (read later))
unfolding is front
delays_differ = apart (front (λ x. is 60 x.0.integer)) delay_left delay_later tt refl

handed : Handed tables (zero_call ∷ []) left later
unfolding Run Failed
handed = record { tables = refl; start_a = tt; start_b = tt; voice = subst (All (VoiceWith tables)) (sym (frames_are (zero_call ∷ []) left tt)) ((refl, refl), tt) }

real_failed : Real tables (zero_call ∷ []) left later
unfolding words octets Failed
real_failed = record { tables = tt; state_a = tt; state_b = tt; payloads = (tt, tt) }

pub parity_needed : ParityNeeded
parity_needed =
    record {
      t = tables;
      cs = zero_call ∷ [];
      a = left;
      b = later;
      real = real_failed;
      handed = handed;
      differ = rw (frames_are (zero_call ∷ []) left handed.start_a, frames_are (zero_call ∷ []) later handed.start_b) delays_differ;
    }

-- Two decoders through a gap that both meet (change request 13): they began fresh with the same tables, have unlike pasts, and then receive the same frames, six voice
-- frames first. In the terms of specs/Demand.antt: a decoder is a state block and the calls made on it. docs/AGREEMENT.md lays this file beside the request.
use Rattle.std.specs.Prelude.{ℕ, ◌+◌, ◌*◌, ◌%◌, ◌^◌, ◌≤◌, ◌≡◌, cond, Result, Ok, Err, List, [], ◌∷◌, ◌++◌, map, ◌↔◌, ◌≢◌, T, ltb, ℤ, pos, length, take}
use Rattle.laws.specs.Lists.{at}
use Rattle.basic_op.specs.Ops.{low16}
use Rattle.tables.specs.Layout.{AcceptedTables}
use Rattle.fixed.specs.Draws.{draws, Period}
use Rattle.state.specs.State.{write, fresh, accepted_state}
use Rattle.agree.specs.declared.Agreement.{Agreement}
use Rattle.agree.specs.declared.Agreement.TheVariants.{Nothing, Parameters, Pulses, Samples}
use Rattle.agree.specs.Agree.{agree}
use Rattle.agreement.specs.Demand.{Call, FrameValues, frames, delays, pitch_gains, fixed_gains, frequencies, filters, signal_before, samples, from, only, All, PassesParity, Real}
use Rattle.agreement.specs.Run.{block_after}

-- ---- a decoder from fresh

-- the block that calls leave of a fresh one, and the frames among them: a refused call is no frame
abbrev pub begun : List ℤ → List Call → List ℤ
begun t hs = block_after hs (write (fresh t))

abbrev pub past : List ℤ → List Call → List FrameValues
past t hs = frames hs (write (fresh t))

-- the number of concealed frames: 1 for each of kinds 1, 2 and 3
unfoldable pub one_concealed : ℕ → ℕ
one_concealed kind = cond (ltb 0 kind) 1 0

unfoldable pub concealed : List FrameValues → ℕ
concealed [] = 0
concealed (v ∷ vs) = one_concealed v.call.kind + concealed vs

-- the erasure seed, word 62
abbrev pub seed : List ℤ → ℤ
seed b = at b 62

-- the 13 low bits of two seeds are equal: pulses are made of these
abbrev pub SeedBits : List ℤ → List ℤ → Type 0
SeedBits a b = low16 (seed a) % 2 ^ 13 ≡ low16 (seed b) % 2 ^ 13

-- the number of concealed frames after which the seed returns: 65,536 draws, four a frame
abbrev pub seed_period : ℕ
seed_period = 16384

-- and after which its 13 low bits do
abbrev pub pulse_period : ℕ
pulse_period = 2048

-- the pulses, as the excitation has them: the codevector of each subframe, sharpened (for positions and signs: `low_drawn` of `Period`)
abbrev pub pulses : FrameValues → List ℤ × List ℤ
pulses v = (v.decoded.first.code, v.decoded.second.code)

-- ---- the conditions

-- the calls that were frames
abbrev pub received : List FrameValues → List Call
received vs = map (λ v. v.call) vs

-- the frames are the same, though each decoder may have refused calls of its own between them; the first m are voice, the first passes parity, and what follows is of any kind
pub record Common (m : ℕ) (vs ws : List FrameValues) : Type 0 where
  pub same : received vs ≡ received ws
  pub voice : All (λ v. v.call.kind ≡ 0) (take m vs)
  pub parity : All PassesParity (take 1 vs)

-- every frame has table block t
abbrev pub Kept : List ℤ → List FrameValues → Type 0
Kept t vs = All (λ v. v.call.tables ≡ t) vs

-- two decoders that began fresh with t and kept it in every call; behind their pasts ha and hb they receive ca and cb, whose first m frames are common voice frames in a row
pub record Met (m : ℕ) (t : List ℤ) (ha hb ca cb : List Call) : Type 0 where
  pub tables : AcceptedTables t
  pub kept_a : Kept t (past t (ha ++ ca))
  pub kept_b : Kept t (past t (hb ++ cb))
  pub common : Common m (frames ca (begun t ha)) (frames cb (begun t hb))

-- ---- the claims on the frames that both receive

-- delays, gains and filter coefficients are equal, in concealed frames too
pub record Through (vs ws : List FrameValues) : Type 0 where
  pub delays_from_1 : from 1 delays vs ≡ from 1 delays ws
  pub pitch_gains_from_1 : from 1 pitch_gains vs ≡ from 1 pitch_gains ws
  pub fixed_gains_from_3 : from 3 fixed_gains vs ≡ from 3 fixed_gains ws
  pub frequencies_from_5 : from 5 frequencies vs ≡ from 5 frequencies ws
  pub filters_from_6 : from 6 filters vs ≡ from 6 filters ws

-- the pulses are equal too; and the samples of every frame n from 6 on and of all later ones, where past excitation and last ten samples are equal before frame n
pub record SamePulses (vs ws : List FrameValues) : Type 0 where
  pub pulses_from_2 : from 2 pulses vs ≡ from 2 pulses ws
  pub samples_from_6 : (n : ℕ) → 6 ≤ n → only n signal_before vs ≡ only n signal_before ws → from n samples vs ≡ from n samples ws

-- ---- the request

pub record Gap : Type 0 where
  -- after six common voice frames delays, gains and filter coefficients agree through whatever common frames follow
  pub through : (t : List ℤ) (ha hb ca cb : List Call) → Met 6 t ha hb ca cb → Through (frames ca (begun t ha)) (frames cb (begun t hb))
  -- two decoders that began fresh have equal seeds exactly when the numbers of frames that they concealed agree modulo 16,384
  pub seeds : (t : List ℤ) → AcceptedTables t → (hs ks : List Call) → (seed (begun t hs) ≡ seed (begun t ks)) ↔ (concealed (past t hs) % seed_period ≡ concealed (past t ks) % seed_period)
  -- because each of these frames draws four times, no other frame draws, and the draw visits all 65,536 seeds before it returns
  pub seed_is : (t : List ℤ) → AcceptedTables t → (hs : List Call) → seed (begun t hs) ≡ draws (4 * concealed (past t hs)) (pos 21845)
  pub period : Period
  -- where the seeds agree, the pulses agree too; seeds that agree before the common frames agree in all of them (`seeds_stay`)
  pub same_pulses : (t : List ℤ) (ha hb ca cb : List Call) → Met 6 t ha hb ca cb → seed (begun t ha) ≡ seed (begun t hb) → SamePulses (frames ca (begun t ha)) (frames cb (begun t hb))

-- ---- beside the request

-- two pasts whose numbers of concealed frames agree modulo m, but not the seeds; through common frames these stay unequal (`seeds_stay`)
pub record SeedsDiffer (m : ℕ) : Type 0 where
  pub t : List ℤ
  pub hs : List Call
  pub ks : List Call
  pub tables : AcceptedTables t
  pub kept_a : Kept t (past t hs)
  pub kept_b : Kept t (past t ks)
  pub counts : concealed (past t hs) % m ≡ concealed (past t ks) % m
  pub differ : seed (begun t hs) ≢ seed (begun t ks)

-- two decoders that have met after m common voice frames, with numbers of concealed frames that agree modulo p; their frame n is concealed, and the values f of it differ.
-- By `same` of `Common` both have frame n or neither has, so this is a value that differs
pub record GapDiffers {A : Type 0} (m p n : ℕ) (f : FrameValues → A) : Type 0 where
  pub t : List ℤ
  pub ha : List Call
  pub hb : List Call
  pub ca : List Call
  pub cb : List Call
  pub real : Real t (ha ++ (hb ++ (ca ++ cb))) (write (fresh t)) (write (fresh t))
  pub met : Met m t ha hb ca cb
  pub counts : concealed (past t ha) % p ≡ concealed (past t hb) % p
  pub lost : only n (λ v. one_concealed v.call.kind) (frames ca (begun t ha)) ≡ 1 ∷ []
  pub differ : only n f (frames ca (begun t ha)) ≢ only n f (frames cb (begun t hb))

-- delays, gains, frequencies and filter coefficients are equal from the first frame on
pub record ParametersAgree (vs ws : List FrameValues) : Type 0 where
  pub delays_all : from 1 delays vs ≡ from 1 delays ws
  pub pitch_gains_all : from 1 pitch_gains vs ≡ from 1 pitch_gains ws
  pub fixed_gains_all : from 1 fixed_gains vs ≡ from 1 fixed_gains ws
  pub frequencies_all : from 1 frequencies vs ≡ from 1 frequencies ws
  pub filters_all : from 1 filters vs ≡ from 1 filters ws

-- what each answer of `agree` on two state blocks says of the frames that both then receive
abbrev pub Foretold : Result Agreement ℕ → List FrameValues → List FrameValues → Type 0
Foretold (Err n) vs ws = Unit {0}
Foretold (Ok Nothing) vs ws = Unit {0}
Foretold (Ok Parameters) vs ws = ParametersAgree vs ws
Foretold (Ok Pulses) vs ws = ParametersAgree vs ws × (from 1 pulses vs ≡ from 1 pulses ws)
Foretold (Ok Samples) vs ws = ParametersAgree vs ws × (from 1 pulses vs ≡ from 1 pulses ws) × (from 1 samples vs ≡ from 1 samples ws)

-- an answer that says something
abbrev pub Told : Result Agreement ℕ → Type 0
Told (Err n) = ⊥
Told (Ok Nothing) = ⊥
Told (Ok Parameters) = Unit {0}
Told (Ok Pulses) = Unit {0}
Told (Ok Samples) = Unit {0}

pub record BesideGap : Type 0 where
  -- five common voice frames give all that six give, from every two accepted states, whatever they hold, and with any tables
  pub after_five : (ca cb : List Call) (a b : List ℤ) → T (accepted_state a) → T (accepted_state b) → Common 5 (frames ca a) (frames cb b)
      → Through (frames ca a) (frames cb b) × (SeedBits a b → SamePulses (frames ca a) (frames cb b))
  -- four don't, even where the seeds are equal: the filters of a concealed frame 6 can still differ
  pub after_four : GapDiffers 4 seed_period 6 filters
  -- numbers that agree modulo m make the seeds equal for the multiples of 16,384 alone: not for 8,192
  pub no_smaller : (m : ℕ) → m % seed_period ≢ 0 → SeedsDiffer m
  -- common frames make no seeds equal, and none unequal
  pub seeds_stay : (t : List ℤ) (ha hb ca cb : List Call) → AcceptedTables t → received (frames ca (begun t ha)) ≡ received (frames cb (begun t hb))
      → (seed (begun t (ha ++ ca)) ≡ seed (begun t (hb ++ cb))) ↔ (seed (begun t ha) ≡ seed (begun t hb))
  -- pulses are made of the 13 low bits of a seed alone: they agree where the numbers of concealed frames agree modulo 2,048
  pub same_low_bits : (t : List ℤ) (ha hb ca cb : List Call) → Met 6 t ha hb ca cb → concealed (past t ha) % pulse_period ≡ concealed (past t hb) % pulse_period
      → SamePulses (frames ca (begun t ha)) (frames cb (begun t hb))
  -- modulo 1,024 isn't enough
  pub pulses_1024 : GapDiffers 6 1024 7 pulses
  -- what `agree` answers of two state blocks holds of all frames that the decoders then receive in common, of any kinds
  pub states_agree : (a b : List ℤ) (ca cb : List Call) → received (frames ca a) ≡ received (frames cb b) → Foretold (agree a b) (frames ca a) (frames cb b)
  -- and it says something of what common frames leave, once five of them were voice frames in a row
  pub told_after_five : (ca cb : List Call) (a b : List ℤ) → T (accepted_state a) → T (accepted_state b) → Common 5 (frames ca a) (frames cb b) → 5 ≤ length (frames ca a)
      → Told (agree (block_after ca a) (block_after cb b))

-- Demand 3, "the count of voice frames until two decoders agree", as one claim over the list of frame calls (01, "Two decoders on one
-- list"). A decoder is a state block and the calls made on it: each call gets the block as the call before left it. What a call does
-- is `frame` of decoder.specs.Call, which the frame call is proved to do. docs/AGREEMENT.md lays this file beside the demand.
use Rattle.std.specs.Prelude.{ℕ, ◌-◌, ◌≤◌, ◌≡◌, Bool, true, cond, ◌&&◌, List, [], ◌∷◌, map, ◌≢◌, T, eqb, ltb, ℤ, pos, negsuc, length, drop, take, replicate}
use Rattle.std.specs.Int.Signed.{le_z}
use Rattle.tables.specs.Layout.{AcceptedTables}
use Rattle.bitstream.specs.Fields.{unpack}
use Rattle.pitch.specs.declared.Delay.{Delay}
use Rattle.pitch.specs.Pitch.{parity_ok}
use Rattle.plc.specs.Kinds.{decide}
use Rattle.state.specs.State.{Signal, read, read_signal, delay_in_range, accepted_state}
use Rattle.parameters.specs.declared.Decoded.{Decoded}
use Rattle.decoder.specs.Frame.{decode}
use Rattle.decoder.specs.Call.{Answer, number, block, output, frame}

-- ---- a call

-- what a frame call is handed beside the state block; of the output only its length, since its old words are not read (`AnyOutput`)
pub record Call : Type 0 where
  pub tables : List ℤ
  pub kind : ℕ
  pub payload : List ℕ
  pub room : ℕ

-- the call on state block b, its output 0 before it
unfoldable pub made : Call → List ℤ → Answer
made c b = frame c.tables b c.kind c.payload (replicate c.room (pos 0))

-- ---- a list of calls on a state block

-- the number that each call returns
unfoldable pub answers : List Call → List ℤ → List ℕ
answers [] b = []
answers (c ∷ cs) b = number (made c b) ∷ answers cs (block (made c b))

-- a decoder's values at one frame
pub record FrameValues : Type 0 where
  -- the call
  pub call : Call
  -- what the stages give for it: the two subframes, and the parameters, the line spectral frequencies among them
  pub decoded : Decoded
  -- words 70 to 223 and words 224 to 233 of the block before it: past excitation and last ten samples
  pub before : Signal
  -- the 80 samples that the call writes
  pub samples : List ℤ

unfoldable pub values : Call → List ℤ → FrameValues
values c b =
    record {
      call = c;
      decoded = (decode c.tables (decide c.kind c.payload) (read b)).decoded;
      before = read_signal b;
      samples = output (made c b);
    }

-- the values of frame 1, frame 2 and so on: frame n is the n-th call that returns 0, and a refused call is no frame
unfoldable pub frames : List Call → List ℤ → List FrameValues
frames [] b = []
frames (c ∷ cs) b =
    let later = frames cs (block (made c b)) in
    cond (eqb (number (made c b)) 0) (values c b ∷ later) later

-- ---- what is compared; a pair has the first subframe's and the second's

-- the delay and the fraction that each subframe uses
abbrev pub delays : FrameValues → Delay × Delay
delays v = (v.decoded.first.delay, v.decoded.second.delay)

-- the pitch gain and the fixed gain that each subframe decodes
abbrev pub pitch_gains : FrameValues → ℤ × ℤ
pitch_gains v = (v.decoded.first.gp, v.decoded.second.gp)

abbrev pub fixed_gains : FrameValues → ℤ × ℤ
fixed_gains v = (v.decoded.first.gc, v.decoded.second.gc)

-- the ten line spectral frequencies after order and bounds
abbrev pub frequencies : FrameValues → List ℤ
frequencies v = v.decoded.params.omega

-- the coefficients of synthesis in each subframe
abbrev pub filters : FrameValues → List ℤ × List ℤ
filters v = (v.decoded.first.a, v.decoded.second.a)

-- past excitation and last ten samples before the frame
abbrev pub signal_before : FrameValues → Signal
signal_before v = v.before

abbrev pub samples : FrameValues → List ℤ
samples v = v.samples

-- f of frame n and of every later frame; f of frame n alone
abbrev pub from : {A : Type 0} → ℕ → (FrameValues → A) → List FrameValues → List A
from n f l = map f (drop (n - 1) l)

abbrev pub only : {A : Type 0} → ℕ → (FrameValues → A) → List FrameValues → List A
only n f l = map f (take 1 (drop (n - 1) l))

-- P of every member
abbrev pub All : {A : Type 0} → (A → Type 0) → List A → Type 0
All P [] = Unit {0}
All P (x ∷ xs) = P x × All P xs

-- a voice frame with table block t
abbrev pub VoiceWith : List ℤ → FrameValues → Type 0
VoiceWith t v = (v.call.kind ≡ 0) × (v.call.tables ≡ t)

abbrev pub PassesParity : FrameValues → Type 0
PassesParity v = let f = unpack v.call.payload in T (parity_ok f.p1 f.p0)

-- ---- the conditions

-- an accepted table block, two accepted states, whatever they hold, and a list of calls handed alike to both, each a voice frame with that
-- table block or refused. Which calls return 0 is asked of decoder a: `answered` below says that b's return 0 too.
pub record Handed (t : List ℤ) (cs : List Call) (a b : List ℤ) : Type 0 where
  pub tables : AcceptedTables t
  pub start_a : T (accepted_state a)
  pub start_b : T (accepted_state b)
  pub voice : All (VoiceWith t) (frames cs a)

-- the same, with frame 1, if any, passing parity
pub record Alike (t : List ℤ) (cs : List Call) (a b : List ℤ) : Type 0 where
  pub handed : Handed t cs a b
  pub parity : All PassesParity (take 1 (frames cs a))

-- ---- the claim on two decoders, blocks a and b

-- from -1 to 1
unfoldable pub fraction_in_range : ℤ → Bool
fraction_in_range d = le_z (negsuc 0) d && le_z d (pos 1)

-- a delay in 19..144 with a fraction in -1..1
pub record InRange (d : Delay) : Type 0 where
  pub integer : T (delay_in_range d.integer)
  pub fraction : T (fraction_in_range d.fraction)

abbrev pub DelaysInRange : FrameValues → Type 0
DelaysInRange v = InRange v.decoded.first.delay × InRange v.decoded.second.delay

pub record Agreement (cs : List Call) (a b : List ℤ) : Type 0 where
  -- every call returns the same number to both
  pub answered : answers cs a ≡ answers cs b
  -- delays, fractions and pitch gains are equal from frame 1 on
  pub delays_from_1 : from 1 delays (frames cs a) ≡ from 1 delays (frames cs b)
  pub pitch_gains_from_1 : from 1 pitch_gains (frames cs a) ≡ from 1 pitch_gains (frames cs b)
  -- fixed gains from 3
  pub fixed_gains_from_3 : from 3 fixed_gains (frames cs a) ≡ from 3 fixed_gains (frames cs b)
  -- line spectral frequencies from 5
  pub frequencies_from_5 : from 5 frequencies (frames cs a) ≡ from 5 frequencies (frames cs b)
  -- filter coefficients of both subframes from 6
  pub filters_from_6 : from 6 filters (frames cs a) ≡ from 6 filters (frames cs b)
  -- for every frame n from 6 on: equal past excitation and last ten samples before it give equal samples in it and in every later frame
  pub samples_from_6 : (n : ℕ) → 6 ≤ n → only n signal_before (frames cs a) ≡ only n signal_before (frames cs b)
      → from n samples (frames cs a) ≡ from n samples (frames cs b)
  -- in every frame of both, delays stay in 19..144, fractions in -1..1
  pub in_range : All DelaysInRange (frames cs a) × All DelaysInRange (frames cs b)

-- ---- the counts 3, 5 and 6 are the least

-- every word has 16 bits; every byte has 8
unfoldable pub words : List ℤ → Bool
words [] = true
words (x ∷ r) = le_z (negsuc 32767) x && (le_z x (pos 32767) && words r)

unfoldable pub octets : List ℕ → Bool
octets [] = true
octets (x ∷ r) = ltb x 256 && octets r

pub record Real (t : List ℤ) (cs : List Call) (a b : List ℤ) : Type 0 where
  pub tables : T (words t)
  pub state_a : T (words a)
  pub state_b : T (words b)
  pub payloads : All (λ c. T (octets c.payload)) cs

-- a block, two states and a list of this kind where the values f of frame n differ
pub record Differ {A : Type 0} (n : ℕ) (f : FrameValues → A) : Type 0 where
  pub t : List ℤ
  pub cs : List Call
  pub a : List ℤ
  pub b : List ℤ
  pub real : Real t cs a b
  pub alike : Alike t cs a b
  -- by `answered` of `Agreement` both have frame n or neither has, so this is a value that differs
  pub differ : only n f (frames cs a) ≢ only n f (frames cs b)

-- ---- demand 3

pub record Demand3 : Type 0 where
  pub agree : (t : List ℤ) (cs : List Call) (a b : List ℤ) → Alike t cs a b → Agreement cs a b
  pub fixed_gains_at_2 : Differ 2 fixed_gains
  pub frequencies_at_4 : Differ 4 frequencies
  pub filters_at_5 : Differ 5 filters

-- ---- beside the demand

-- without the condition on parity not even the delays of frame 1 agree
pub record ParityNeeded : Type 0 where
  pub t : List ℤ
  pub cs : List Call
  pub a : List ℤ
  pub b : List ℤ
  pub real : Real t cs a b
  pub handed : Handed t cs a b
  pub differ : only 1 delays (frames cs a) ≢ only 1 delays (frames cs b)

-- every call on an accepted state, of any kind and whatever it returns, leaves an accepted state
abbrev pub AcceptedAfter : Type 0
AcceptedAfter = (c : Call) (b : List ℤ) → T (accepted_state b) → T (accepted_state (block (made c b)))

-- with any output of its length a call returns the same number, leaves the same block and, where it returns 0, the same output
abbrev pub AnyOutput : Type 0
AnyOutput =
    (c : Call) (b out : List ℤ) → length out ≡ c.room →
    let x = frame c.tables b c.kind c.payload out in
    let y = made c b in
    (number x ≡ number y) × (block x ≡ block y) × (number y ≡ 0 → output x ≡ output y)

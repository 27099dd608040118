-- Two decoders on one list of voice frames: which parts of their parameters are equal after n frames, and so which values of the frames are.
use Prim.Native.Nat.{ℕ, zero, suc, ◌+◌, ◌-◌, ◌≤◌}
use mathlib.Core.Path.{◌≡◌, refl, sym, ap, ap₂, ◌∙◌, subst}
use mathlib.Core.List.{List, [], ◌∷◌, map}
use native.Mathlib.Omega.{arith}
use lib.Dec.{T}
use lib.Ieee.Bits.{is_true}
use lib.IntN.{ℤ}
use lib.ListN.{drop, take}
use Rattle.laws.specs.Lists.{at}
use Rattle.bitstream.specs.declared.SpeechParams.{SpeechParams}
use Rattle.bitstream.specs.Fields.{unpack}
use Rattle.lsp.specs.Lsp.{new_row, decode_lsf, interpolate}
use Rattle.lpc.specs.Lpc.{lsp_to_lp}
use Rattle.pitch.specs.declared.Delay.{Delay}
use Rattle.pitch.specs.Pitch as pitch
use Rattle.gain.specs.Gain as gain
use Rattle.plc.specs.Kinds.{decide}
use Rattle.state.specs.declared.Params.{Params}
use Rattle.state.specs.State.{Signal, State, read, accepted}
use Rattle.parameters.specs.declared.Decoded.{Decoded}
use Rattle.parameters.specs.Parameters.{to_lsp, voice, parameters}
use Rattle.parameters.specs.Parts.{Parts}
use Rattle.decoder.specs.declared.Buffers.{Buffers}
use Rattle.decoder.specs.Frame.{frame_signal, decode}
use Rattle.agreement.specs.Demand.{Call, FrameValues, delays, pitch_gains, fixed_gains, frequencies, filters, signal_before, samples, All, VoiceWith, PassesParity, DelaysInRange, Alike, Agreement}
use Rattle.accepted.specs.Accepted.{accepted_after_frame}
use Rattle.agreement.proofs.Ranges.{delays_good}
use Rattle.agreement.specs.Run.{taken, frame_of, values_of, run}
use Rattle.agreement.proofs.Runs.{accepted_params, answers_are, frames_are}

-- ---- what is equal after n frames: from 5 on all but the seed

pub record Agree (n : ℕ) (p q : Params) : Type 0 where
  pub old : 1 ≤ n → p.pitch.old ≡ q.pitch.old
  pub beta : 1 ≤ n → p.beta ≡ q.beta
  pub mem0 : 1 ≤ n → at p.gain.mem 0 ≡ at q.gain.mem 0
  pub mem1 : 1 ≤ n → at p.gain.mem 1 ≡ at q.gain.mem 1
  pub mem : 2 ≤ n → p.gain.mem ≡ q.gain.mem
  pub gp : 1 ≤ n → p.gain.gp ≡ q.gain.gp
  pub gc : 3 ≤ n → p.gain.gc ≡ q.gain.gc
  pub predictor : 1 ≤ n → p.predictor ≡ q.predictor
  pub r0 : 1 ≤ n → p.r0 ≡ q.r0
  pub r1 : 2 ≤ n → p.r1 ≡ q.r1
  pub r2 : 3 ≤ n → p.r2 ≡ q.r2
  pub r3 : 4 ≤ n → p.r3 ≡ q.r3
  pub omega : 5 ≤ n → p.omega ≡ q.omega
  pub lsp : 5 ≤ n → p.lsp ≡ q.lsp

none : {A : Type 0} {n : ℕ} → suc n ≤ 0 → A
none h = absurd (omega arith)

pub at_start : (p q : Params) → Agree 0 p q
at_start p q =
    record {
      old = none;
      beta = none;
      mem0 = none;
      mem1 = none;
      mem = none;
      gp = none;
      gc = none;
      predictor = none;
      r0 = none;
      r1 = none;
      r2 = none;
      r3 = none;
      omega = none;
      lsp = none;
    }

-- ---- one voice frame after n frames

module _ (t : List ℤ) (f : SpeechParams) {n : ℕ} {p q : Params} (h : Agree n p q) (first : n ≡ 0 → T (pitch.parity_ok f.p1 f.p0)) where
  unfoldable pub v : Decoded
  v = voice t f p

  unfoldable pub w : Decoded
  w = voice t f q

  -- the first delay is the carried one only if parity fails
  tracked : pitch.first p.pitch.old f.p1 (pitch.parity_ok f.p1 f.p0) ≡ pitch.first q.pitch.old f.p1 (pitch.parity_ok f.p1 f.p0)
  unfolding pitch.first
  tracked = go n refl
    where
      go : (k : ℕ) → n ≡ k → pitch.first p.pitch.old f.p1 (pitch.parity_ok f.p1 f.p0) ≡ pitch.first q.pitch.old f.p1 (pitch.parity_ok f.p1 f.p0)
      go zero e = rw (is_true (pitch.parity_ok f.p1 f.p0) (first e))
      go (suc k) e = ap (λ (d : ℤ). pitch.first d f.p1 (pitch.parity_ok f.p1 f.p0)) (h.old (omega arith))

  pub same_delays : (v.first.delay ≡ w.first.delay) × (v.second.delay ≡ w.second.delay)
  unfolding v w Parts
  same_delays = let e = tracked in (cc, cc)

  pub same_pitch : (v.first.gp ≡ w.first.gp) × (v.second.gp ≡ w.second.gp)
  unfolding v w Parts gain.decode
  same_pitch = (refl, refl)

  pub same_codes : 1 ≤ n → (v.first.code ≡ w.first.code) × (v.second.code ≡ w.second.code)
  unfolding v w Parts gain.decode
  same_codes l = let e = tracked in let b = h.beta l in (cc, cc)

  pub same_fixed : 2 ≤ n → (v.first.gc ≡ w.first.gc) × (v.second.gc ≡ w.second.gc)
  unfolding v w Parts gain.decode
  same_fixed l = let e = tracked in let b = h.beta (omega arith) in let m = h.mem l in (cc, cc)

  pub same_lsf : 4 ≤ n → v.params.omega ≡ w.params.omega
  unfolding v w Parts
  same_lsf l =
      let e0 = h.r0 (omega arith) in
      let e1 = h.r1 (omega arith) in
      let e2 = h.r2 (omega arith) in
      let e3 = h.r3 l in
      λ i. decode_lsf t f.l0 (new_row t f.l1 f.l2 f.l3) (e0 i ∷ e1 i ∷ e2 i ∷ e3 i ∷ [])

  pub same_filters : 5 ≤ n → (v.first.a ≡ w.first.a) × (v.second.a ≡ w.second.a)
  unfolding v w Parts
  same_filters l =
      let e : v.params.omega ≡ w.params.omega = same_lsf (omega arith) in
      let b = h.lsp l in
      (λ i. lsp_to_lp (interpolate (b i) (to_lsp t (e i))), λ i. lsp_to_lp (to_lsp t (e i)))

  -- all that the signal is made from
  same_subframes : 5 ≤ n → (v.first ≡ w.first) × (v.second ≡ w.second)
  unfolding v w Parts
  same_subframes l =
      let d = same_delays in
      let g = same_pitch in
      let c = same_codes (omega arith) in
      let k = same_fixed (omega arith) in
      let a = same_filters l in (
        λ i. record { delay = d.0 i; gp = g.0 i; gc = k.0 i; code = c.0 i; a = a.0 i },
        λ i. record { delay = d.1 i; gp = g.1 i; gc = k.1 i; code = c.1 i; a = a.1 i },
      )

  pub one_more : Agree (suc n) v.params w.params
  unfolding v w Parts gain.decode gain.push pitch.second
  one_more =
      record {
        old = λ l. ap (λ (d : Delay). d.integer) same_delays.1;
        beta = λ l. refl;
        mem0 = λ l. refl;
        mem1 = λ l. refl;
        mem = λ l. let e0 = h.mem0 (omega arith) in let e1 = h.mem1 (omega arith) in λ i. gain.gain_error t f.ga2 f.gb2 ∷ gain.gain_error t f.ga1 f.gb1 ∷ e0 i ∷ e1 i ∷ [];
        gp = λ l. same_pitch.1;
        gc = λ l. (same_fixed (omega arith)).1;
        predictor = λ l. refl;
        r0 = λ l. refl;
        r1 = λ l. h.r0 (omega arith);
        r2 = λ l. h.r1 (omega arith);
        r3 = λ l. h.r2 (omega arith);
        omega = λ l. same_lsf (omega arith);
        lsp = λ l. ap (to_lsp t) (same_lsf (omega arith));
      }

-- ---- one call that returns 0 and is a voice frame

pub voiced : (c : Call) (s : State) → c.kind ≡ 0 → (frame_of c s).decoded ≡ voice c.tables (unpack c.payload) s.params
unfolding frame_of decode decide parameters
voiced c s k = rw k

module _ (n : ℕ) (c : Call) (k : c.kind ≡ 0) (a b : State) (h : Agree n a.params b.params) (first : n ≡ 0 → PassesParity (values_of c a)) where
  t : List ℤ
  t = c.tables

  f : SpeechParams
  f = unpack c.payload

  parity : n ≡ 0 → T (pitch.parity_ok f.p1 f.p0)
  unfolding f values_of
  parity e = first e

  now : {A : Type 0} (g : Decoded → A) → g (voice t f a.params) ≡ g (voice t f b.params) → g (frame_of c a).decoded ≡ g (frame_of c b).decoded
  unfolding t f
  now g e = ap g (voiced c a k) ∙ e ∙ sym (ap g (voiced c b k))

  pub agree_after : Agree (suc n) (frame_of c a).state.params (frame_of c b).state.params
  unfolding frame_of decode t f v w
  agree_after = subst (λ (x : Decoded). Agree (suc n) x.params (frame_of c b).decoded.params) (sym (voiced c a k)) half
    where
      half : Agree (suc n) (voice c.tables (unpack c.payload) a.params).params (frame_of c b).decoded.params
      half = subst (λ (x : Decoded). Agree (suc n) (voice c.tables (unpack c.payload) a.params).params x.params) (sym (voiced c b k)) (one_more t f h parity)

  pub delays_now : delays (values_of c a) ≡ delays (values_of c b)
  unfolding values_of v w
  delays_now = now (λ d. (d.first.delay, d.second.delay)) (let e = same_delays t f h parity in λ i. (e.0 i, e.1 i))

  pub pitch_now : pitch_gains (values_of c a) ≡ pitch_gains (values_of c b)
  unfolding values_of v w
  pitch_now = now (λ d. (d.first.gp, d.second.gp)) (let e = same_pitch t f h parity in λ i. (e.0 i, e.1 i))

  pub fixed_now : 2 ≤ n → fixed_gains (values_of c a) ≡ fixed_gains (values_of c b)
  unfolding values_of v w
  fixed_now l = now (λ d. (d.first.gc, d.second.gc)) (let e = same_fixed t f h parity l in λ i. (e.0 i, e.1 i))

  pub lsf_now : 4 ≤ n → frequencies (values_of c a) ≡ frequencies (values_of c b)
  unfolding values_of v w
  lsf_now l = now (λ d. d.params.omega) (same_lsf t f h parity l)

  pub filters_now : 5 ≤ n → filters (values_of c a) ≡ filters (values_of c b)
  unfolding values_of v w
  filters_now l = now (λ d. (d.first.a, d.second.a)) (let e = same_filters t f h parity l in λ i. (e.0 i, e.1 i))

  -- equal subframes on an equal signal
  buffers_now : 5 ≤ n → a.signal ≡ b.signal →
      frame_signal c.tables (frame_of c a).decoded.first (frame_of c a).decoded.second a.signal ≡
      frame_signal c.tables (frame_of c b).decoded.first (frame_of c b).decoded.second b.signal
  unfolding v w
  buffers_now l e =
      let s = same_subframes t f h parity l in
      let x = now (λ d. d.first) s.0 in
      let y = now (λ d. d.second) s.1 in
      λ i. frame_signal c.tables (x i) (y i) (e i)

  samples_now : 5 ≤ n → a.signal ≡ b.signal → samples (values_of c a) ≡ samples (values_of c b)
  unfolding values_of frame_of decode
  samples_now l e = ap (λ (x : Buffers). drop 10 x.speech) (buffers_now l e)

  signal_after : 5 ≤ n → a.signal ≡ b.signal → (frame_of c a).state.signal ≡ (frame_of c b).state.signal
  unfolding frame_of decode
  signal_after l e = let x = buffers_now l e in λ i. record { past = drop 80 (x i).exc; tail = drop 80 (x i).speech }

-- ---- the run of a list of voice frames

abbrev pub Voices : List Call → Type 0
Voices cs = All (λ c. c.kind ≡ 0) cs

pub voices : (t : List ℤ) (cs : List Call) (s : State) → All (VoiceWith t) (run cs s) → Voices cs
unfolding values_of run
voices t [] s h = tt
voices t (c ∷ cs) s h = (h.0.0, voices t cs _ h.1)

-- ---- ranges

good : (c : Call) (s : State) → c.kind ≡ 0 → T (accepted s.params) → DelaysInRange (values_of c s)
unfolding values_of
good c s k ok = rw (voiced c s k) (delays_good s.params ok c.tables (unpack c.payload))

good_after : (c : Call) (s : State) → T (accepted s.params) → T (accepted (frame_of c s).state.params)
unfolding frame_of decode
good_after c s ok = accepted_after_frame s.params ok c.tables _

in_range : (cs : List Call) (s : State) → Voices cs → T (accepted s.params) → All DelaysInRange (run cs s)
unfolding run
in_range [] s h ok = tt
in_range (c ∷ cs) s h ok = (good c s h.0 ok, in_range cs _ h.1 (good_after c s ok))

-- ---- the frames that follow n frames

-- f of those from frame k + 1 on
abbrev pub Later : {A : Type 0} → ℕ → ℕ → (FrameValues → A) → List FrameValues → List FrameValues → Type 0
Later k n f vs ws = map f (drop (k - n) vs) ≡ map f (drop (k - n) ws)

pub later : {A : Type 0} (k n : ℕ) (f : FrameValues → A) (v w : FrameValues) (vs ws : List FrameValues) → (k ≤ n → f v ≡ f w) → Later k (suc n) f vs ws → Later k n f (v ∷ vs) (w ∷ ws)
later k n f v w vs ws now rest = go (k - n) refl
  where
    go : (m : ℕ) → k - n ≡ m → map f (drop m (v ∷ vs)) ≡ map f (drop m (w ∷ ws))
    go zero e =
        let z : k - suc n ≡ 0 = omega arith in
        let r : map f (drop 0 vs) ≡ map f (drop 0 ws) = rw z at rest in
        ap₂ ◌∷◌ (now (omega arith)) r
    go (suc m) e = let z : k - suc n ≡ m = omega arith in rw z at rest

-- all but the samples
pub record Values (n : ℕ) (vs ws : List FrameValues) : Type 0 where
  pub delays : Later 0 n delays vs ws
  pub pitch : Later 0 n pitch_gains vs ws
  pub fixed : Later 2 n fixed_gains vs ws
  pub lsf : Later 4 n frequencies vs ws
  pub filters : Later 5 n filters vs ws

pub no_values : (n : ℕ) → Values n [] []
no_values n = record { delays = refl; pitch = refl; fixed = refl; lsf = refl; filters = refl }

-- a voice frame in front
pub voice_values : (n : ℕ) (c : Call) (k : c.kind ≡ 0) (a b : State) (vs ws : List FrameValues) → Agree n a.params b.params → (n ≡ 0 → PassesParity (values_of c a))
    → Values (suc n) vs ws → Values n (values_of c a ∷ vs) (values_of c b ∷ ws)
voice_values n c k a b vs ws h first r =
    let x = values_of c a in
    let y = values_of c b in
    record {
      delays = later 0 n delays x y vs ws (λ l. delays_now n c k a b h first) r.delays;
      pitch = later 0 n pitch_gains x y vs ws (λ l. pitch_now n c k a b h first) r.pitch;
      fixed = later 2 n fixed_gains x y vs ws (λ l. fixed_now n c k a b h first l) r.fixed;
      lsf = later 4 n frequencies x y vs ws (λ l. lsf_now n c k a b h first l) r.lsf;
      filters = later 5 n filters x y vs ws (λ l. filters_now n c k a b h first l) r.filters;
    }

-- the samples of frame n + m + 1 and of every later one, where the signal before it is equal
abbrev pub Samples : ℕ → List FrameValues → List FrameValues → Type 0
Samples n vs ws = (m : ℕ) → 5 ≤ n + m → map signal_before (take 1 (drop m vs)) ≡ map signal_before (take 1 (drop m ws)) → map samples (drop m vs) ≡ map samples (drop m ws)

pub record Rest (n : ℕ) (vs ws : List FrameValues) : Type 0 where
  pub values : Values n vs ws
  pub samples : Samples n vs ws

one_call : (n : ℕ) (c : Call) (k : c.kind ≡ 0) (a b : State) (vs ws : List FrameValues) → Agree n a.params b.params → (n ≡ 0 → PassesParity (values_of c a))
    → (5 ≤ n → a.signal ≡ b.signal → map samples vs ≡ map samples ws) → Rest (suc n) vs ws → Rest n (values_of c a ∷ vs) (values_of c b ∷ ws)
unfolding values_of
one_call n c k a b vs ws h first loud r = record { values = voice_values n c k a b vs ws h first r.values; samples = same }
  where
    same : (m : ℕ) → 5 ≤ n + m → map signal_before (take 1 (drop m (values_of c a ∷ vs))) ≡ map signal_before (take 1 (drop m (values_of c b ∷ ws)))
        → map samples (drop m (values_of c a ∷ vs)) ≡ map samples (drop m (values_of c b ∷ ws))
    same zero l e = let s : a.signal ≡ b.signal = cc in ap₂ ◌∷◌ (samples_now n c k a b h first (omega arith) s) (loud (omega arith) s)
    same (suc m) l e = r.samples m (omega arith) e

-- frame 1 is among those that follow only where n is 0
unfoldable pub First : ℕ → List FrameValues → Type 0
First n vs = n ≡ 0 → All PassesParity (take 1 vs)

-- the first frame of a run has the signal before it
pub begins : (cs : List Call) (a b : State) → a.signal ≡ b.signal → map signal_before (take 1 (run cs a)) ≡ map signal_before (take 1 (run cs b))
unfolding run values_of
begins [] a b e = refl
begins (c ∷ cs) a b e = ap (λ (s : Signal). s ∷ []) e

pub rest : (n : ℕ) (cs : List Call) (a b : State) → Voices cs → Agree n a.params b.params → First n (run cs a) → Rest n (run cs a) (run cs b)
unfolding run First
rest n [] a b h g first = record { values = no_values n; samples = λ m l e. refl }
rest n (c ∷ cs) a b h g first =
    let k = h.0 in
    let p : n ≡ 0 → PassesParity (values_of c a) = λ e. (first e).0 in
    let r = rest (suc n) cs (frame_of c a).state (frame_of c b).state h.1 (agree_after n c k a b g p) (λ z. absurd (omega arith)) in
    one_call n c k a b _ _ g p (λ l e. r.samples 0 (omega arith) (begins cs _ _ (signal_after n c k a b g p l e))) r

-- ---- the claim on blocks

pub agreement : (tables : List ℤ) (cs : List Call) (a b : List ℤ) → Alike tables cs a b → Agreement cs a b
unfolding First
agreement tables cs a b k =
    let at_a = k.handed.start_a in
    let at_b = k.handed.start_b in
    let x = frames_are cs a at_a in
    let y = frames_are cs b at_b in
    let h = voices tables (taken cs) (read a) (subst (All (VoiceWith tables)) x k.handed.voice) in
    let first : First 0 (run (taken cs) (read a)) = λ e. subst (λ (l : List FrameValues). All PassesParity (take 1 l)) x k.parity in
    let r = rest 0 (taken cs) (read a) (read b) h (at_start (read a).params (read b).params) first in
    let u = r.values in
    record {
      answered = answers_are cs a at_a ∙ sym (answers_are cs b at_b);
      delays_from_1 = rw (x, y) u.delays;
      pitch_gains_from_1 = rw (x, y) u.pitch;
      fixed_gains_from_3 = rw (x, y) u.fixed;
      frequencies_from_5 = rw (x, y) u.lsf;
      filters_from_6 = rw (x, y) u.filters;
      samples_from_6 = rw (x, y) (λ n l e. r.samples (n - 1) (omega arith) e);
      in_range = (rw x (in_range (taken cs) (read a) h (accepted_params a at_a)), rw y (in_range (taken cs) (read b) h (accepted_params b at_b)));
    }

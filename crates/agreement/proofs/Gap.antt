-- Two decoders through a gap: after five common voice frames their parameters are equal but for the seed, and stay so whatever they receive in common (specs/Gap.antt).
use Prim.Native.Nat.{ℕ, zero, suc, ◌+◌, ◌-◌, ◌%◌, ◌≤◌}
use mathlib.Core.Path.{◌≡◌, refl, sym, ap, ap₂, ◌∙◌, subst}
use mathlib.Core.List.{List, [], ◌∷◌}
use native.Mathlib.Omega.{arith}
use lib.Dec.{T}
use lib.IntN.{ℤ, pos}
use lib.ListN.{length, drop, take}
use Rattle.laws.specs.Lists.{at}
use Rattle.basic_op.specs.Ops.{low16}
use Rattle.bitstream.specs.Fields.{unpack}
use Rattle.pitch.specs.declared.Delay.{Delay}
use Rattle.pitch.specs.Pitch as pitch
use Rattle.gain.specs.Gain as gain
use Rattle.fixed.specs.Fixed.{random_index}
use Rattle.fixed.specs.Period.{low_drawn}
use Rattle.plc.specs.declared.Decision.{Decision}
use Rattle.plc.specs.declared.Decision.TheVariants.{Voice, Concealment}
use Rattle.plc.specs.Kinds.{decide}
use Rattle.state.specs.declared.Params.{Params}
use Rattle.state.specs.State.{State, read, accepted_state}
use Rattle.agree.specs.Laws.{SameParams}
use Rattle.parameters.specs.declared.Decoded.{Decoded}
use Rattle.parameters.specs.Parameters.{sharpened, parameters}
use Rattle.parameters.specs.Parts.{Parts}
use Rattle.decoder.specs.declared.Buffers.{Buffers}
use Rattle.decoder.specs.Frame.{frame_signal, decode}
use Rattle.agreement.specs.Demand.{Call, FrameValues, frames, delays, pitch_gains, fixed_gains, frequencies, filters, samples, All, PassesParity}
use Rattle.agreement.specs.Run.{taken, frame_of, values_of, run, state_after}
use Rattle.agreement.specs.Gap.{pulses, received, Common, Through, SamePulses}
use Rattle.agreement.proofs.Runs.{frames_are}
use Rattle.agreement.proofs.Agree.{Agree, at_start, v, w, same_codes, voiced, agree_after, Later, later, Values, no_values, voice_values, Samples, begins}

-- ---- parameters but for the seed

unfoldable pub with_seed : ℤ → Params → Params
with_seed s p =
    record {
      r0 = p.r0;
      r1 = p.r1;
      r2 = p.r2;
      r3 = p.r3;
      predictor = p.predictor;
      omega = p.omega;
      lsp = p.lsp;
      pitch = record { old = p.pitch.old };
      seed = s;
      gain = record { mem = p.gain.mem; gp = p.gain.gp; gc = p.gain.gc };
      beta = p.beta;
    }

pub record Same (p q : Params) : Type 0 where
  pub is : with_seed (pos 0) p ≡ with_seed (pos 0) q

pub same_params : (p q : Params) → SameParams p q → Same p q
unfolding with_seed
same_params p q g =
    record {
      is = λ i.
          record {
            r0 = g.r0 i;
            r1 = g.r1 i;
            r2 = g.r2 i;
            r3 = g.r3 i;
            predictor = g.predictor i;
            omega = g.omega i;
            lsp = g.lsp i;
            pitch = record { old = g.old i };
            seed = pos 0;
            gain = record { mem = g.mem i; gp = g.gp i; gc = g.gc i };
            beta = g.beta i;
          };
    }

pub params_same : (p q : Params) → Same p q → SameParams p q
unfolding with_seed
params_same p q e =
    let x = e.is in
    record {
      r0 = λ i. (x i).r0;
      r1 = λ i. (x i).r1;
      r2 = λ i. (x i).r2;
      r3 = λ i. (x i).r3;
      predictor = λ i. (x i).predictor;
      omega = λ i. (x i).omega;
      lsp = λ i. (x i).lsp;
      old = λ i. (x i).pitch.old;
      mem = λ i. (x i).gain.mem;
      gp = λ i. (x i).gain.gp;
      gc = λ i. (x i).gain.gc;
      beta = λ i. (x i).beta;
    }

-- the seeds' 13 low bits are equal
abbrev pub Near : Params → Params → Type 0
Near p q = low16 p.seed % 8192 ≡ low16 q.seed % 8192

-- what a frame gives but its codevectors and its seed
record Plain : Type 0 where
  d1 : Delay
  d2 : Delay
  p1 : ℤ
  p2 : ℤ
  c1 : ℤ
  c2 : ℤ
  a1 : List ℤ
  a2 : List ℤ
  omega : List ℤ
  params : Params

plain : Decoded → Plain
plain d =
    record {
      d1 = d.first.delay;
      d2 = d.second.delay;
      p1 = d.first.gp;
      p2 = d.second.gp;
      c1 = d.first.gc;
      c2 = d.second.gc;
      a1 = d.first.a;
      a2 = d.second.a;
      omega = d.params.omega;
      params = with_seed (pos 0) d.params;
    }

-- it doesn't read the seed
no_seed : (t : List ℤ) (d : Decision) (p : Params) → plain (parameters t d p) ≡ plain (parameters t d (with_seed (pos 0) p))
unfolding plain with_seed Parts
no_seed t (Voice f) p = refl
no_seed t Concealment p = refl

-- the codevectors, by what a concealed frame draws
unfoldable pub codes : List ℤ → (index1 sign1 index2 sign2 : ℕ) → Params → List ℤ × List ℤ
codes t index1 sign1 index2 sign2 p =
    let d = pitch.concealed_delays p.pitch.old in
    (sharpened t p.beta index1 sign1 d.first, sharpened t (gain.sharpening t (gain.conceal t p.gain).gp) index2 sign2 d.second)

unfoldable pub code_pair : Decoded → List ℤ × List ℤ
code_pair d = (d.first.code, d.second.code)

module _ (t : List ℤ) (p q : Params) (e : Same p q) where
  plain_same : (d : Decision) → plain (parameters t d p) ≡ plain (parameters t d q)
  plain_same d = no_seed t d p ∙ ap (λ (x : Params). plain (parameters t d x)) e.is ∙ sym (no_seed t d q)

  -- codevectors read 13 bits of it
  codes_same : (d : Decision) → Near p q → code_pair (parameters t d p) ≡ code_pair (parameters t d q)
  unfolding code_pair codes with_seed Parts
  codes_same (Voice f) n = ap (λ (x : Params). code_pair (parameters t (Voice f) x)) e.is
  codes_same Concealment n =
      let x = low_drawn p.seed q.seed n in
      let y = low_drawn (random_index p.seed).seed (random_index q.seed).seed x.2 in
      λ i. codes t (x.0 i) (x.1 i) (y.0 i) (y.1 i) (e.is i)

-- and so do the 13 bits that a frame leaves
near_left : (t : List ℤ) (d : Decision) (p q : Params) → Near p q → Near (parameters t d p).params (parameters t d q).params
unfolding Parts
near_left t (Voice f) p q n = n
near_left t Concealment p q n = (low_drawn _ _ (low_drawn p.seed q.seed n).2).2

-- ---- a frame of any kind

near_after : (c : Call) (a b : State) → Near a.params b.params → Near (frame_of c a).state.params (frame_of c b).state.params
unfolding frame_of decode
near_after c a b n = near_left c.tables (decide c.kind c.payload) a.params b.params n

module _ (c : Call) (a b : State) (e : Same a.params b.params) where
  values_same : plain (frame_of c a).decoded ≡ plain (frame_of c b).decoded
  unfolding frame_of decode
  values_same = plain_same c.tables a.params b.params e (decide c.kind c.payload)

  pub same_after : Same (frame_of c a).state.params (frame_of c b).state.params
  unfolding frame_of decode plain
  same_after = record { is = ap (λ (x : Plain). x.params) values_same }

  pulses_now : Near a.params b.params → pulses (values_of c a) ≡ pulses (values_of c b)
  unfolding values_of frame_of decode code_pair
  pulses_now n = codes_same c.tables a.params b.params e (decide c.kind c.payload) n

  buffers_now : Near a.params b.params → a.signal ≡ b.signal →
      frame_signal c.tables (frame_of c a).decoded.first (frame_of c a).decoded.second a.signal ≡
      frame_signal c.tables (frame_of c b).decoded.first (frame_of c b).decoded.second b.signal
  unfolding plain values_of
  buffers_now n s =
      let g = values_same in
      let k = pulses_now n in
      let x : (frame_of c a).decoded.first ≡ (frame_of c b).decoded.first = λ i. record { delay = (g i).d1; gp = (g i).p1; gc = (g i).c1; code = (k i).0; a = (g i).a1 } in
      let y : (frame_of c a).decoded.second ≡ (frame_of c b).decoded.second = λ i. record { delay = (g i).d2; gp = (g i).p2; gc = (g i).c2; code = (k i).1; a = (g i).a2 } in
      λ i. frame_signal c.tables (x i) (y i) (s i)

  samples_now : Near a.params b.params → a.signal ≡ b.signal → samples (values_of c a) ≡ samples (values_of c b)
  unfolding values_of frame_of decode
  samples_now n s = ap (λ (x : Buffers). drop 10 x.speech) (buffers_now n s)

  signal_after : Near a.params b.params → a.signal ≡ b.signal → (frame_of c a).state.signal ≡ (frame_of c b).state.signal
  unfolding frame_of decode
  signal_after n s = let x = buffers_now n s in λ i. record { past = drop 80 (x i).exc; tail = drop 80 (x i).speech }

  -- in front of the frames that follow
  gap_values : (n : ℕ) (vs ws : List FrameValues) → Values (suc n) vs ws → Values n (values_of c a ∷ vs) (values_of c b ∷ ws)
  unfolding values_of plain
  gap_values n vs ws r =
      let g = values_same in
      let x = values_of c a in
      let y = values_of c b in
      record {
        delays = later 0 n delays x y vs ws (λ l. λ i. ((g i).d1, (g i).d2)) r.delays;
        pitch = later 0 n pitch_gains x y vs ws (λ l. λ i. ((g i).p1, (g i).p2)) r.pitch;
        fixed = later 2 n fixed_gains x y vs ws (λ l. λ i. ((g i).c1, (g i).c2)) r.fixed;
        lsf = later 4 n frequencies x y vs ws (λ l. λ i. (g i).omega) r.lsf;
        filters = later 5 n filters x y vs ws (λ l. λ i. ((g i).a1, (g i).a2)) r.filters;
      }

-- ---- the frames that follow n frames; P where the seeds' 13 bits are equal before them

pub record Rest (n : ℕ) (P : Type 0) (vs ws : List FrameValues) : Type 0 where
  pub values : Values n vs ws
  pub pulses : P → Later 1 n pulses vs ws
  pub samples : P → Samples n vs ws

nothing : (n : ℕ) (P : Type 0) → Rest n P [] []
nothing n P = record { values = no_values n; pulses = λ s. refl; samples = λ s m l e. refl }

-- the samples of a frame and of those that follow it
module _ (n : ℕ) (c : Call) (cs : List Call) (a b : State) (e : Same a.params b.params) (s : Near a.params b.params) where
  gap_samples : Samples (suc n) (run cs (frame_of c a).state) (run cs (frame_of c b).state) → 5 ≤ n
      → Samples n (values_of c a ∷ run cs (frame_of c a).state) (values_of c b ∷ run cs (frame_of c b).state)
  unfolding values_of
  gap_samples r l zero k g =
      let h : a.signal ≡ b.signal = cc in
      ap₂ ◌∷◌ (samples_now c a b e s h) (r 0 (omega arith) (begins cs _ _ (signal_after c a b e s h)))
  gap_samples r l (suc m) k g = r m (omega arith) g

-- through the gap
pub gap : (n : ℕ) → 5 ≤ n → (cs : List Call) (a b : State) → Same a.params b.params → Rest n (Near a.params b.params) (run cs a) (run cs b)
unfolding run
gap n l [] a b e = nothing n (Near a.params b.params)
gap n l (c ∷ cs) a b e =
    let r = gap (suc n) (omega arith) cs (frame_of c a).state (frame_of c b).state (same_after c a b e) in
    record {
      values = gap_values c a b e n _ _ r.values;
      pulses = λ s. later 1 n pulses (values_of c a) (values_of c b) _ _ (λ l. pulses_now c a b e s) (r.pulses (near_after c a b s));
      samples = λ s. gap_samples n c cs a b e s (r.samples (near_after c a b s)) l;
    }

-- what is left behind it
same_left : (cs : List Call) (a b : State) → Same a.params b.params → Same (state_after cs a).params (state_after cs b).params
unfolding state_after
same_left [] a b e = e
same_left (c ∷ cs) a b e = same_left cs (frame_of c a).state (frame_of c b).state (same_after c a b e)

-- ---- up to the gap

-- after five voice frames all but the seed is equal
pub settled : (n : ℕ) (p q : Params) → 5 ≤ n → Agree n p q → Same p q
settled n p q l g =
    same_params p q
    (record {
      r0 = g.r0 (omega arith);
      r1 = g.r1 (omega arith);
      r2 = g.r2 (omega arith);
      r3 = g.r3 (omega arith);
      predictor = g.predictor (omega arith);
      omega = g.omega l;
      lsp = g.lsp l;
      old = g.old (omega arith);
      mem = g.mem (omega arith);
      gp = g.gp (omega arith);
      gc = g.gc (omega arith);
      beta = g.beta (omega arith);
    })

-- and the other way round
pub same_agree : (n : ℕ) (p q : Params) → Same p q → Agree n p q
same_agree n p q e =
    let g = params_same p q e in
    record {
      old = λ l. g.old;
      beta = λ l. g.beta;
      mem0 = λ l. ap (λ (m : List ℤ). at m 0) g.mem;
      mem1 = λ l. ap (λ (m : List ℤ). at m 1) g.mem;
      mem = λ l. g.mem;
      gp = λ l. g.gp;
      gc = λ l. g.gc;
      predictor = λ l. g.predictor;
      r0 = λ l. g.r0;
      r1 = λ l. g.r1;
      r2 = λ l. g.r2;
      r3 = λ l. g.r3;
      omega = λ l. g.omega;
      lsp = λ l. g.lsp;
    }

-- a voice frame leaves the seed as it was
voice_seed : (c : Call) (s : State) → c.kind ≡ 0 → (frame_of c s).state.params.seed ≡ s.params.seed
unfolding frame_of decode decide Parts
voice_seed c s k = rw k

codes_now : (n : ℕ) (c : Call) (a b : State) → c.kind ≡ 0 → 1 ≤ n → Agree n a.params b.params → pulses (values_of c a) ≡ pulses (values_of c b)
unfolding values_of v w
codes_now n c a b k l h =
    let f = unpack c.payload in
    let none : n ≡ 0 → T (pitch.parity_ok f.p1 f.p0) = λ e. absurd (omega arith) in
    let e = same_codes c.tables f h none l in
    ap (λ (d : Decoded). (d.first.code, d.second.code)) (voiced c a k)
    ∙ (λ i. (e.0 i, e.1 i))
    ∙ sym (ap (λ (d : Decoded). (d.first.code, d.second.code)) (voiced c b k))

module _ (n : ℕ) (c : Call) (k : c.kind ≡ 0) (a b : State) (vs ws : List FrameValues) (h : Agree n a.params b.params) (first : n ≡ 0 → PassesParity (values_of c a)) where
  -- a voice frame in front, one of the first five
  one_call : n ≤ 4 → Rest (suc n) (Near (frame_of c a).state.params (frame_of c b).state.params) vs ws → Rest n (Near a.params b.params) (values_of c a ∷ vs) (values_of c b ∷ ws)
  one_call l r =
      record {
        values = voice_values n c k a b vs ws h first r.values;
        pulses = λ s. later 1 n pulses (values_of c a) (values_of c b) vs ws (λ l. codes_now n c a b k l h) (r.pulses (near s));
        samples = λ s. behind s;
      }
    where
      near : Near a.params b.params → Near (frame_of c a).state.params (frame_of c b).state.params
      near s = rw (voice_seed c a k, voice_seed c b k) s

      behind : Near a.params b.params → Samples n (values_of c a ∷ vs) (values_of c b ∷ ws)
      behind s zero j g = absurd (omega arith)
      behind s (suc m) j g = r.samples (near s) m (omega arith) g

-- n frames are behind, and m + 1 more are voice
lead : (n m : ℕ) → n + suc m ≡ 5 → (cs : List Call) (a b : State) → All (λ u. u.call.kind ≡ 0) (take (suc m) (run cs a)) → Agree n a.params b.params
    → (n ≡ 0 → All PassesParity (take 1 (run cs a))) → Rest n (Near a.params b.params) (run cs a) (run cs b)
unfolding run values_of
lead n m q [] a b h g first = nothing n (Near a.params b.params)
lead n zero q (c ∷ cs) a b h g first =
    let p : n ≡ 0 → PassesParity (values_of c a) = λ e. (first e).0 in
    one_call n c h.0 a b _ _ g p (omega arith)
    (gap (suc n) (omega arith) cs (frame_of c a).state (frame_of c b).state (settled (suc n) _ _ (omega arith) (agree_after n c h.0 a b g p)))
lead n (suc m) q (c ∷ cs) a b h g first =
    let p : n ≡ 0 → PassesParity (values_of c a) = λ e. (first e).0 in
    one_call n c h.0 a b _ _ g p (omega arith)
    (lead (suc n) m (omega arith) cs (frame_of c a).state (frame_of c b).state h.1 (agree_after n c h.0 a b g p) (λ e. absurd (omega arith)))

-- and what is left once five were voice
pub lead_left : (n m : ℕ) → n + suc m ≡ 5 → (cs : List Call) (a b : State) → suc m ≤ length (run cs a) → All (λ u. u.call.kind ≡ 0) (take (suc m) (run cs a)) → Agree n a.params b.params
    → (n ≡ 0 → All PassesParity (take 1 (run cs a))) → Same (state_after cs a).params (state_after cs b).params
unfolding run values_of state_after
lead_left n m q [] a b l h g first = absurd (omega arith)
lead_left n zero q (c ∷ cs) a b l h g first =
    let p : n ≡ 0 → PassesParity (values_of c a) = λ e. (first e).0 in
    same_left cs (frame_of c a).state (frame_of c b).state (settled (suc n) _ _ (omega arith) (agree_after n c h.0 a b g p))
lead_left n (suc m) q (c ∷ cs) a b l h g first =
    let p : n ≡ 0 → PassesParity (values_of c a) = λ e. (first e).0 in
    lead_left (suc n) m (omega arith) cs (frame_of c a).state (frame_of c b).state (omega arith) h.1 (agree_after n c h.0 a b g p) (λ e. absurd (omega arith))

-- ---- on blocks

pub received_run : (cs : List Call) (s : State) → received (run cs s) ≡ cs
unfolding run values_of
received_run [] s = refl
received_run (c ∷ cs) s = ap (λ (l : List Call). c ∷ l) (received_run cs (frame_of c s).state)

-- both run over the frames of the one
module _ (ca cb : List Call) (a b : List ℤ) (ok_a : T (accepted_state a)) (ok_b : T (accepted_state b)) (same : received (frames ca a) ≡ received (frames cb b)) where
  pub run_a : frames ca a ≡ run (taken ca) (read a)
  run_a = frames_are ca a ok_a

  pub same_taken : taken ca ≡ taken cb
  same_taken = sym (received_run (taken ca) (read a)) ∙ ap received (sym run_a) ∙ same ∙ ap received (frames_are cb b ok_b) ∙ received_run (taken cb) (read b)

  pub run_b : frames cb b ≡ run (taken ca) (read b)
  run_b = frames_are cb b ok_b ∙ ap (λ (l : List Call). run l (read b)) (sym same_taken)

abbrev pub NearBlocks : List ℤ → List ℤ → Type 0
NearBlocks a b = Near (read a).params (read b).params

module _ (ca cb : List Call) (a b : List ℤ) (ok_a : T (accepted_state a)) (ok_b : T (accepted_state b)) (k : Common 5 (frames ca a) (frames cb b)) where
  all : Rest 0 (NearBlocks a b) (run (taken ca) (read a)) (run (taken ca) (read b))
  all =
      let x = run_a ca cb a b ok_a ok_b k.same in
      lead 0 4 refl (taken ca) (read a) (read b) (subst (λ (l : List FrameValues). All (λ u. u.call.kind ≡ 0) (take 5 l)) x k.voice) (at_start (read a).params (read b).params)
      (λ e. subst (λ (l : List FrameValues). All PassesParity (take 1 l)) x k.parity)

  pub after_five : Through (frames ca a) (frames cb b)
  after_five =
      let x = run_a ca cb a b ok_a ok_b k.same in
      let y = run_b ca cb a b ok_a ok_b k.same in
      let u = all.values in
      record {
        delays_from_1 = rw (x, y) u.delays;
        pitch_gains_from_1 = rw (x, y) u.pitch;
        fixed_gains_from_3 = rw (x, y) u.fixed;
        frequencies_from_5 = rw (x, y) u.lsf;
        filters_from_6 = rw (x, y) u.filters;
      }

  pub near_pulses : NearBlocks a b → SamePulses (frames ca a) (frames cb b)
  near_pulses s =
      let x = run_a ca cb a b ok_a ok_b k.same in
      let y = run_b ca cb a b ok_a ok_b k.same in
      record { pulses_from_2 = rw (x, y) (all.pulses s); samples_from_6 = rw (x, y) (λ n l e. all.samples s (n - 1) (omega arith) e) }

  pub left_same : 5 ≤ length (frames ca a) → Same (state_after (taken ca) (read a)).params (state_after (taken ca) (read b)).params
  left_same l =
      let x = run_a ca cb a b ok_a ok_b k.same in
      lead_left 0 4 refl (taken ca) (read a) (read b) (subst (λ (u : List FrameValues). 5 ≤ length u) x l) (subst (λ (u : List FrameValues). All (λ v. v.call.kind ≡ 0) (take 5 u)) x k.voice)
      (at_start (read a).params (read b).params) (λ e. subst (λ (u : List FrameValues). All PassesParity (take 1 u)) x k.parity)

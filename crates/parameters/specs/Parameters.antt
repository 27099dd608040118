-- A frame's parameters, part by part (G.729 clauses 4.1 and 4.4): from the fields of a frame that was received, or by concealment. They never read the signal.
use Rattle.std.specs.Prelude.{ℕ, ◌%◌, List, [], ◌∷◌, ℤ, pos}
use Rattle.tables.specs.declared.Scalar.TheVariants.{FixedCodebookPulsePositive, LsfToLspFrequencyScale}
use Rattle.tables.specs.Layout.{scalar}
use Rattle.bitstream.specs.declared.SpeechParams.{SpeechParams}
use Rattle.lsp.specs.Lsp.{new_row, decode_lsf, erased_row, lsf_to_lsp, interpolate}
use Rattle.lpc.specs.Lpc.{lsp_to_lp}
use Rattle.pitch.specs.declared.Delay.{Delay}
use Rattle.pitch.specs.declared.PitchState.{PitchState}
use Rattle.pitch.specs.declared.Delays.{Delays}
use Rattle.pitch.specs.Pitch.{voice_delays, concealed_delays}
use Rattle.fixed.specs.Fixed.{random_index, codevector, sharpen}
use Rattle.gain.specs.declared.GainState.{GainState}
use Rattle.gain.specs.Gain as gain
use Rattle.plc.specs.declared.Decision.{Decision}
use Rattle.plc.specs.declared.Decision.TheVariants.{Voice, Concealment}
use Rattle.state.specs.declared.Params.{Params}
use Rattle.parameters.specs.declared.Subframe.{Subframe}
use Rattle.parameters.specs.declared.Decoded.{Decoded}
use Rattle.parameters.specs.declared.Spectrum.{Spectrum}
use Rattle.parameters.specs.declared.Code.{Code}
use Rattle.parameters.specs.declared.Codes.{Codes}
use Rattle.parameters.specs.declared.Draws.{Draws}

-- ---- the spectrum

abbrev pub past_rows : Params → List (List ℤ)
past_rows p = p.r0 ∷ p.r1 ∷ p.r2 ∷ p.r3 ∷ []

abbrev pub to_lsp : List ℤ → List ℤ → List ℤ
to_lsp t omega = lsf_to_lsp (scalar t LsfToLspFrequencyScale) omega

-- the coefficients of synthesis; the first subframe has the LSP halfway from the frame before (clause 3.2.5)
unfoldable pub to_spectrum : List ℤ → (row omega previous : List ℤ) → Spectrum
to_spectrum t row omega previous =
    let lsp = to_lsp t omega in
    record { row = row; omega = omega; lsp = lsp; a1 = lsp_to_lp (interpolate previous lsp); a2 = lsp_to_lp lsp }

-- clause 4.1.1
unfoldable pub voice_spectrum : List ℤ → SpeechParams → Params → Spectrum
voice_spectrum t f p =
    let row = new_row t f.l1 f.l2 f.l3 in
    to_spectrum t row (decode_lsf t f.l0 row (past_rows p)) p.lsp

-- clause 4.4.1: the last LSF again, and the row that gives them with the predictor of the last voice frame
unfoldable pub concealed_spectrum : List ℤ → Params → Spectrum
concealed_spectrum t p = to_spectrum t (erased_row t p.predictor p.omega (past_rows p)) p.omega p.lsp

-- ---- codevectors and gains

-- the codevector of clauses 4.1.4 and 4.4.4, sharpened with this subframe's delay and with the factor that the subframe before left
-- (equations (45) and (48))
unfoldable pub sharpened : List ℤ → ℤ → (index sign : ℕ) → Delay → List ℤ
sharpened t beta index sign delay = sharpen (codevector (scalar t FixedCodebookPulsePositive) index sign) delay.integer beta

-- a subframe's codevector and gains, with the factor that sharpens the next (equation (47))
unfoldable pub coded : List ℤ → List ℤ → GainState → Code
coded t vector g = record { vector = vector; gain = g; beta = gain.sharpening t g.gp }

-- clauses 4.1.4 and 4.1.5
unfoldable pub voice_codes : List ℤ → SpeechParams → Delays → GainState → (beta : ℤ) → Codes
voice_codes t f d g beta =
    let code1 = sharpened t beta f.c1 f.s1 d.first in
    let first = coded t code1 (gain.decode t f.ga1 f.gb1 code1 g) in
    let code2 = sharpened t first.beta f.c2 f.s2 d.second in
    record { first = first; second = coded t code2 (gain.decode t f.ga2 f.gb2 code2 first.gain) }

-- clause 4.4.4: index and signs of each subframe are drawn, four draws in all
unfoldable pub draw : ℤ → Draws
draw seed =
    let first = random_index seed in
    record { first = first; second = random_index first.seed }

-- clauses 4.4.2 to 4.4.4: attenuated gains, random pulses
unfoldable pub concealed_codes : List ℤ → Draws → Delays → GainState → (beta : ℤ) → Codes
concealed_codes t w d g beta =
    let code1 = sharpened t beta w.first.index w.first.sign d.first in
    let first = coded t code1 (gain.conceal t g) in
    let code2 = sharpened t first.beta w.second.index w.second.sign d.second in
    record { first = first; second = coded t code2 (gain.conceal t first.gain) }

-- ---- what the parts make

-- code is the sharpened codevector, a the coefficients of synthesis
unfoldable pub subframe : Delay → GainState → (code a : List ℤ) → Subframe
subframe delay gains code a = record { delay = delay; gp = gains.gp; gc = gains.gc; code = code; a = a }

-- the parameters that a frame leaves: the new row in front of the three newest
unfoldable pub next_params : Params → (predictor seed : ℤ) → Spectrum → PitchState → Code → Params
next_params p predictor seed s pitch c =
    record {
      r0 = s.row;
      r1 = p.r0;
      r2 = p.r1;
      r3 = p.r2;
      predictor = predictor;
      omega = s.omega;
      lsp = s.lsp;
      pitch = pitch;
      seed = seed;
      gain = c.gain;
      beta = c.beta;
    }

unfoldable pub to_decoded : Params → (predictor seed : ℤ) → Spectrum → Delays → Codes → Decoded
to_decoded p predictor seed s d c =
    record {
      first = subframe d.first c.first.gain c.first.vector s.a1;
      second = subframe d.second c.second.gain c.second.vector s.a2;
      params = next_params p predictor seed s d.state c.second;
    }

-- clause 4.1: a frame that was received leaves the seed alone
unfoldable pub voice : List ℤ → SpeechParams → Params → Decoded
voice t f p =
    let d = voice_delays p.pitch.old f.p1 f.p0 f.p2 in
    to_decoded p (pos (f.l0 % 2)) p.seed (voice_spectrum t f p) d (voice_codes t f d p.gain p.beta)

-- clause 4.4: a frame that was not received
unfoldable pub conceal : List ℤ → Params → Decoded
conceal t p =
    let w = draw p.seed in
    let d = concealed_delays p.pitch.old in
    to_decoded p p.predictor w.second.seed (concealed_spectrum t p) d (concealed_codes t w d p.gain p.beta)

unfoldable pub parameters : List ℤ → Decision → Params → Decoded
parameters t (Voice f) p = voice t f p
parameters t Concealment p = conceal t p

-- The state block (01, "The table block and the state block"): 234 words, and the values that they stand for.
use Rattle.std.specs.Prelude.{ℕ, Bool, cond, ◌&&◌, List, [], ◌∷◌, ◌++◌, eqb, ℤ, pos, length, replicate}
use Rattle.std.specs.Int.Signed.{le_z}
use Rattle.laws.specs.Lists.{at}
use Rattle.block.specs.Places.{past_length, tail_length, past_place, tail_place, state_length}
use Rattle.tables.specs.declared.Scalar.TheVariants.{InitialPreviousPitchDelay}
use Rattle.tables.specs.Layout.{initial_lsp, scalar, table_check}
unfoldable pub use Rattle.block.specs.Block.{part}
unfoldable pub use Rattle.tables.specs.Layout.{delay_in_range}
use Rattle.tables.specs.Formula.{lsp_quantizer_initial_memory, gain_predictor_initial_memory}
use Rattle.state.specs.declared.Params.{Params}

-- words 70 to 233: the last 154 words of excitation and the last ten samples, oldest first
pub record Signal : Type 0 where
  pub past : List ℤ
  pub tail : List ℤ

pub record State : Type 0 where
  pub params : Params
  pub signal : Signal

-- ---- from a block to values, and back

unfoldable pub read_params : List ℤ → Params
read_params b =
    record {
      r0 = part b 0 10;
      r1 = part b 10 10;
      r2 = part b 20 10;
      r3 = part b 30 10;
      predictor = at b 40;
      omega = part b 41 10;
      lsp = part b 51 10;
      pitch = record { old = at b 61 };
      seed = at b 62;
      gain = record { mem = part b 63 4; gp = at b 67; gc = at b 68 };
      beta = at b 69;
    }

unfoldable pub read_signal : List ℤ → Signal
read_signal b = record { past = part b past_place past_length; tail = part b tail_place tail_length }

unfoldable pub read : List ℤ → State
read b = record { params = read_params b; signal = read_signal b }

-- words 0 to 60: the quantizer's memory, and the LSF and LSP of the frame before
unfoldable pub lsp_params : Params → List ℤ
lsp_params p = p.r0 ++ (p.r1 ++ (p.r2 ++ (p.r3 ++ (p.predictor ∷ (p.omega ++ p.lsp)))))

-- words 61 to 69: the delay, the seed, the gains and the sharpening factor
unfoldable pub excitation_params : Params → List ℤ
excitation_params p = p.pitch.old ∷ p.seed ∷ (p.gain.mem ++ (p.gain.gp ∷ p.gain.gc ∷ p.beta ∷ []))

unfoldable pub write_params : Params → List ℤ
write_params p = lsp_params p ++ excitation_params p

unfoldable pub write : State → List ℤ
write s = write_params s.params ++ (s.signal.past ++ s.signal.tail)

-- ---- the fresh state (01; G.729 clause 4.3, Table 9, and clause 4.4.4; `Decoder::new` of the Rust)

unfoldable pub fresh_params : List ℤ → Params
fresh_params t =
    record {
      r0 = lsp_quantizer_initial_memory;
      r1 = lsp_quantizer_initial_memory;
      r2 = lsp_quantizer_initial_memory;
      r3 = lsp_quantizer_initial_memory;
      predictor = pos 0;
      omega = lsp_quantizer_initial_memory;
      lsp = initial_lsp t;
      pitch = record { old = scalar t InitialPreviousPitchDelay };
      -- clause 4.4.4
      seed = pos 21845;
      gain = record { mem = gain_predictor_initial_memory; gp = pos 0; gc = pos 0 };
      -- 0.2 in Q14, the least of equation (47)
      beta = pos 3277;
    }

unfoldable pub fresh : List ℤ → State
fresh t = record { params = fresh_params t; signal = record { past = replicate past_length (pos 0); tail = replicate tail_length (pos 0) } }

-- ---- refusals

unfoldable pub predictor_in_range : ℤ → Bool
predictor_in_range p = le_z (pos 0) p && le_z p (pos 1)

-- predictor and delay are in range
unfoldable pub accepted : Params → Bool
accepted p = predictor_in_range p.predictor && delay_in_range p.pitch.old

-- 3: not 234 words. 4: predictor or delay out of range.
unfoldable pub state_check : List ℤ → ℕ
state_check b = cond (eqb (length b) state_length) (cond (accepted (read_params b)) 0 4) 3

-- a block to which refusals 3 and 4 don't apply
unfoldable pub accepted_state : List ℤ → Bool
accepted_state b = eqb (length b) state_length && accepted (read_params b)

-- ---- the operation Fresh state

-- the number returned, and the state block as the call leaves it
pub data Answer : Type 0 where
  answer : ℕ → List ℤ → Answer

-- 1, 2: the table check. 3: not 234 words. Success writes the fresh state; a refusal leaves the block as it was.
unfoldable pub fresh_state : List ℤ → List ℤ → Answer
fresh_state t b =
    cond (eqb (table_check t) 0)
    (cond (eqb (length b) state_length) (answer 0 (write (fresh t))) (answer 3 b))
    (answer (table_check t) b)

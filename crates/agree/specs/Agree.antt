-- How far two decoders agree from here on, through every list of frames that both receive (change request 13), told by their state blocks: words 0 to 69 are the parameters, of which
-- word 62 is the seed of an erased frame's pulses (G.729 clause 4.4.4), words 70 to 233 the signal (01, "The table block and the state block").
use Rattle.std.specs.Prelude.{ℕ, ◌+◌, ◌%◌, ◌^◌, Bool, cond, ◌&&◌, ◌||◌, Result, Ok, Err, List, eqb, ℤ, length}
use Rattle.std.specs.Int.Signed.{lt_z}
use Rattle.laws.specs.Lists.{at}
use Rattle.laws.specs.Loops.{nowhere}
use Rattle.block.specs.Places.{past_length, tail_length, past_place, state_length}
use Rattle.basic_op.specs.Ops.{low16}
use Rattle.state.specs.State.{read_params, accepted}
use Rattle.agree.specs.declared.Agreement.{Agreement}
use Rattle.agree.specs.declared.Agreement.TheVariants.{Nothing, Parameters, Pulses, Samples}

-- ---- what is compared

-- words p to p + n - 1 of two blocks are equal: none of them is less in one than in the other (`equal_word` and `words_equal` of specs/Laws.antt: this is so just where they are equal)
unfoldable pub equal_words : List ℤ → List ℤ → ℕ → ℕ → Bool
equal_words a b p n = nowhere (λ k. lt_z (at a (p + k)) (at b (p + k)) || lt_z (at b (p + k)) (at a (p + k))) n

-- words 0 to 69, the parameters, but for word 62, the seed, which no voice frame reads
unfoldable pub same_parameters : List ℤ → List ℤ → Bool
same_parameters a b = equal_words a b 0 62 && equal_words a b 63 7

-- the 13 low bits of the seeds: of a draw a concealed frame uses 13 bits and 4 (G.729 clause 4.4.4), and these are made of the 13 low bits of the seed alone
unfoldable pub same_seed_bits : List ℤ → List ℤ → Bool
same_seed_bits a b = eqb (low16 (at a 62) % 2 ^ 13) (low16 (at b 62) % 2 ^ 13)

-- words 70 to 233: past excitation and last ten samples
unfoldable pub same_signal : List ℤ → List ℤ → Bool
same_signal a b = equal_words a b past_place (past_length + tail_length)

-- ---- refusals

-- 3: one of the blocks isn't 234 words. 4: in one of them predictor or delay is out of range
unfoldable pub refusal : List ℤ → List ℤ → ℕ
refusal a b = cond (eqb (length a) state_length && eqb (length b) state_length) (cond (accepted (read_params a) && accepted (read_params b)) 0 4) 3

-- ---- the answer

unfoldable pub agreement : List ℤ → List ℤ → Agreement
agreement a b = cond (same_parameters a b) (cond (same_seed_bits a b) (cond (same_signal a b) Samples Pulses) Parameters) Nothing

unfoldable pub agree : List ℤ → List ℤ → Result Agreement ℕ
agree a b = let n = refusal a b in cond (eqb n 0) (Ok (agreement a b)) (Err n)

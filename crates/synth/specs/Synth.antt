-- Excitation (ITU-T G.729, equation (75)) and reconstructed speech (clause 4.1.6). The synthesis filter, and how a frame's excitation and speech lie, are in specs/Filter.antt of synth_filter.
use Rattle.std.specs.Prelude.{◌+◌, ◌^◌, Bool, cond, List, map, ℤ, pos}
use Rattle.std.specs.Int.Signed.{shr_z}
use Rattle.laws.specs.Lists.{at}
use Rattle.laws.specs.Loops.{run}
use Rattle.basic_op.specs.Ops.{l_mult, l_mac, l_shl, round}
use Rattle.block.specs.Places.{exc_start, subframe_length}
use Rattle.synth_filter.specs.Filter.{synthesis, saturates}

-- ---- excitation

-- equation (75), u(n) = gp v(n) + gc c(n): v in Q0, c in Q13, gp in Q14, gc in Q1; the result in Q0 is rounded
unfoldable pub excite : ℤ → ℤ → ℤ → ℤ → ℤ
excite gp gc v c = round (l_shl (l_mac (l_mult v gp) c gc) (pos 1))

-- the subframe's words, which hold the adaptive vector v, become u
unfoldable pub excitation : Bool → List ℤ → ℤ → ℤ → List ℤ → List ℤ
excitation second code gp gc exc = run (λ n e. excite gp gc (at e (exc_start second + n)) (at code n)) (exc_start second) subframe_length exc

-- ---- reconstruction

-- each word is shifted right by 2, which rounds down
unfoldable pub divide_by_4 : List ℤ → List ℤ
divide_by_4 exc = map (λ x. shr_z x (2 ^ 2)) exc

-- clause 4.1.6 with the bit-exact arithmetic of clause 5, as the Rust's `reconstruct` does it: if the synthesis saturates, the whole
-- excitation is divided by 4 and synthesis runs again, once, from the same past samples; whether that one saturates changes nothing
unfoldable pub reconstruct_exc : Bool → List ℤ → List ℤ → List ℤ → List ℤ
reconstruct_exc second a exc speech = cond (saturates second a exc speech) (divide_by_4 exc) exc

unfoldable pub reconstruct_speech : Bool → List ℤ → List ℤ → List ℤ → List ℤ
reconstruct_speech second a exc speech = synthesis second a (reconstruct_exc second a exc speech) speech

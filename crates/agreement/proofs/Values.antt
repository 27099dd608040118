-- The rows of specs/Values.antt: those that stand in the stages' own files are cited, the others computed.
use mathlib.Core.Path.{◌≡◌, refl}
use mathlib.Core.Bool.{false}
use mathlib.Core.List.{List}
use lib.IntN.{ℤ, pos}
use lib.ListN.{replicate}
use Rattle.basic_op.specs.Ops.{low16, extract_l}
use Rattle.basic_op.specs.Values as operators
use Rattle.bitstream.specs.Fields.{unpack}
use Rattle.pitch.specs.Pitch.{parity_ok}
use Rattle.pitch.specs.Values as delays
use Rattle.fixed.specs.Fixed.{random, random_index}
use Rattle.fixed.specs.Values as pulses
use Rattle.state.specs.State.{fresh_params}
use Rattle.agreement.specs.Values.{Values}
use Rattle.agreement.proofs.Compute.{Stages}

parity_zeros : parity_ok (unpack (replicate 10 0)).p1 (unpack (replicate 10 0)).p0 ≡ false
unfolding Stages
parity_zeros = refl

fresh_draw : (t : List ℤ) → random (fresh_params t).seed ≡ pos 3242
unfolding random fresh_params extract_l low16
fresh_draw t = refl

next_draw : (t : List ℤ) → random (random (fresh_params t).seed) ≡ pos 23867
unfolding random fresh_params extract_l low16
next_draw t = refl

drawn : random_index (pos 21845) ≡ record { index = 3242; sign = 11; seed = pos 23867 }
unfolding random_index random extract_l low16
drawn = refl

pub values : Values
values =
    record {
      p1_0 = delays.p1_0;
      p1_196 = delays.p1_196;
      p1_197 = delays.p1_197;
      p1_255 = delays.p1_255;
      p2_0_20 = delays.p2_0_20;
      p2_0_144 = delays.p2_0_144;
      p2_31_20 = delays.p2_31_20;
      p2_31_144 = delays.p2_31_144;
      erased_144 = delays.erased_144;
      parity_0_1 = delays.parity_0_1;
      parity_zeros = parity_zeros;
      fresh_draw = fresh_draw;
      next_draw = next_draw;
      drawn = drawn;
      positions = pulses.positions;
      signs = pulses.signs;
      l_mult_least = operators.l_mult_least;
      norm_l_zero = operators.norm_l_zero;
      norm_l_one = operators.norm_l_one;
      norm_l_minus_one = operators.norm_l_minus_one;
    }

-- The values of the definitions that 01 wants proved ("Values to prove and values to run"), as rows under one theorem.
use Rattle.std.specs.Prelude.{◌≡◌, true, false, List, ℤ, pos, negsuc, replicate}
use Rattle.basic_op.specs.Ops.{l_mult, norm_l}
use Rattle.bitstream.specs.Fields.{unpack}
use Rattle.pitch.specs.Pitch.{parity_ok, decode_t1, decode_t2, erased}
use Rattle.fixed.specs.Fixed.{random, random_index, position, pulse}
use Rattle.state.specs.State.{fresh_params}

pub record Values : Type 0 where
  -- P1 = 0 gives 19 and 1; 196 gives 85 and -1; 197 gives 85 and 0; 255 gives 143 and 0
  pub p1_0 : decode_t1 0 ≡ record { integer = pos 19; fraction = pos 1 }
  pub p1_196 : decode_t1 196 ≡ record { integer = pos 85; fraction = negsuc 0 }
  pub p1_197 : decode_t1 197 ≡ record { integer = pos 85; fraction = pos 0 }
  pub p1_255 : decode_t1 255 ≡ record { integer = pos 143; fraction = pos 0 }
  -- from first delay 20 or 144, P2 = 0 gives 19 or 133, fraction 1; P2 = 31 gives 30 or 144, fraction -1
  pub p2_0_20 : decode_t2 0 (pos 20) ≡ record { integer = pos 19; fraction = pos 1 }
  pub p2_0_144 : decode_t2 0 (pos 144) ≡ record { integer = pos 133; fraction = pos 1 }
  pub p2_31_20 : decode_t2 31 (pos 20) ≡ record { integer = pos 30; fraction = negsuc 0 }
  pub p2_31_144 : decode_t2 31 (pos 144) ≡ record { integer = pos 144; fraction = negsuc 0 }
  -- an erased subframe with 144 uses 144 and carries 143
  pub erased_144 : erased (pos 144) ≡ record { delay = record { integer = pos 144; fraction = pos 0 }; state = record { old = pos 143 } }
  -- P1 = 0 with P0 = 1 passes
  pub parity_0_1 : parity_ok 0 1 ≡ true
  -- ten zero bytes fail parity
  pub parity_zeros : parity_ok (unpack (replicate 10 0)).p1 (unpack (replicate 10 0)).p0 ≡ false
  -- the fresh seed draws 3242, then 23867
  pub fresh_draw : (t : List ℤ) → random (fresh_params t).seed ≡ pos 3242
  pub next_draw : (t : List ℤ) → random (random (fresh_params t).seed) ≡ pos 23867
  -- which are index 3242 and signs 11
  pub drawn : random_index (pos 21845) ≡ record { index = 3242; sign = 11; seed = pos 23867 }
  -- index 3242 with signs 11 gives positions 10, 26, 12, 18
  pub positions : (position 3242 0 ≡ 10) × (position 3242 1 ≡ 26) × (position 3242 2 ≡ 12) × (position 3242 3 ≡ 18)
  -- all positive but the third; p is the table's positive amplitude
  pub signs : (p : ℤ) → (pulse p 11 0 ≡ p) × (pulse p 11 1 ≡ p) × (pulse p 11 2 ≡ negsuc 8191) × (pulse p 11 3 ≡ p)
  -- l_mult of -32768 by itself is 2147483647
  pub l_mult_least : l_mult (negsuc 32767) (negsuc 32767) ≡ pos 2147483647
  -- norm_l of 0, 1, -1 is 0, 30, 31
  pub norm_l_zero : norm_l (pos 0) ≡ pos 0
  pub norm_l_one : norm_l (pos 1) ≡ pos 30
  pub norm_l_minus_one : norm_l (negsuc 0) ≡ pos 31

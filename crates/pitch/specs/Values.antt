-- Lemmas for `values` of agreement, which gathers the values that 01 wants proved.
use Rattle.std.specs.Prelude.{◌≡◌, refl, true, pos, negsuc}
use Rattle.laws.specs.Loops.{steps}
use Rattle.basic_op.specs.Ops.{lesser}
use Rattle.pitch.specs.Pitch.{nat, parity_ok, decode_t1, decode_t2, increased, erased}

pub p1_0 : decode_t1 0 ≡ record { integer = pos 19; fraction = pos 1 }
unfolding decode_t1
p1_0 = refl

pub p1_196 : decode_t1 196 ≡ record { integer = pos 85; fraction = negsuc 0 }
unfolding decode_t1
p1_196 = refl

pub p1_197 : decode_t1 197 ≡ record { integer = pos 85; fraction = pos 0 }
unfolding decode_t1
p1_197 = refl

pub p1_255 : decode_t1 255 ≡ record { integer = pos 143; fraction = pos 0 }
unfolding decode_t1
p1_255 = refl

pub p2_0_20 : decode_t2 0 (pos 20) ≡ record { integer = pos 19; fraction = pos 1 }
unfolding decode_t2 nat
p2_0_20 = refl

pub p2_0_144 : decode_t2 0 (pos 144) ≡ record { integer = pos 133; fraction = pos 1 }
unfolding decode_t2 nat
p2_0_144 = refl

pub p2_31_20 : decode_t2 31 (pos 20) ≡ record { integer = pos 30; fraction = negsuc 0 }
unfolding decode_t2 nat
p2_31_20 = refl

pub p2_31_144 : decode_t2 31 (pos 144) ≡ record { integer = pos 144; fraction = negsuc 0 }
unfolding decode_t2 nat
p2_31_144 = refl

-- an erased subframe with 144 uses 144 and carries 143
pub erased_144 : erased (pos 144) ≡ record { delay = record { integer = pos 144; fraction = pos 0 }; state = record { old = pos 143 } }
unfolding erased increased lesser
erased_144 = refl

-- P1 = 0 with P0 = 1 passes
pub parity_0_1 : parity_ok 0 1 ≡ true
unfolding parity_ok steps
parity_0_1 = refl

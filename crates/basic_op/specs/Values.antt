-- Lemmas for `values` of agreement, which gathers the values that 01 wants proved.
use Rattle.std.specs.Prelude.{◌≡◌, refl, pos, negsuc}
use Rattle.basic_op.specs.Ops.{sat, l_mult, norm_l, doublings, normal}

pub l_mult_least : l_mult (negsuc 32767) (negsuc 32767) ≡ pos 2147483647
unfolding l_mult sat
l_mult_least = refl

pub norm_l_zero : norm_l (pos 0) ≡ pos 0
unfolding norm_l
norm_l_zero = refl

pub norm_l_one : norm_l (pos 1) ≡ pos 30
unfolding norm_l doublings normal
norm_l_one = refl

pub norm_l_minus_one : norm_l (negsuc 0) ≡ pos 31
unfolding norm_l doublings normal
norm_l_minus_one = refl

-- `synth_filter::second_of_two` meets its contract: the difference is rounded.
use mathlib.Core.Path.{◌≡◌, subst, ◌∙◌}
use native.Mathlib.Omega.{arith}
use lib.IntN.{ℤ, ◌*ℤ◌, ◌-ℤ◌}
use mir.Syntax.{w16, w64}
use mir.Val.{to_z, of_z}
use mir.Facts.{to_z-of_z}
use Rattle.laws.specs.Lists.{at}
use Rattle.laws.specs.Back.{via}
use Rattle.synth_filter.specs.Fast.{Rounded}
use Rattle.synth_filter.specs.Pairs.{next_fits}
use Rattle.synth_filter.proofs.second_of_two.Goals as goal
use Rattle.synth_filter.proofs.second_of_two.Goals.{After-product}

pub overflow_sub-sum : goal.overflow_sub-sum
overflow_sub-sum c = rw (to_z-of_z c.ranges.sum, via w64 c.product.result c.product.type_inv) (next_fits c.args.sum c.product.result c.requires c.product.ensures.result_bound)

difference : (c : After-product)
    → to_z w64 (of_z w64 (to_z w64 (of_z w64 c.args.sum) -ℤ to_z w64 (of_z w64 c.product.result))) ≡ c.args.sum -ℤ at c.args.a.now 1 *ℤ c.args.first
difference c =
    to_z-of_z (overflow_sub-sum c) ∙ rw (to_z-of_z c.ranges.sum, via w64 c.product.result c.product.type_inv, c.product.ensures.value, via w16 (at c.args.a.now 1) c.product-arg-1.given, to_z-of_z c.ranges.first)

pub returns : goal.returns
returns c = rw (difference c.before) at c.rounded.ensures

pub bounds-a-1 : goal.bounds-a-1
bounds-a-1 c = omega arith

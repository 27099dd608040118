-- `synth::excite_whole` meets its contract: sums and products fit, and the clamp of the rounded sum is the word.
use Prim.Native.Nat.{◌^◌}
use mathlib.Core.Path.{◌≡◌, ap, ◌∙◌}
use lib.IntN.{ℤ, pos, ◌+ℤ◌, ◌*ℤ◌}
use lib.Signed.{shr_z}
use mir.Syntax.{w16, w32}
use mir.Val.{to_z, of_z}
use mir.Facts.{to_z-of_z, sfits_widen}
use Rattle.laws.specs.Range.{fits_mul}
use Rattle.laws.specs.Back.{via, keep}
use Rattle.basic_op.specs.Ops.{sat16}
use Rattle.synth.specs.FastLaws.{excite_whole, excite_fits, excite_round_fits}
use Rattle.synth.proofs.excite_whole.Goals as goal
use Rattle.synth.proofs.excite_whole.Goals.{Start}

pub overflow_cast-sum : goal.overflow_cast-sum
overflow_cast-sum c = sfits_widen tt (keep w16 tt c.ranges.v)

pub overflow_cast-sum-2 : goal.overflow_cast-sum-2
overflow_cast-sum-2 c = sfits_widen tt (keep w16 tt c.ranges.gp)

pub overflow_mul-sum : goal.overflow_mul-sum
overflow_mul-sum c = fits_mul w16 w16 w32 _ _ (keep w32 tt (keep w16 tt c.ranges.v)) (keep w32 tt (keep w16 tt c.ranges.gp)) tt

pub overflow_cast-sum-3 : goal.overflow_cast-sum-3
overflow_cast-sum-3 c = sfits_widen tt (keep w16 tt c.ranges.c)

pub overflow_cast-sum-4 : goal.overflow_cast-sum-4
overflow_cast-sum-4 c = sfits_widen tt (keep w16 tt c.ranges.gc)

pub overflow_mul-sum-2 : goal.overflow_mul-sum-2
overflow_mul-sum-2 c = fits_mul w16 w16 w32 _ _ (keep w32 tt (keep w16 tt c.ranges.c)) (keep w32 tt (keep w16 tt c.ranges.gc)) tt

pub overflow_add-sum : goal.overflow_add-sum
overflow_add-sum c =
    rw (to_z-of_z (overflow_mul-sum c), to_z-of_z (overflow_mul-sum-2 c), to_z-of_z (overflow_cast-sum c), to_z-of_z (overflow_cast-sum-2 c), to_z-of_z (overflow_cast-sum-3 c), to_z-of_z (overflow_cast-sum-4 c), to_z-of_z c.ranges.v, to_z-of_z c.ranges.gp, to_z-of_z c.ranges.c, to_z-of_z c.ranges.gc)
    (excite_fits c.args.gp c.args.gc c.args.v c.args.c c.requires.gp_bound c.requires.gc_bound c.ranges.v c.ranges.c)

-- what the code has as the sum is the sum
sum_is : (c : Start) → to_z w32 (of_z w32 (to_z w32 (of_z w32 (to_z w32 (of_z w32 (to_z w16 (of_z w16 c.args.v))) *ℤ to_z w32 (of_z w32 (to_z w16 (of_z w16 c.args.gp))))) +ℤ to_z w32 (of_z w32 (to_z w32 (of_z w32 (to_z w16 (of_z w16 c.args.c))) *ℤ to_z w32 (of_z w32 (to_z w16 (of_z w16 c.args.gc))))))) ≡ c.args.v *ℤ c.args.gp +ℤ c.args.c *ℤ c.args.gc
sum_is c = cc (to_z-of_z (overflow_add-sum c), to_z-of_z (overflow_mul-sum c), to_z-of_z (overflow_mul-sum-2 c), to_z-of_z (overflow_cast-sum c), to_z-of_z (overflow_cast-sum-2 c), to_z-of_z (overflow_cast-sum-3 c), to_z-of_z (overflow_cast-sum-4 c), to_z-of_z c.ranges.v, to_z-of_z c.ranges.gp, to_z-of_z c.ranges.c, to_z-of_z c.ranges.gc)

pub overflow_add-sum-2 : goal.overflow_add-sum-2
overflow_add-sum-2 c = rw (sum_is c) (excite_round_fits c.args.gp c.args.gc c.args.v c.args.c c.requires.gp_bound c.requires.gc_bound c.ranges.v c.ranges.c)

pub returns : goal.returns
returns c =
    via w16 c.sat16.result c.sat16.type_inv ∙ c.sat16.ensures
    ∙ ap (λ (z : ℤ). sat16 z) (via w32 c.sar32.result c.sar32.type_inv ∙ c.sar32.ensures ∙ ap (λ (z : ℤ). shr_z z (2 ^ 14)) (to_z-of_z (overflow_add-sum-2 c.before.before) ∙ ap (λ (z : ℤ). z +ℤ pos 8192) (sum_is c.before.before)))
    ∙ excite_whole c.args.gp c.args.gc c.args.v c.args.c c.requires.gp_bound c.requires.gc_bound c.ranges.v c.ranges.c

-- `synth_filter::both` meets its contract: each half is a word.
use lib.IntN.{pos, ◌+ℤ◌, ◌*ℤ◌}
use mathlib.Core.Path.{◌≡◌}
use mir.Syntax.{w16, w64}
use mir.Val.{to_z, of_z}
use mir.Facts.{to_z-of_z}
use Rattle.laws.specs.Range.{fits_shl}
use Rattle.laws.specs.Back.{widens, wide, still}
use Rattle.synth_filter.specs.Fast.{both}
use Rattle.synth_filter.specs.Pairs.{both_words, both_fits}
use native.Mathlib.Omega.{arith}
use Rattle.synth_filter.proofs.both.Goals as goal
use Rattle.synth_filter.proofs.both.Goals.{Start}

pub overflow_mul-result : goal.overflow_mul-result
overflow_mul-result c = fits_shl w16 w64 _ 32 (still w64 tt c.ranges.q) (omega arith)

pub overflow_add-result : goal.overflow_add-result
overflow_add-result c = rw (to_z-of_z (overflow_mul-result c)) (both_fits _ _ (still w64 tt c.ranges.p) (still w64 tt c.ranges.q))

sum : (c : Start) → to_z w64 (of_z w64 (to_z w64 (of_z w64 (to_z w16 (of_z w16 c.args.p))) +ℤ to_z w64 (of_z w64 (to_z w64 (of_z w64 (to_z w16 (of_z w16 c.args.q))) *ℤ pos 4294967296)))) ≡ both c.args.p c.args.q
unfolding both
sum c = cc (to_z-of_z (overflow_add-result c), to_z-of_z (overflow_mul-result c), wide w64 tt c.ranges.p, wide w64 tt c.ranges.q)

pub returns : goal.returns
returns c = record { value = sum c; result_bound = rw (sum c) (both_words c.args.p c.args.q c.ranges.p c.ranges.q) }

pub overflow_cast-result : goal.overflow_cast-result
overflow_cast-result c = widens w64 tt c.ranges.p

pub overflow_cast-result-2 : goal.overflow_cast-result-2
overflow_cast-result-2 c = widens w64 tt c.ranges.q

-- `synth_filter::both_times` meets its contract: neither half leaves 31 bits.
use mir.Syntax.{w64}
use mir.Val.{to_z, of_z}
use mir.Facts.{to_z-of_z}
use Rattle.laws.specs.Back.{widens, wide, still}
use Rattle.synth_filter.specs.Pairs.{times_fits}
use Rattle.synth_filter.proofs.both_times.Goals as goal

pub overflow_mul-result : goal.overflow_mul-result
overflow_mul-result c = times_fits (to_z w64 (of_z w64 c.args.b)) _ (rw (to_z-of_z c.ranges.b) c.requires) (still w64 tt c.ranges.c)

pub returns : goal.returns
returns c = cc (to_z-of_z (overflow_mul-result c), wide w64 tt c.ranges.c, to_z-of_z c.ranges.b)

pub overflow_cast-result : goal.overflow_cast-result
overflow_cast-result c = widens w64 tt c.ranges.c

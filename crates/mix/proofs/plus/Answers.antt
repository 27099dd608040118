-- `mix::plus` meets its contract: eight samples of 16 bits have room in 32.
use mathlib.Core.Path.{◌∙◌}
use mir.Syntax.{w32}
use mir.Val.{to_z, of_z}
use mir.Facts.{to_z-of_z}
use Rattle.laws.specs.Back.{widens, wide, still}
use Rattle.mix.specs.Laws.{plus_fits}
use Rattle.mix.proofs.plus.Goals as goal

pub overflow_add-result : goal.overflow_add-result
overflow_add-result c = plus_fits (to_z w32 (of_z w32 c.args.sum)) _ (rw (to_z-of_z c.ranges.sum) c.requires) (still w32 tt c.ranges.sample)

pub returns : goal.returns
returns c = to_z-of_z (overflow_add-result c) ∙ rw (to_z-of_z c.ranges.sum, wide w32 tt c.ranges.sample)

pub overflow_cast-result : goal.overflow_cast-result
overflow_cast-result c = widens w32 tt c.ranges.sample

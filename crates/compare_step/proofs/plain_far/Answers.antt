-- `compare_step::plain_far` meets its contract.
use mathlib.Core.Path.{◌≡◌}
use lib.ListN.{length}
use mir.Facts.{to_z-of_z}
use Rattle.block.specs.Laws.{last_part}
use Rattle.std.proofs.Common.{rules}
use Rattle.compare_step.proofs.plain_far.Goals as goal

pub returns : goal.returns
returns c =
    let h : length c.args.y.now ≡ 80 = search rules in
    rw (to_z-of_z c.ranges.n, to_z-of_z c.ranges.status, c.words_at-tail.ensures, last_part 70 10 c.args.y.now h)

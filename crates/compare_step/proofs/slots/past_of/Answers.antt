-- `slots::past_of` meets its contract: the last 154 words.
use mathlib.Core.Path.{◌≡◌, ◌∙◌}
use lib.ListN.{length}
use Rattle.block.specs.Laws.{last_part}
use Rattle.std.proofs.Common.{rules}
use Rattle.compare_step.proofs.slots.past_of.Goals as goal

pub returns : goal.returns
returns c =
    let h : length c.args.exc.now ≡ 234 = search rules in
    c.words.ensures ∙ last_part 80 154 c.args.exc.now h

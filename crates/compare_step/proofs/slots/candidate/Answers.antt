-- `slots::candidate` meets its contract: the window's words, and the speech behind them.
use mathlib.Core.Path.{◌≡◌, ◌∙◌}
use lib.ListN.{length}
use Rattle.block.specs.Block.{put}
use Rattle.compare_step.proofs.Parts.{put_last}
use Rattle.compare_step.specs.Slots.{candidate}
use Rattle.std.proofs.Common.{rules}
use Rattle.compare_step.proofs.slots.candidate.Goals as goal

pub returns : goal.returns
unfolding candidate
returns c =
    let h : length c.args.e.now ≡ 10 = search rules in
    c.slot_of.ensures ∙ rw (c.window_words-past.ensures, c.put.ensures, put_last c.args.e.now h)

-- `job::put_head` meets its contract: the rows of the head, one behind another.
use Rattle.std.proofs.Common.{refl, arith}
use Rattle.words.specs.Laws.{total}
use Rattle.job.specs.Job.{state_at, widths, head}
use Rattle.job.specs.Laws.{front_numbers}
use Rattle.job.proofs.put_head.Goals as goal

pub returns : goal.returns
unfolding widths head total
returns c =
    front_numbers c.args.out.now _ _ widths (head c.args.p) 0 state_at (omega arith) c.requires refl refl c.put_numbers.ensures

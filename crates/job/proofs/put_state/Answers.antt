-- `job::put_state` meets its contract: the words, and the counts behind them.
use Rattle.std.proofs.Common.{arith, rules}
use Rattle.job.specs.Job.{count_widths}
use Rattle.job.specs.Laws.{front_state}
use Rattle.std.proofs.Common.{rules}
use Rattle.job.proofs.put_state.Goals as goal

pub returns : goal.returns
unfolding count_widths
returns c =
    front_state c.args.out.now _ _ _ _ c.args.block.now c.args.c _ c.requires (omega (arith, c.to_bytes-arg-1.given)) c.to_bytes.ensures c.numbers-values.ensures (search rules) c.put_numbers.ensures

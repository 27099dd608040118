-- `job::counts` meets its contract.
use Rattle.std.proofs.Common.{refl, ◌∙◌}
use Rattle.job.specs.Job.{count_widths, counts}
use Rattle.words.specs.Laws.{read_whole}
use Rattle.job.proofs.counts.Goals as goal

pub returns : goal.returns
unfolding counts count_widths
returns c = c.of_numbers.ensures ∙ rw (c.numbers.ensures, read_whole count_widths _ _ refl)

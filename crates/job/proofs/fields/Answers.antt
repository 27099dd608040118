-- `job::fields` meets its contract.
use Rattle.std.proofs.Common.{refl, ◌∙◌}
use Rattle.job.specs.Job.{widths, fields}
use Rattle.words.specs.Laws.{read_whole}
use Rattle.job.proofs.fields.Goals as goal

pub returns : goal.returns
unfolding fields widths
returns c = c.numbers.ensures ∙ read_whole widths _ _ refl

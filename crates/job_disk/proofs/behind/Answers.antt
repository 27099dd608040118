-- Where it goes on without saving, no state is due.
use Rattle.std.proofs.Common.{rules}
use Rattle.job_disk.specs.Laws.{not_due}
use Rattle.job_disk.proofs.behind.Goals as goal

pub returns : goal.returns
returns c = record { written = search rules; kept = not_due c.args.p c.args.d.saved _ c.due.ensures c.if-due.false }

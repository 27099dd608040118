-- `agree::agree` meets its contract: blocks that are not refused are whole.
use Rattle.std.proofs.Common.{sym}
use Rattle.agree.specs.Laws.{whole}
use Rattle.agree.proofs.agree.Goals as goal

pub agreed-requires-clause-a_length : goal.agreed-requires-clause-a_length
agreed-requires-clause-a_length c = (whole c.args.a.now c.args.b.now (sym c.in_ok-check.ensures)).0

pub agreed-requires-clause-b_length : goal.agreed-requires-clause-b_length
agreed-requires-clause-b_length c = (whole c.args.a.now c.args.b.now (sym c.in_ok-check.ensures)).1

-- `compare_step::breaks` meets its contract.
use mir.Syntax.{w16}
use Rattle.laws.specs.Back.{via}
use Rattle.compare_step.specs.Compare.{breaks}
use Rattle.compare_step.proofs.Parts.{Kept}
use Rattle.std.proofs.Common.{rules}
use Rattle.compare_step.proofs.breaks.Goals as goal
use Rattle.compare_step.proofs.breaks.Goals.{Start}

kept : (c : Start) → Kept c.args.h
kept c = search rules

pub returns : goal.returns
unfolding breaks
returns c =
    rw (via w16 c.args.h.status (kept (goal.at.returns c).Start).status, c.taken.ensures)

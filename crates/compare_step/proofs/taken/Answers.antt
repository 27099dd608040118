-- `compare_step::taken` meets its contract: the tests are those of the definition.
use mir.Syntax.{w16}
use Rattle.laws.specs.Back.{via}
use Rattle.compare_step.specs.Compare.{taken}
use Rattle.compare_step.proofs.Parts.{Kept}
use Rattle.std.proofs.Common.{rules}
use Rattle.compare_step.proofs.taken.Goals as goal
use Rattle.compare_step.proofs.taken.Goals.{Start}

kept : (c : Start) → Kept c.args.h
kept c = search rules

pub returns : goal.returns
unfolding taken
returns c =
    rw (via w16 c.args.h.clean (kept (goal.at.returns c).Start).clean, via w16 c.args.h.status (kept (goal.at.returns c).Start).status)

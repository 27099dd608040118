-- `compare_step::clean_after` meets its contract: each test picks its case.
use mathlib.Core.Path.{◌∙◌}
use mir.Syntax.{w16}
use Rattle.laws.specs.Back.{via}
use Rattle.compare_step.proofs.Parts.{Kept}
use Rattle.std.proofs.Common.{rules}
use Rattle.compare_step.proofs.clean_after.Goals as goal
use Rattle.compare_step.proofs.clean_after.Goals.{Start}

kept : (c : Start) → Kept c.args.h
kept c = search rules

pub returns-then-breaks : goal.returns-then-breaks
returns-then-breaks c = rw (← c.breaks.ensures, c.if-breaks.true)

pub returns : goal.returns
returns c =
    rw (← c.breaks.ensures, c.if-breaks.false) (via w16 c.next_clean.result c.next_clean.type_inv ∙ rw (c.next_clean.ensures, via w16 c.args.h.clean (kept (goal.at.returns c).Start).clean))

-- `far::Form::of` meets its contract: each test picks its case of the definition.
use mathlib.Core.Path.{sym, ◌∙◌}
use Rattle.far.specs.Far.{form}
use Rattle.far.proofs.Form.of.Goals as goal

pub returns-then-starts : goal.returns-then-starts
unfolding form
returns-then-starts c = rw (sym c.starts.ensures ∙ c.if-starts.true)

pub returns-then-starts-2 : goal.returns-then-starts-2
unfolding form
returns-then-starts-2 c =
    rw (sym c.starts.ensures ∙ c.if-starts.false, sym c.starts-2.ensures ∙ c.if-starts-2.true)

pub returns : goal.returns
unfolding form
returns c =
    rw (sym c.starts.ensures ∙ c.if-starts.false, sym c.starts-2.ensures ∙ c.if-starts-2.false)

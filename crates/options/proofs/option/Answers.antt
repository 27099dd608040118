-- `options::option` meets its contract: each way out rewrites with the tests that led there.
use mathlib.Core.Path.{sym, ◌∙◌}
use Rattle.std.proofs.Common.{ap, not}
use borrow.Author.Tests.{eq-eqb, ne_eqb}
use Rattle.options.specs.Options.{option}
use Rattle.options.specs.Laws.{some_byte}
use Rattle.options.proofs.option.Goals as goal

pub returns-then-same : goal.returns-then-same
unfolding option
returns-then-same c = rw (sym c.same.ensures ∙ c.if-same.true)

pub returns-then-same-2 : goal.returns-then-same-2
unfolding option
returns-then-same-2 c =
    rw (sym c.same.ensures ∙ c.if-same.false, sym c.same-2.ensures ∙ c.if-same-2.true)

pub returns-then-is_none : goal.returns-then-is_none
unfolding option
returns-then-is_none c =
    rw (
      sym c.same.ensures ∙ c.if-same.false,
      sym c.same-2.ensures ∙ c.if-same-2.false,
      sym c.same-3.ensures ∙ c.if-same-3.true,
      c.is_none.ensures ∙ ap not c.if-is_none.true,
    )

pub returns-then-same-3 : goal.returns-then-same-3
unfolding option
returns-then-same-3 c =
    rw (
      sym c.same.ensures ∙ c.if-same.false,
      sym c.same-2.ensures ∙ c.if-same-2.false,
      sym c.same-3.ensures ∙ c.if-same-3.true,
      c.is_none.ensures ∙ ap not c.if-is_none.false,
    )

pub bounds-word-0 : goal.bounds-word-0
bounds-word-0 c =
    some_byte c.args.word.now c.requires

pub returns-then-word-eq45 : goal.returns-then-word-eq45
unfolding option
returns-then-word-eq45 c =
    rw (
      sym c.same.ensures ∙ c.if-same.false,
      sym c.same-2.ensures ∙ c.if-same-2.false,
      sym c.same-3.ensures ∙ c.if-same-3.false,
      eq-eqb _ 45 c.if-word-eq45.true,
    )

pub returns : goal.returns
unfolding option
returns c =
    rw (
      sym c.same.ensures ∙ c.if-same.false,
      sym c.same-2.ensures ∙ c.if-same-2.false,
      sym c.same-3.ensures ∙ c.if-same-3.false,
      ne_eqb _ 45 c.if-word-eq45.false,
    )

-- `holdamek_count` meets its contract: the two tests, then the answer of `count::count` by its two cases.
use mathlib.Core.Path.{sym, ◌∙◌}
use Rattle.holdamek.specs.Lent.{lend_count, lend_counted}
use Rattle.holdamek.proofs.holdamek_count.Goals as goal

pub returns-then-not-kind_known : goal.returns-then-not-kind_known
unfolding lend_count
returns-then-not-kind_known c = rw (sym c.known-kind_known.ensures ∙ c.if-not-kind_known.true)

pub returns-then-not-rules_known : goal.returns-then-not-rules_known
unfolding lend_count
returns-then-not-rules_known c =
    rw (sym c.known-kind_known.ensures ∙ c.if-not-kind_known.false, sym c.rules_known-rules_known.ensures ∙ c.if-not-rules_known.true)

pub returns-in-Err : goal.returns-in-Err
unfolding lend_count lend_counted
returns-in-Err c =
    rw (
      sym c.known-kind_known.ensures ∙ c.if-not-kind_known.false,
      sym c.rules_known-rules_known.ensures ∙ c.if-not-rules_known.false,
      sym c.rules_of_numbers-rules.ensures,
      sym c.counts_of.ensures,
      sym c.count.ensures,
      c.in-Err.is,
      c.number.ensures,
    )

pub returns-in-Ok : goal.returns-in-Ok
unfolding lend_count lend_counted
returns-in-Ok c =
    rw (
      sym c.known-kind_known.ensures ∙ c.if-not-kind_known.false,
      sym c.rules_known-rules_known.ensures ∙ c.if-not-rules_known.false,
      sym c.rules_of_numbers-rules.ensures,
      sym c.counts_of.ensures,
      sym c.count.ensures,
      c.in-Ok.is,
      c.numbers_of.ensures,
    )

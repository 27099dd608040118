-- The answers of `arrival_line::number`.
use mathlib.Core.Path.{sym, ◌∙◌}
use native.Mathlib.Omega.{arith}
use borrow.Author.Tests.{eqb-true, eqb-false}
use Rattle.arrival_line.specs.ArrivalLine.{is_digit}
use Rattle.arrival_line.specs.Laws.{all_goes, value_goes, number_none, number_stops, number_over, number_ends}
use Rattle.arrival_line.proofs.number.Goals as goal

pub returns-then-is_empty : goal.returns-then-is_empty
returns-then-is_empty c = number_none _ (eqb-true _ _ (sym c.is_empty.ensures ∙ c.if-is_empty.true))

pub returns-then-not-is_ascii_digit : goal.returns-then-not-is_ascii_digit
unfolding is_digit
returns-then-not-is_ascii_digit c =
    number_stops c.args.text.now c.loop-b.b-index c.loop-b.n (omega arith) c.loop-b.invariant.1 c.loop-b.invariant.2 (sym c.if-not-is_ascii_digit.ensures.value)

pub returns-then-n-gt-MOST : goal.returns-then-n-gt-MOST
returns-then-n-gt-MOST c =
    number_over c.args.text.now c.loop-b.b-index c.loop-b.n (omega arith) c.loop-b.invariant.1 c.loop-b.invariant.2 c.if-n-gt-MOST.true

pub loop-b-preserved : goal.loop-b-preserved
unfolding is_digit
loop-b-preserved c =
    let t = c.args.text.now in (
      omega arith,
      c.loop-b.invariant.1 ∙ all_goes t c.loop-b.b-index (omega arith) (sym c.if-not-is_ascii_digit.ensures.value),
      c.loop-b.invariant.2 ∙ value_goes t c.loop-b.b-index (omega arith) c.loop-b.n,
    )

pub returns : goal.returns
returns c =
    number_ends c.args.text.now c.loop-b.b-index c.loop-b.n (omega (arith, eqb-false _ _ (sym c.is_empty.ensures ∙ c.if-is_empty.false))) (omega arith) c.loop-b.invariant.0 c.loop-b.invariant.1 c.loop-b.invariant.2

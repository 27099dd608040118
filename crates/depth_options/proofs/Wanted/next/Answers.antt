-- `depth_options::Wanted::next` meets its contract: each way out rewrites with the tests that led there.
use Rattle.std.proofs.Common.{sym, ◌∙◌, arith}
use Rattle.depth_options.specs.DepthOptions.{next}
use Rattle.depth_options.specs.Laws.{some_byte}
use Rattle.depth_options.proofs.Wanted.next.Goals as goal

pub returns-then-is_some : goal.returns-then-is_some
unfolding next
returns-then-is_some c = rw (sym c.is_some.ensures ∙ c.if-is_some.true)

pub returns-in_default : goal.returns-in_default
unfolding next
returns-in_default c =
    rw (sym c.is_some.ensures ∙ c.if-is_some.false, c.in_default.is, ← c.name.ensures) c.marked.ensures

pub slice_bounds-number-count : goal.slice_bounds-number-count
slice_bounds-number-count c = omega (arith, some_byte _ _ (sym c.is_percent.ensures ∙ c.if-is_percent.true))

pub returns-then-is_percent : goal.returns-then-is_percent
unfolding next
returns-then-is_percent c =
    rw (
      sym c.is_some.ensures ∙ c.if-is_some.false,
      c.in-Some.is,
      sym c.is_percent.ensures ∙ c.if-is_percent.true,
      ← c.number.ensures,
    )
    c.valued.ensures

pub returns : goal.returns
unfolding next
returns c =
    rw (
      sym c.is_some.ensures ∙ c.if-is_some.false,
      c.in-Some.is,
      sym c.is_percent.ensures ∙ c.if-is_percent.false,
      ← c.number-2.ensures,
    )
    c.valued-2.ensures

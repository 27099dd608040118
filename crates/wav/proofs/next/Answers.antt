-- `wav::next` meets its contract: each test picks its case of the definition.
use mathlib.Core.Path.{sym, ◌∙◌}
use borrow.Author.Tests.{lt-ltb, le-ltb}
use Rattle.wav.specs.Wav.{next}
use Rattle.std.proofs.Common.{arith}
use Rattle.wav.proofs.next.Goals as goal

pub returns-then-bytes-at-lt8 : goal.returns-then-bytes-at-lt8
unfolding next
returns-then-bytes-at-lt8 c = (sym (rw (lt-ltb _ _ c.if-bytes-at-lt8.true)), c.requires)

pub returns-then-named : goal.returns-then-named
unfolding next
returns-then-named c =
    (sym (rw (le-ltb _ _ c.if-bytes-at-lt8.false, sym c.named.ensures ∙ c.if-named.true)), c.requires)

pub returns-then-named-2 : goal.returns-then-named-2
unfolding next
returns-then-named-2 c = (
  sym (rw (le-ltb _ _ c.if-bytes-at-lt8.false, sym c.named.ensures ∙ c.if-named.false, sym c.named-2.ensures ∙ c.if-named-2.true, ← c.field.ensures, ← c.behind-to.ensures.0)),
  record { chunk = c.behind-to.ensures.1; form = omega arith },
)

pub returns : goal.returns
unfolding next
returns c = (
  sym (rw (le-ltb _ _ c.if-bytes-at-lt8.false, sym c.named.ensures ∙ c.if-named.false, sym c.named-2.ensures ∙ c.if-named-2.false, ← c.field.ensures, ← c.behind-to.ensures.0)),
  record { chunk = c.behind-to.ensures.1; form = c.requires.form },
)

-- `line::write` meets its contract: each test picks its case of the definition.
use mathlib.Core.Path.{sym, ◌∙◌}
use native.Mathlib.Nat.{zero-add}
use borrow.Author.Tests.{eq-eqb, ne_eqb}
use Rattle.kind.specs.Laws.{known_low}
use Rattle.line.specs.Line.{text}
use Rattle.line.specs.Laws.{kind_room}
use Rattle.line.specs.Write.{write}
use Rattle.line.proofs.write.Goals as goal

pub returns-then-not-known : goal.returns-then-not-known
unfolding write
returns-then-not-known c = rw (sym c.known.ensures ∙ c.if-not-known.true)

pub returns-then-payload-payload_length : goal.returns-then-payload-payload_length
unfolding write
returns-then-payload-payload_length c =
    rw (sym c.known.ensures ∙ c.if-not-known.false, ← c.payload_length.ensures, ne_eqb _ _ c.if-payload-payload_length.true)

pub returns-then-out-ne-LONGEST : goal.returns-then-out-ne-LONGEST
unfolding write
returns-then-out-ne-LONGEST c =
    rw (sym c.known.ensures ∙ c.if-not-known.false, ← c.payload_length.ensures, eq-eqb _ _ c.if-payload-payload_length.false, ne_eqb _ _ c.if-out-ne-LONGEST.true)

pub put_form-requires : goal.put_form-requires
put_form-requires c =
    rw (c.opening.ensures, c.if-out-ne-LONGEST.false)
    (kind_room c.args.kind c.args.payload.now (known_low _ (sym c.known.ensures ∙ c.if-not-known.false)) (c.if-payload-payload_length.false ∙ c.payload_length.ensures))

pub returns : goal.returns
unfolding write text
returns c =
    rw (
      sym c.known.ensures ∙ c.if-not-known.false,
      eq-eqb _ _ (c.if-payload-payload_length.false ∙ c.payload_length.ensures),
      eq-eqb _ _ c.if-out-ne-LONGEST.false,
      c.put_form.ensures.place ∙ zero-add _,
      c.put_form.ensures.bytes,
      c.opening.ensures,
    )

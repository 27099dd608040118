-- `bitstream::fields` meets its contract: each test picks its case of the definition.
use borrow.Author.Tests.{eq-eqb, ne_eqb}
use Rattle.bitstream.specs.Fields.{fields_call}
use Rattle.bitstream.specs.Laws.{in_order}
use Rattle.bitstream.proofs.fields.Goals as goal

pub returns-then-bytes-ne10 : goal.returns-then-bytes-ne10
unfolding fields_call
returns-then-bytes-ne10 c = rw (ne_eqb _ _ c.if-bytes-ne10.true)

pub returns-then-receiver-ne15 : goal.returns-then-receiver-ne15
unfolding fields_call
returns-then-receiver-ne15 c = rw (eq-eqb _ _ c.if-bytes-ne10.false, ne_eqb _ _ c.if-receiver-ne15.true)

pub returns : goal.returns
unfolding fields_call
returns c =
    rw (eq-eqb _ _ c.if-bytes-ne10.false, eq-eqb _ _ c.if-receiver-ne15.false, c.copy_from_slice.ensures.after, in_order _ _ c.unpack-p.ensures)

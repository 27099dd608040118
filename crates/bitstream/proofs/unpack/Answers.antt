-- `bitstream::unpack` meets its contract: each field, read from a half, is that field of the whole.
use mathlib.Core.Path.{sym, ◌∙◌}
use Rattle.bitstream.specs.Fields.{widths, sum, cut, fields, unpack}
use Rattle.bitstream.specs.Laws.{halves, upper, lower}
use Rattle.bitstream.proofs.unpack.Goals as goal

pub returns : goal.returns
unfolding unpack fields widths sum cut
returns c =
    let a = c.half-a.result in
    let b = c.half-b.result in
    let low = c.half-b.ensures.1 in
    rw (halves, ← c.half-a.ensures.0, ← c.half-b.ensures.0)
    (λ i.
    record {
      l0 = (c.field.ensures ∙ sym (upper a b 39 1 low)) i;
      l1 = (c.field-2.ensures ∙ sym (upper a b 32 7 low)) i;
      l2 = (c.field-3.ensures ∙ sym (upper a b 27 5 low)) i;
      l3 = (c.field-4.ensures ∙ sym (upper a b 22 5 low)) i;
      p1 = (c.field-5.ensures ∙ sym (upper a b 14 8 low)) i;
      p0 = (c.field-6.ensures ∙ sym (upper a b 13 1 low)) i;
      c1 = (c.field-7.ensures ∙ sym (upper a b 0 13 low)) i;
      s1 = (c.field-8.ensures ∙ sym (lower a b 0 4 36)) i;
      ga1 = (c.field-9.ensures ∙ sym (lower a b 4 3 33)) i;
      gb1 = (c.field-10.ensures ∙ sym (lower a b 7 4 29)) i;
      p2 = (c.field-11.ensures ∙ sym (lower a b 11 5 24)) i;
      c2 = (c.field-12.ensures ∙ sym (lower a b 16 13 11)) i;
      s2 = (c.field-13.ensures ∙ sym (lower a b 29 4 7)) i;
      ga2 = (c.field-14.ensures ∙ sym (lower a b 33 3 4)) i;
      gb2 = (c.field-15.ensures ∙ sym (lower a b 36 4 0)) i;
    })

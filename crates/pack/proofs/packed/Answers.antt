-- `pack::packed` meets its contract: the test picks its case of the definition, and the halves are those of the number that the fields make.
use mathlib.Core.Path.{◌≡◌, sym, ◌∙◌}
use mathlib.Core.Bool.{true}
use Rattle.bitstream.specs.Fields.{widths}
use Rattle.pack.specs.Pack.{fits, pack, packed}
use Rattle.pack.specs.Laws.{listed, halves, second_lt}
use Rattle.pack.proofs.packed.Goals as goal

pub returns-then-not-fits : goal.returns-then-not-fits
unfolding packed
returns-then-not-fits c = rw (sym c.fits.ensures ∙ c.if-not-fits.true)

pub bytes_of-requires : goal.bytes_of-requires
bytes_of-requires c =
    let p = c.args.p in
    let e : fits widths (listed p) ≡ true = sym c.fits.ensures ∙ c.if-not-fits.false in
    rw c.second_half-b.ensures (second_lt p (rw e tt))

pub returns : goal.returns
unfolding packed pack
returns c =
    rw (
      sym c.fits.ensures ∙ c.if-not-fits.false,
      c.copy_from_slice.ensures.after,
      c.bytes_of.ensures,
      c.second_half-b.ensures,
      c.first_half-a.ensures,
      halves c.args.p,
    )

-- `adaptive::fast::word` meets its contract: no sum leaves its range, and the rounded half of the double is the shifted sum.
use mir.Syntax.{w32}
use mir.Facts.{to_z-of_z}
use Rattle.laws.specs.Back.{via}
use Rattle.adaptive.specs.FastLaws.{sums_fit, fits_rounded, filtered_is}
use Rattle.std.proofs.Common.{rules}
use Rattle.adaptive.proofs.fast.word.Goals as goal

pub dot-requires : goal.dot-requires
dot-requires c =
    let p = c.requires in
    (search rules, sums_fit _ _ _ _ p.0 p.1.0 p.1.1.1.0 p.1.1.1.1.0 p.1.1.1.1.1)

pub overflow_add-dot : goal.overflow_add-dot
overflow_add-dot c =
    let p = c.requires in
    rw (via w32 c.dot.result c.dot.type_inv, c.dot.ensures) (fits_rounded _ _ _ _ p.0 p.1.0 p.1.1.1.0 p.1.1.1.1.0 p.1.1.1.1.1)

pub returns : goal.returns
returns c =
    let p = c.requires in
    cc (via w32 c.sar32.result c.sar32.type_inv, to_z-of_z (overflow_add-dot c.before), via w32 c.dot.result c.dot.type_inv, filtered_is _ _ _ _ p.0 p.1.0 p.1.1.1.0 p.1.1.1.1.0 p.1.1.1.1.1)

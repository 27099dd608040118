-- `words::pair` meets its contract: the bits of the word, in two bytes.
use mathlib.Core.Path.{◌≡◌, sym, ◌∙◌}
use Prim.Native.Nat.{◌/◌, ◌%◌}
use mir.Syntax.{w16}
use mir.Val.{of_z}
use native.Mathlib.Omega.{arith}
use Rattle.basic_op.specs.Ops.{low16}
use Rattle.basic_op.specs.Low.{low_lt, low_bits}
use Rattle.laws.specs.Back.{via}
use Rattle.words.proofs.pair.Goals as goal

pub returns : goal.returns
returns c =
    let z = c.args.w in
    let n : of_z w16 z ≡ low16 z = sym (low_bits z c.ranges.w.sfits) in
    let h : low16 z / 256 % 256 ≡ low16 z / 256 = omega (arith, low_lt z) in
    c.to_le_bytes.ensures ∙ rw (via w16 z c.ranges.w.sfits, n, h)

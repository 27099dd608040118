-- `line::put_byte` meets its contract: two bytes written in a row.
use mathlib.Core.Path.{◌≡◌, refl}
use Prim.Native.Nat.{◌/◌, ◌%◌}
use native.Mathlib.Omega.{arith}
use lib.ListN.{length-set}
use Rattle.text.specs.Laws.{two}
use Rattle.line.specs.Line.{pair}
use Rattle.std.proofs.Common.{rules}
use Rattle.line.proofs.put_byte.Goals as goal

pub returns : goal.returns
unfolding pair
returns c =
    let s = c.args in
    let h : s.b / 16 % 16 ≡ s.b / 16 = omega arith in
    rw (c.digit.ensures, c.digit-2.ensures, h) (two s.out.now s.from _ _ _ _ refl refl (search rules))

pub bounds-out-from-2 : goal.bounds-out-from-2
bounds-out-from-2 c = simp length-set (omega arith)

-- `print::word` meets its contract: four bytes written in a row.
use mathlib.Core.Path.{◌≡◌}
use Prim.Native.Nat.{◌/◌, ◌%◌}
use native.Mathlib.Omega.{arith}
use lib.ListN.{length-set}
use Rattle.text.specs.Laws.{four}
use Rattle.print.specs.Print.{word}
use Rattle.std.proofs.Common.{rules}
use Rattle.print.proofs.word.Goals as goal

pub returns : goal.returns
unfolding word
returns c =
    let s = c.args in
    let h : s.x / 4096 % 16 ≡ s.x / 4096 = omega arith in
    rw (c.digit.ensures, c.digit-2.ensures, c.digit-3.ensures, c.digit-4.ensures, h)
    (four s.out.now s.from _ _ _ _ (search rules))

pub bounds-out-from-2 : goal.bounds-out-from-2
bounds-out-from-2 c = simp length-set (omega arith)

pub bounds-out-from-3 : goal.bounds-out-from-3
bounds-out-from-3 c = simp length-set (omega arith)

pub bounds-out-from-4 : goal.bounds-out-from-4
bounds-out-from-4 c = simp length-set (omega arith)

-- `depth_table::two` meets its contract.
use mathlib.Core.Path.{refl}
use Prim.Native.Nat.{◌+◌}
use native.Mathlib.Omega.{arith}
use lib.ListN.{length-set}
use Rattle.text.specs.Laws.{two as two_bytes}
use Rattle.depth_table.specs.Table.{two}
use Rattle.depth_table.proofs.two.Goals as goal

pub bounds-out-from-2 : goal.bounds-out-from-2
bounds-out-from-2 c = rw length-set (omega arith)

pub returns : goal.returns
unfolding two
returns c =
    let s = c.args in
    two_bytes s.out.now s.from (s.from + 1) (s.from + 2) _ _ refl refl (omega arith)

-- The answers of `mix::less`.
use Prim.Native.Nat.{◌+◌, ◌-◌}
use mathlib.Core.Path.{refl}
use native.Mathlib.Omega.{arith}
use lib.IntN.{◌-ℤ◌}
use lib.ListN.{length-set}
use lib.Seq.{paste, paste-zero}
use mir.Syntax.{w16, w32}
use Rattle.laws.specs.Lists.{at, tab}
use Rattle.laws.specs.Loops.{ended}
use Rattle.laws.specs.Back.{via, via2}
use Rattle.basic_op.specs.Ops.{sat16}
use Rattle.mix.specs.Laws.{less_turn}
use Rattle.std.proofs.Common.{rules}
use Rattle.mix.proofs.less.Goals as goal

pub loop-i-init : goal.loop-i-init
loop-i-init c = (search rules, refl, paste-zero _ c.args.from (tab 80 (λ j. sat16 (at c.args.total.now j -ℤ at c.args.legs.now (c.args.from + j)))))

pub without-requires : goal.without-requires
without-requires c =
    rw (via w32 _ c.without-arg-1.given) (c.requires.1.1.each c.loop-i.i (omega arith))

pub loop-i-preserved : goal.loop-i-preserved
loop-i-preserved c = (
  search rules,
  simp length-set c.loop-i.invariant.1,
  less_turn (λ j. sat16 (at c.args.total.now j -ℤ at c.args.legs.now (c.args.from + j))) _ c.loop-i.heard c.args.from c.loop-i.i _ (omega (arith, c.requires.1.0))
      (omega arith) c.loop-i.invariant.2
      (via2 w32 w16 w16 (λ x y. sat16 (x -ℤ y)) (at c.args.total.now c.loop-i.i) (at c.args.legs.now (c.args.from + c.loop-i.i)) c.without.result c.without-arg-1.given c.without-arg-in-loop-i-1.given c.without.type_inv c.without.ensures),
)

pub returns : goal.returns
returns c = ended {n = c.loop-i.i} (paste _ c.args.from (tab 80 (λ j. sat16 (at c.args.total.now j -ℤ at c.args.legs.now (c.args.from + j))))) 80 c.loop-i.invariant.2 (omega arith)

pub shape_of-heard : goal.shape_of-heard
shape_of-heard c = c.loop-i.invariant.1

-- The answers of `adaptive::fast::dot`.
use mathlib.Core.Path.{refl, ap, ◌∙◌}
use Prim.Native.Nat.{◌+◌, ◌-◌}
use native.Mathlib.Omega.{arith}
use lib.IntN.{◌*ℤ◌}
use mir.Syntax.{w16, w32}
use mir.Facts.{to_z-of_z}
use Rattle.laws.specs.Lists.{at}
use Rattle.laws.specs.Loops.{steps}
use Rattle.laws.specs.Back.{via2}
use Rattle.adaptive.specs.Fast.{dot}
use Rattle.adaptive.specs.FastLaws.{dot_next, fits_next}
use Rattle.std.proofs.Common.{rules}
use Rattle.adaptive.proofs.fast.dot.Goals as goal

pub loop-j-init : goal.loop-j-init
unfolding dot steps
loop-j-init c = (search rules, refl)

pub overflow_add-s : goal.overflow_add-s
overflow_add-s c =
    let a = c.args in
    fits_next _ _ _ _ _ _ c.loop-j.invariant.1
    (via2 w16 w16 w32 ◌*ℤ◌ (at a.exc.now (a.from + c.loop-j.j)) (at a.c.now c.loop-j.j) c.times-s.result c.times-arg-1.given c.times-arg-in-loop-j-1.given c.times-s.type_inv c.times-s.ensures)
    c.requires.1 (omega arith)

pub loop-j-preserved : goal.loop-j-preserved
loop-j-preserved c =
    let a = c.args in (
      search rules,
      to_z-of_z (overflow_add-s c) ∙ dot_next _ _ _ _ _ _ c.loop-j.invariant.1
          (via2 w16 w16 w32 ◌*ℤ◌ (at a.exc.now (a.from + c.loop-j.j)) (at a.c.now c.loop-j.j) c.times-s.result c.times-arg-1.given c.times-arg-in-loop-j-1.given c.times-s.type_inv c.times-s.ensures),
    )

pub returns : goal.returns
returns c = c.loop-j.invariant.1 ∙ ap (dot _ _ _) (omega arith)

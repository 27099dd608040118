-- The answers of `mix::add`.
use Prim.Native.Nat.{◌+◌, ◌-◌}
use mathlib.Core.Path.{◌≡◌, ap, ◌∙◌}
use native.Mathlib.Omega.{arith}
use lib.IntN.{ℤ, ◌+ℤ◌}
use mir.Syntax.{w16, w32}
use Rattle.laws.specs.Lists.{at, filled_none, filled_next, fill, filled_end}
use Rattle.laws.specs.Back.{via, via2}
use Rattle.mix.specs.Laws.{samples_none, samples_turn}
use Rattle.std.proofs.Common.{rules}
use Rattle.mix.proofs.add.Goals as goal

pub plus-requires : goal.plus-requires
plus-requires c =
    rw (via w32 _ c.plus-arg-1.given, filled_next _ c.loop-i.i _ c.loop-i.total c.loop-i.invariant.1.0) (c.requires.1.1.each c.loop-i.i (omega arith))

pub loop-i-preserved : goal.loop-i-preserved
loop-i-preserved c = (
  search rules,
  (
    fill (λ j. at c.args.total.now j +ℤ at c.args.legs.now (c.args.from + j)) c.loop-i.i _ c.loop-i.total _ (omega (arith, c.requires.1.0)) c.loop-i.invariant.1.0
        (via2 w32 w16 w32 (λ x y. x +ℤ y) (at c.loop-i.total c.loop-i.i) (at c.args.legs.now (c.args.from + c.loop-i.i)) c.plus.result c.plus-arg-1.given c.plus-arg-in-loop-i-1.given c.plus.type_inv c.plus.ensures
        ∙ ap (λ (z : ℤ). z +ℤ at c.args.legs.now (c.args.from + c.loop-i.i)) (filled_next _ c.loop-i.i _ c.loop-i.total c.loop-i.invariant.1.0)),
    samples_turn _ c.args.from c.loop-i.i c.loop-i.invariant.1.1 c.plus-arg-in-loop-i-1.given,
  ),
)

pub returns : goal.returns
returns c =
    let l = c.loop-i in
    let h : l.i ≡ 80 = omega arith in
    record { total_after = filled_end _ _ 80 _ _ l.invariant.1.0 h c.requires.1.0; samples_at = rw h at l.invariant.1.1 }

pub loop-i-init : goal.loop-i-init
loop-i-init c = (search rules, (filled_none _ _, samples_none _ c.args.from))

-- The answers of `mix::each`.
use Prim.Native.Nat.{◌-◌}
use mathlib.Core.Path.{refl}
use native.Mathlib.Omega.{arith}
use Rattle.mix.specs.Laws.{heard_none, heard_end}
use Rattle.mix.proofs.Laws.{heard_turn}
use Rattle.std.proofs.Common.{rules}
use Rattle.mix.proofs.each.Goals as goal

pub loop-k-init : goal.loop-k-init
loop-k-init c = (search rules, search rules, refl, heard_none c.args.legs.now _)

pub less-requires : goal.less-requires
less-requires c =
    let p = c.requires in
    (omega arith, (omega (arith, c.loop-k.invariant.2, p.1), p.2.1))

pub loop-k-preserved : goal.loop-k-preserved
loop-k-preserved c =
    let p = c.requires in (
      search rules,
      search rules,
      search rules,
      heard_turn _ _ _ _ _ c.loop-k.k _ (omega arith) refl p.2.0 c.loop-k.invariant.3 c.less.ensures,
    )

pub returns : goal.returns
returns c =
    let p = c.requires in
    heard_end _ _ _ c.loop-k.k (omega arith) p.0 p.1 c.loop-k.invariant.3

pub shape_of-heard : goal.shape_of-heard
shape_of-heard c = c.loop-k.invariant.2

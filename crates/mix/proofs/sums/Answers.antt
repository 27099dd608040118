-- The answers of `mix::sums`.
use Prim.Native.Nat.{◌-◌}
use mathlib.Core.Path.{refl}
use native.Mathlib.Omega.{arith}
use Rattle.mix.specs.Laws.{summed_none, summed_length, summed_end, within_more}
use Rattle.mix.proofs.Laws.{summed_turn}
use Rattle.std.proofs.Common.{rules}
use Rattle.mix.proofs.sums.Goals as goal

pub loop-k-init : goal.loop-k-init
loop-k-init c = (search rules, search rules, summed_none c.args.legs.now)

pub add-requires : goal.add-requires
add-requires c =
    (omega (arith, c.requires), (summed_length _ _ _ c.loop-k.invariant.2, within_more _ 7 _ (omega (arith, c.requires)) c.loop-k.invariant.2.1))

pub loop-k-preserved : goal.loop-k-preserved
loop-k-preserved c =
    (search rules, search rules, summed_turn _ _ _ c.loop-k.k _ (omega arith) c.add.ensures.samples_at refl c.loop-k.invariant.2 c.add.ensures.total_after)

pub returns : goal.returns
returns c =
    (summed_end _ _ _ (omega arith) c.loop-k.invariant.2, within_more _ 8 _ (omega (arith, c.requires)) c.loop-k.invariant.2.1)

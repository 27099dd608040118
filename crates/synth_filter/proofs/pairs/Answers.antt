-- The answers of `synth_filter::pairs`.
use Prim.Native.Nat.{◌+◌, ◌-◌}
use mathlib.Core.Path.{refl}
use native.Mathlib.Omega.{arith}
use mir.Syntax.{w16, w64}
use Rattle.laws.specs.Lists.{at, filled_none, fill, filled_end}
use Rattle.laws.specs.Back.{via2}
use Rattle.synth_filter.specs.Fast.{both, pairs}
use Rattle.std.proofs.Common.{rules}
use Rattle.synth_filter.proofs.pairs.Goals as goal

pub loop-k-preserved : goal.loop-k-preserved
loop-k-preserved c =
    let a = c.args.a.now in
    let k = c.loop-k.k in
    (search rules, fill _ _ _ _ _ (search rules) c.loop-k.invariant.1 (via2 w16 w16 w64 both (at a k) (at a (k + 1)) _ c.both-arg-1.given c.both-arg-in-loop-k-1.given c.both.type_inv c.both.ensures.value))

pub returns : goal.returns
unfolding pairs
returns c = filled_end _ _ 10 _ _ c.loop-k.invariant.1 (omega arith) refl

pub loop-k-init : goal.loop-k-init
loop-k-init c = (search rules, filled_none _ _)

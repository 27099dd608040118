-- The answers of `adaptive::fast::size_sum`.
use mathlib.Core.Path.{◌≡◌, refl, ap, ◌∙◌}
use Prim.Native.Nat.{ℕ, ◌+◌, ◌-◌}
use native.Mathlib.Omega.{arith}
use lib.Signed.{mag}
use mir.Syntax.{w16}
use Rattle.laws.specs.Lists.{at}
use Rattle.laws.specs.Loops.{steps, steps_turn}
use Rattle.laws.specs.Back.{via}
use Rattle.adaptive.specs.Fast.{size_sum}
use Rattle.std.proofs.Common.{rules}
use Rattle.adaptive.proofs.fast.size_sum.Goals as goal

pub loop-x-init : goal.loop-x-init
unfolding size_sum steps
loop-x-init c = (search rules, (search rules, refl))

pub loop-x-preserved : goal.loop-x-preserved
unfolding size_sum
loop-x-preserved c =
    let x = at c.args.c.now c.loop-x.x-index in
    let e : c.from.result ≡ mag x = c.from.ensures ∙ c.magnitude.ensures ∙ ap mag (via w16 x c.magnitude-arg-1.given) in (
      search rules,
      (omega (arith, e, c.magnitude-arg-1.given), steps_turn _ _ _ _ _ c.loop-x.invariant.1.1 (ap (λ (m : ℕ). c.loop-x.s + (m + 1)) e)),
    )

pub returns : goal.returns
returns c = c.loop-x.invariant.1.1 ∙ ap (size_sum _) (omega arith)

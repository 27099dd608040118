-- The answers of `adaptive::fast::greatest`.
use mathlib.Core.Path.{◌≡◌, ap, ◌∙◌}
use Prim.Native.Nat.{◌+◌, ◌-◌}
use native.Mathlib.Omega.{arith}
use lib.Signed.{mag}
use mir.Syntax.{w16}
use Rattle.laws.specs.Lists.{at}
use Rattle.laws.specs.Back.{via}
use Rattle.adaptive.specs.FastLaws.{small_next}
use Rattle.std.proofs.Common.{rules}
use Rattle.adaptive.proofs.fast.greatest.Goals as goal

pub loop-j-preserved : goal.loop-j-preserved
loop-j-preserved c =
    let a = c.args in
    let x = at a.exc.now (a.from + c.loop-j.j) in
    let e : c.magnitude.result ≡ mag x = c.magnitude.ensures ∙ ap mag (via w16 x c.magnitude-arg-1.given) in
    (search rules, small_next a.exc.now a.from c.loop-j.j c.loop-j.m c.max-m.result c.loop-j.invariant.1 (omega arith) (omega (arith, e)))

pub returns : goal.returns
returns c = λ j h. c.loop-j.invariant.1 j (omega arith)

pub loop-j-init : goal.loop-j-init
loop-j-init c = (search rules, λ j h. absurd (omega arith))

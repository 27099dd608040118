-- `synth_filter::rounded` meets its contract, by the laws of specs/FastLaws.antt.
use Prim.Native.Nat.{◌^◌}
use mathlib.Core.Path.{◌≡◌, ap, subst, ◌∙◌}
use lib.Dec.{T}
use lib.IntN.{ℤ, pos, ◌+ℤ◌}
use lib.Signed.{shr_z}
use mir.Syntax.{w16, w64}
use mir.Val.{to_z, of_z, SFits}
use mir.Facts.{to_z-of_z}
use Rattle.laws.specs.Back.{via}
use Rattle.synth_filter.specs.Fast.{Range}
use Rattle.synth_filter.specs.FastLaws.{range_of, round_fits, word_fits}
use Rattle.synth_filter.proofs.rounded.Goals as goal
use Rattle.synth_filter.proofs.rounded.Goals.{After-sar64, Then-l}

in_range : (c : Then-l) → Range c.args.l
in_range c = range_of (to_z-of_z c.ranges.l) c.if-l.true

pub overflow_add-l : goal.overflow_add-l
overflow_add-l c = rw (to_z-of_z c.ranges.l) (round_fits c.args.l (in_range c))

shifted : (c : After-sar64) → to_z w64 (of_z w64 c.sar64.result) ≡ shr_z (c.args.l +ℤ pos 2048) (2 ^ 12)
shifted c =
    via w64 c.sar64.result c.sar64.type_inv ∙ c.sar64.ensures ∙ ap (λ (z : ℤ). shr_z z (2 ^ 12)) (to_z-of_z (overflow_add-l c.before) ∙ ap (λ (z : ℤ). z +ℤ pos 2048) (to_z-of_z c.ranges.l))

pub returns-then-l : goal.returns-then-l
returns-then-l c =
    let f : SFits w16 (shr_z (c.args.l +ℤ pos 2048) (2 ^ 12)) = word_fits c.args.l (in_range c.before) in
    (in_range c.before, rw (shifted c) (to_z-of_z f))

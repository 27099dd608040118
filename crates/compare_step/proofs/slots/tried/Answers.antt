-- `slots::tried` meets its contract: the candidate's next frame, with how many of its samples are the far ones.
use mathlib.Core.Path.{◌≡◌, ap, ◌∙◌}
use mathlib.Core.List.{◌∷◌, ◌++◌}
use lib.IntN.{pos}
use Prim.Native.Nat.{◌<◌}
use lib.ListN.{drop, get_or}
use lib.Signed.{mag}
use Rattle.std.proofs.Common.{rules}
use mathlib.Core.Bool.{true, false}
use mir.Syntax.{w16}
use mir.Val.{to_z, of_z}
use native.Mathlib.Omega.{arith}
use Rattle.laws.specs.Back.{via}
use Rattle.decoder.specs.declared.Buffers.{Buffers}
use Rattle.decoder.specs.Frame.{buffers, frame_buffers, subframe_signal, frame_signal}
use Rattle.compare_step.specs.Slots.{tried, slot_signal, same_samples}
use Rattle.compare_step.proofs.slots.tried.Goals as goal

pub returns : goal.returns
unfolding tried frame_signal frame_buffers slot_signal
returns c =
    let g = c.args in
    let u = c.frame_signal.new.self in
    let b = c.frame_signal.ensures ∙ ap (λ (x : Buffers). subframe_signal g.t.now true g.v.second (subframe_signal g.t.now false g.v.first x)) (let e = c.opened.ensures in let f = c.opened-2.ensures in λ i. buffers (e i) (f i)) in
    let q = c.past_of.ensures in
    let z : to_z w16 (of_z w16 (pos c.same_samples-n.result)) ≡ pos (same_samples g.y.now u.speech 80) = via w16 (pos c.same_samples-n.result) (omega (arith, c.same_samples-n.ensures.upper_bound)) ∙ ap pos c.same_samples-n.ensures.value in
    let first : mag (get_or g.x 0 (pos 0)) < 32768 = search rules in
    rw (rw (via w16 _ first) at c.if-x-lt0.false)
    (c.slot_of.ensures ∙ (λ i. z i ∷ (q i ++ u.speech)) ∙ ap (λ (x : Buffers). pos (same_samples g.y.now x.speech 80) ∷ (drop 80 x.exc ++ x.speech)) b)

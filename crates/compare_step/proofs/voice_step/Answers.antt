-- `compare_step::voice_step` meets its contract: what the calls give, one after the other.
use mathlib.Core.Path.{ap, ◌∙◌}
use lib.IntN.{ℤ}
use mir.Syntax.{w16}
use Rattle.laws.specs.Back.{via}
use Rattle.pitch.specs.Pitch.{parity_ok}
use Rattle.compare_step.specs.Compare.{next_count, tells, voice_far, class, voice_step}
use Rattle.compare_step.proofs.voice_step.Goals as goal

pub returns : goal.returns
unfolding voice_step
returns c h =
    let g = c.args in
    let y = g.y.now in
    let k = c.slots_step-x.ensures in
    let n = via w16 c.next_count-n.result c.next_count-n.type_inv ∙ c.next_count-n.ensures ∙ (let e = via w16 g.h.count c.struct_told-1.given.0.1 in let p = c.parity_ok.ensures in λ i. next_count (e i) (p i)) in
    let d = c.tells-told.ensures ∙ ap (λ (z : ℤ). tells z g.v y) n in
    let f = c.voice_far-far.ensures ∙ (λ i. voice_far (n i) g.v y (d i) g.h (k.value i)) in
    let q = c.class_of-class.ensures ∙ (λ i. class (n i) (d i) (k.value i)) in
    let s = k.s_after in
    let o = k.out_after h in
    λ i. record { far = f i; slots = s i; class = q i; samples = o i }

-- `payload_line::of_payload` meets its contract: the payload is whole, or refused.
use mathlib.Core.Path.{ap, ◌∙◌}
use native.Mathlib.Omega.{arith}
use Rattle.rtp.specs.declared.FrameCount.{FrameCount}
use Rattle.payload_line.specs.PayloadLine.{Printed, given}
use Rattle.payload_line.specs.Laws.{done, payload_refused, payload_taken, count_fits}
use Rattle.payload_line.proofs.of_payload.Goals as goal

pub returns-then-counted-ne0 : goal.returns-then-counted-ne0
returns-then-counted-ne0 c =
    let s = c.args in
    c.refuse.ensures ∙ ap (λ (p : Printed). given p s.out.now) (payload_refused s.text.now s.number c.frames_of-counted.ensures c.if-counted-ne0.true)

pub put_frames-written-requires : goal.put_frames-written-requires
put_frames-written-requires c =
    let e = c.frames_of-counted.ensures in
    (c.requires.0, (ap (λ (x : FrameCount). x.frames) e, omega (arith, count_fits c.args.text.now c.args.number e c.requires.1.0, c.requires.1.1)))

pub returns : goal.returns
returns c =
    let s = c.args in
    done 0 c.put_frames-written.ensures ∙ ap (λ (p : Printed). given p s.out.now) (payload_taken s.text.now s.number c.frames_of-counted.ensures c.if-counted-ne0.false)

-- The answers of `payload_line::put_frames`.
use mathlib.Core.Path.{◌≡◌}
use native.Mathlib.Omega.{arith}
use Rattle.text.specs.Laws.{kept}
use Rattle.payload_line.specs.PayloadLine.{payload}
use Rattle.payload_line.specs.Laws.{lines_none, lines_more}
use Rattle.payload_line.proofs.put_frames.Goals as goal

pub loop-k-init : goal.loop-k-init
loop-k-init c =
    let s = c.args in
    (omega arith, lines_none (payload s.text.now) s.out.now)

pub put_frame-at-requires : goal.put_frame-at-requires
put_frame-at-requires c =
    let r = c.requires in
    (r.0, (omega (arith, r.1.0), omega (arith, r.1.1, c.loop-k.invariant.0, kept c.loop-k.invariant.1)))

pub loop-k-preserved : goal.loop-k-preserved
loop-k-preserved c =
    let p = c.put_frame-at.ensures in
    (omega (arith, p.0, c.loop-k.invariant.0), lines_more (payload c.args.text.now) c.loop-k.k c.loop-k.invariant.1 p.1)

pub shape_of-out : goal.shape_of-out
shape_of-out c = kept c.loop-k.invariant.1

pub returns : goal.returns
returns c =
    let h : c.loop-k.k ≡ c.args.count = omega arith in
    rw h at c.loop-k.invariant.1

-- `compare_turn::step` meets its contract: a payload has at most ten bytes.
use Rattle.std.proofs.Common.{arith, length-take}
use Rattle.kind.specs.Laws.{payload_few}
use Rattle.compare_turn.proofs.step.Goals as goal

pub slice_bounds-payload-end : goal.slice_bounds-payload-end
slice_bounds-payload-end c =
    omega (arith, c.payload_length-n.ensures, payload_few c.in-Ok.kind, c.line.auto.payload)

pub slice_bounds-frame-end : goal.slice_bounds-frame-end
slice_bounds-frame-end c =
    rw length-take (omega (arith, c.payload_length-n.ensures, payload_few c.in-Ok.kind, c.line.auto.payload))

-- `payload_line::refuse` meets its contract: the form stands at the front of its room, and is copied from there.
use native.Mathlib.Omega.{arith}
use Rattle.print.specs.Print.{refused}
use Rattle.payload_line.specs.PayloadLine.{refusal}
use Rattle.payload_line.specs.Laws.{done, form_taken, form_fits}
use Rattle.payload_line.proofs.refuse.Goals as goal

pub slice_bounds-put-end : goal.slice_bounds-put-end
slice_bounds-put-end c =
    let s = c.args in
    omega (arith, form_fits (refused s.code s.number) _ c.refused-n.ensures.1.0 c.refused-n.ensures.1.1)

pub returns : goal.returns
unfolding refusal
returns c =
    let s = c.args in
    done s.code (rw (form_taken (refused s.code s.number) _ c.refused-n.ensures.1.0 c.refused-n.ensures.1.1) at c.put-written.ensures)

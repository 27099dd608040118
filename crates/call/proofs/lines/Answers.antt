-- The answers of `call::lines`.
use mathlib.Core.Path.{◌∙◌, sym}
use native.Mathlib.Omega.{arith}
use lib.ListN.{length-take, length-drop}
use Rattle.call.specs.Laws.{so_far_none, going, found, text_within, lines_done, lines_open, line_taken}
use Rattle.std.proofs.Common.{rules}
use Rattle.call.proofs.lines.Goals as goal

pub loop-text-init : goal.loop-text-init
loop-text-init c = so_far_none _ _ _ _ _ _

pub overflow_sub-out : goal.overflow_sub-out
overflow_sub-out c = omega (arith, c.loop-text.invariant.length_out, c.loop-text.invariant.fits)

pub find-end-requires : goal.find-end-requires
find-end-requires c = record { ordered = c.loop-text.invariant.inside; inside = omega arith }

pub returns-then-end-input : goal.returns-then-end-input
returns-then-end-input c =
    let i = c.loop-text.invariant in
    record { out_after = lines_open _ _ _ _ _ _ _ _ _ _ _ _ i (found _ _ c.find-end.ensures.place) c.if-end-input.true; used_in_bounds = (i.inside, i.fits); lines_le_lines = (i.least, omega (arith, i.few)) }

pub slice_bounds-copy-end : goal.slice_bounds-copy-end
slice_bounds-copy-end c = omega (arith, text_within _ _ c.line_step-step.ensures.out_after)

pub copy-requires : goal.copy-requires
copy-requires c =
    let q = going _ _ _ (sym c.goes_on.ensures ∙ c.loop-text-test.true) in
    simp (length-take, length-drop) (omega (arith, q.1.1, c.line_step-step.ensures.written_le_frame_room))

pub overflow_sub-left : goal.overflow_sub-left
overflow_sub-left c =
    omega (arith, (going _ _ _ (sym c.goes_on.ensures ∙ c.loop-text-test.true)).1.0)

pub overflow_add-used : goal.overflow_add-used
overflow_add-used c =
    record { fits = omega (arith, c.find-end.ensures.before, c.well_formed.1.1.1.1.0) }

pub overflow_add-written : goal.overflow_add-written
overflow_add-written c =
    let q = going _ _ _ (sym c.goes_on.ensures ∙ c.loop-text-test.true) in
    record { fits = omega (arith, q.1.1, c.line_step-step.ensures.written_le_frame_room, c.loop-text.invariant.length_out, c.loop-text.invariant.fits, c.well_formed.1.1.1.1.1.0) }

pub loop-text-smaller : goal.loop-text-smaller
loop-text-smaller c =
    omega (arith, (going _ _ _ (sym c.goes_on.ensures ∙ c.loop-text-test.true)).1.0)

pub loop-text-preserved : goal.loop-text-preserved
loop-text-preserved c =
    line_taken _ _ _ _ _ _ _ _ _ _ _ _ c.loop-text.invariant (sym c.goes_on.ensures ∙ c.loop-text-test.true) c.find-end.result (found _ _ c.find-end.ensures.place) c.if-end-input.false c.find-end.ensures.before
    _ c.line_step-step.ensures.out_after (search rules) c.copy.ensures.written

pub returns : goal.returns
returns c =
    let i = c.loop-text.invariant in
    record { out_after = lines_done _ _ _ _ _ _ _ _ _ _ _ _ i (sym c.goes_on.ensures ∙ c.loop-text-test.false); used_in_bounds = (i.inside, i.fits); lines_le_lines = (i.least, omega (arith, i.few)) }

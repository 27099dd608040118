-- `call::keep` meets its contract: the bytes up to the end are moved.
use Rattle.std.proofs.Common.{arith}
use Rattle.call.specs.Laws.{slice_none_over, slice_length, slice_moved}
use Rattle.call.proofs.keep.Goals as goal

pub returns-then-end-from : goal.returns-then-end-from
returns-then-end-from c =
    let s = c.args in
    slice_none_over s.input.now s.from s.to (omega (arith, c.min-end.ensures))

pub returns : goal.returns
returns c =
    let s = c.args in
    let l = s.input.now in
    (omega (arith, c.min-end.ensures), (slice_length l s.from s.to c.min-end.ensures, slice_moved l s.from s.to _ c.min-end.ensures (omega arith) c.copy_within.ensures.after))

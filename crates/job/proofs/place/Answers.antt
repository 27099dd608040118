-- `job::place` meets its contract: each field of its width.
use Rattle.job.specs.Job.{widths, fields, place}
use Rattle.words.specs.Laws.{numbers_lt}
use Rattle.job.proofs.place.Goals as goal

pub overflow_cast-result : goal.overflow_cast-result
unfolding widths fields
overflow_cast-result c =
    record { fits = rw c.fields-values.ensures (numbers_lt widths c.args.bytes.now 6 (λ i. (c.shared_slice_known-1.given i).fits)) }

pub overflow_cast-result-2 : goal.overflow_cast-result-2
unfolding widths fields
overflow_cast-result-2 c =
    record { fits = rw c.fields-values.ensures (numbers_lt widths c.args.bytes.now 4 (λ i. (c.shared_slice_known-1.given i).fits)) }

pub overflow_cast-result-3 : goal.overflow_cast-result-3
unfolding widths fields
overflow_cast-result-3 c =
    record { fits = rw c.fields-values.ensures (numbers_lt widths c.args.bytes.now 5 (λ i. (c.shared_slice_known-1.given i).fits)) }

pub returns : goal.returns
unfolding place
returns c = rw (c.counts.ensures, c.fields-values.ensures)

-- The forms are written behind those that the place counts, and the place behind the part counts them too.
use Rattle.std.proofs.Common.{rules}
use Rattle.job_disk.specs.Laws.{part_written, put_behind}
use Rattle.job_disk.proofs.decode.Goals as goal

pub returns : goal.returns
returns c =
    put_behind _ _ _ _ c.part-part.result.written _ c.in_ok-disk.ensures.written c.requires.written (search rules)
    (part_written c.args.t.now c.args.b.now _ c.args.r.place c.part-part.result.place c.args.r.left _ _ _ c.args.input.now c.args.forms.now _ c.part-part.ensures.out_after)

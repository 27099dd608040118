-- The answers of `depth_table::frames`.
use Rattle.std.proofs.Common.{arith}
use Rattle.depth_table.specs.Laws.{frames_none, frames_more, frames_end}
use Rattle.depth_table.proofs.frames.Goals as goal

pub loop-n-init : goal.loop-n-init
loop-n-init c = frames_none c.args.numbers.now

pub loop-n-preserved : goal.loop-n-preserved
loop-n-preserved c =
    let l = c.loop-n in
    rw (c.max-most.ensures, c.from.ensures) (frames_more c.args.numbers.now l.n-index l.most (omega arith) l.invariant)

pub returns : goal.returns
returns c = frames_end c.args.numbers.now c.loop-n.n-index c.loop-n.most (omega arith) c.loop-n.invariant

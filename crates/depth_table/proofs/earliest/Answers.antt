-- The answers of `depth_table::earliest`.
use Rattle.std.proofs.Common.{arith}
use Rattle.depth_table.specs.Laws.{lowest_none, lowest_more, earliest_none, earliest_end}
use Rattle.depth_table.proofs.earliest.Goals as goal

pub returns-then-n-eq0 : goal.returns-then-n-eq0
returns-then-n-eq0 c = earliest_none c.args.numbers.now c.args.times.now (omega arith)

pub loop-i-init : goal.loop-i-init
loop-i-init c = lowest_none c.args.numbers.now c.args.times.now

pub loop-i-preserved : goal.loop-i-preserved
loop-i-preserved c =
    let l = c.loop-i in
    rw (c.min-at.ensures, c.began.ensures) (lowest_more c.args.numbers.now c.args.times.now l.i l.at (omega arith) (omega arith) l.invariant)

pub returns : goal.returns
returns c =
    let l = c.loop-i in
    earliest_end c.args.numbers.now c.args.times.now l.i l.at (omega arith) (omega arith) l.invariant

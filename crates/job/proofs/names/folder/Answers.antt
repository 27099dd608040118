-- The answers of `job::names::folder`.
use Rattle.std.proofs.Common.{◌∙◌, arith}
use Rattle.job.specs.Laws.{folder_here, folder_not, folder_all, folder_none}
use Rattle.job.proofs.names.folder.Goals as goal

pub loop-i-init : goal.loop-i-init
loop-i-init c = (omega arith, folder_all c.args.path.now)

pub loop-i-preserved : goal.loop-i-preserved
loop-i-preserved c =
    let i = c.loop-i in
    (omega arith, folder_not c.args.path.now i.i (omega arith) i.invariant.0 i.invariant.1 c.if-path-i-eq47.false)

pub returns-then-path-i-eq47-clause-last : goal.returns-then-path-i-eq47-clause-last
returns-then-path-i-eq47-clause-last c =
    let i = c.loop-i in
    omega (arith, folder_here c.args.path.now i.i (omega arith) i.invariant.0 i.invariant.1 c.if-path-i-eq47.true)

pub returns-clause-last : goal.returns-clause-last
returns-clause-last c = folder_none c.args.path.now c.loop-i.i (omega arith) c.loop-i.invariant.1

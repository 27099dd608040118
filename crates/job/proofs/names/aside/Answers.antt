-- `job::names::aside` meets its contract: the path, and `.new` behind it.
use Rattle.std.proofs.Common.{arith}
use Rattle.job.specs.Laws.{aside_short, aside_done}
use Rattle.job.proofs.names.aside.Goals as goal

pub returns-then-out-lt4-clause-name : goal.returns-then-out-lt4-clause-name
returns-then-out-lt4-clause-name c = (aside_short c.args.path.now c.args.out.now (omega arith)).0

pub returns-then-out-path-clause-name : goal.returns-then-out-path-clause-name
returns-then-out-path-clause-name c = (aside_short c.args.path.now c.args.out.now (omega arith)).0

pub returns-clause-name : goal.returns-clause-name
returns-clause-name c =
    let s = c.args in
    let k = c.copy-n in
    let m = c.copy-m in
    (aside_done s.path.now s.out.now k.new.to _ k.result m.result (omega arith) k.ensures.count k.ensures.written m.ensures.count m.ensures.written).0

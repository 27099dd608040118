-- `call::overlong` meets its contract: each test picks its case of the definition.
use Rattle.call.specs.Laws.{found, overlong_ended, overlong_yes, overlong_no}
use Rattle.call.proofs.overlong.Goals as goal

pub returns-then-job-ne0 : goal.returns-then-job-ne0
returns-then-job-ne0 c = let s = c.args in overlong_ended s.held.now s.job c.if-job-ne0.true

pub returns-then-find-gt-LONGEST : goal.returns-then-find-gt-LONGEST
returns-then-find-gt-LONGEST c =
    let s = c.args in
    overlong_yes s.held.now s.job c.if-job-ne0.false (found s.held.now 0 c.find.ensures.place) c.if-find-gt-LONGEST.true c.with_code.ensures

pub returns : goal.returns
returns c =
    let s = c.args in
    overlong_no s.held.now s.job c.if-job-ne0.false (found s.held.now 0 c.find.ensures.place) c.if-find-gt-LONGEST.false

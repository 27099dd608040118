-- `call::finish` meets its contract: each test picks its case of the definition.
use Rattle.call.specs.Laws.{form_refused, form_open, form_total}
use Rattle.call.proofs.finish.Goals as goal

pub returns-then-job-ne0 : goal.returns-then-job-ne0
returns-then-job-ne0 c =
    let s = c.args in
    form_refused s.job s.held.now s.out.now c.if-job-ne0.true c.one_more.ensures c.refused.ensures

pub returns-then-held-ne0 : goal.returns-then-held-ne0
returns-then-held-ne0 c =
    let s = c.args in
    form_open s.job s.held.now s.out.now c.if-job-ne0.false c.if-held-ne0.true c.one_more-then-held-ne0.ensures c.refused-then-held-ne0.ensures

pub returns : goal.returns
returns c =
    let s = c.args in
    form_total s.job s.held.now s.out.now c.if-job-ne0.false c.if-held-ne0.false c.total.ensures

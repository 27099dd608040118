-- `job_step::apart` meets its contract: each pair is tested.
use Rattle.job_step.specs.Laws.{pairs}
use Rattle.job_step.proofs.apart.Goals as goal

pub returns : goal.returns
returns c =
    let s = c.args in
    rw (c.one-10.ensures, c.one-9.ensures, c.one-8.ensures, c.one-7.ensures, c.one-6.ensures, c.one-5.ensures, c.one-4.ensures, c.one-3.ensures, c.one-2.ensures, c.one.ensures) (pairs s.tables s.call s.state s.out s.aside)

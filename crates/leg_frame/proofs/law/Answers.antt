-- `leg_frame::law` meets its contract.
use Rattle.std.proofs.Common.{eq-eqb, ne_eqb}
use Rattle.leg_frame.specs.LegFrame.{law}
use Rattle.leg_frame.proofs.law.Goals as goal

pub returns-then-form-eq-A : goal.returns-then-form-eq-A
unfolding law
returns-then-form-eq-A c = rw (eq-eqb _ 1 c.if-form-eq-A.true)

pub returns : goal.returns
unfolding law
returns c = rw (ne_eqb _ 1 c.if-form-eq-A.false)

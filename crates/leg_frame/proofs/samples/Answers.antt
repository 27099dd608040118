-- `leg_frame::samples` meets its contract: a form that isn't of words has bytes.
use native.Mathlib.Omega.{arith}
use borrow.Author.Tests.{ne_eqb}
use Rattle.leg_frame.specs.LegFrame.{taken, samples}
use Rattle.leg_frame.specs.Laws.{taken_le}
use Rattle.leg_frame.proofs.samples.Goals as goal

pub returns-then-form-eq-LINEAR : goal.returns-then-form-eq-LINEAR
returns-then-form-eq-LINEAR c =
    let e = c.if-form-eq-LINEAR.true in
    let l = c.args.bytes.now in
    record { value = (rw e c.read_words.ensures.0, rw e c.read_words.ensures.1); upper_bound = omega (arith, c.read_words.ensures.0, taken_le 3 l) }

pub returns : goal.returns
unfolding taken samples
returns c =
    let e = ne_eqb c.args.form 3 c.if-form-eq-LINEAR.false in
    record { value = (rw e c.expand.ensures.0, rw (e, ← c.law.ensures) c.expand.ensures.1); upper_bound = omega (arith, c.expand.ensures.0) }

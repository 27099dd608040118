-- `compare_step::step` meets its contract: by the kind of the frame.
use Rattle.compare_step.specs.declared.Class.TheVariants.{Concealed}
use Rattle.compare_step.specs.Compare.{concealed_far, step}
use Rattle.compare_step.proofs.step.Goals as goal

pub returns-in-Voice : goal.returns-in-Voice
unfolding step
returns-in-Voice c h = rw c.in-Voice.is (c.voice_step.ensures h)

pub returns-in-Concealment : goal.returns-in-Concealment
unfolding step concealed_far
returns-in-Concealment c h = rw c.in-Concealment.is (let e = c.plain_far-far.ensures in λ i. record { far = e i; slots = c.args.s.now; class = Concealed; samples = c.args.out.now })

-- `parameters::parameters` meets its contract, by the two cases.
use Rattle.parameters.specs.Parameters.{parameters}
use Rattle.parameters.proofs.parameters.Goals as goal

pub returns-in-Voice : goal.returns-in-Voice
unfolding parameters
returns-in-Voice c = rw c.in-Voice.is c.voice.ensures

pub returns-in-Concealment : goal.returns-in-Concealment
unfolding parameters
returns-in-Concealment c = rw c.in-Concealment.is c.conceal.ensures

-- `replay::part::number` meets its contract.
use mir.Syntax.{w16}
use Rattle.laws.specs.Back.{via}
use Rattle.replay.proofs.part.number.Goals as goal

pub returns : goal.returns
returns c = cc (via w16 c.word.result c.word.type_inv)

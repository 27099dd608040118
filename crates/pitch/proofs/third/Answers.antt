-- `pitch::third` meets its contract, by the law of a third. Assumes nothing.
use Rattle.pitch.specs.Laws.{third_by_shift}
use Rattle.pitch.proofs.third.Goals as goal

pub returns : goal.returns
returns c = third_by_shift c.args.n c.requires

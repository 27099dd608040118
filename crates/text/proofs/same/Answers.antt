-- `text::same` meets its contract: `==` tells whether two lists are the same.
use Rattle.text.specs.Laws.{equal_same}
use Rattle.text.proofs.same.Goals as goal

pub returns : goal.returns
returns c = equal_same _ _ _ c.eq.ensures

-- `text::starts` meets its contract: the front of the text is the other.
use Rattle.text.specs.Text.{starts}
use Rattle.text.specs.Laws.{equal_same'}
use Rattle.text.proofs.starts.Goals as goal

pub returns : goal.returns
unfolding starts
returns c = equal_same' _ _ _ c.starts_with.ensures.value

-- `replay::hex::word_at` meets its contract: the test picks the case of the definition.
use borrow.Author.Tests.{lt-ltb, le-ltb}
use mir.Syntax.{w16}
use Rattle.laws.specs.Back.{via}
use Rattle.replay.specs.Replay.{word_at}
use Rattle.replay.proofs.hex.word_at.Goals as goal

pub returns-then-n-text : goal.returns-then-n-text
unfolding word_at
returns-then-n-text c = rw (lt-ltb _ _ c.if-n-text.true) (cc (via w16 c.word.result c.word.type_inv))

pub returns : goal.returns
unfolding word_at
returns c = rw (le-ltb _ _ c.if-n-text.false)

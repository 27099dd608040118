-- `lsp::second_stage` meets its contract: one branch for each outcome of its test.
use borrow.Author.Tests.{lt-ltb, le-ltb}
use mir.Syntax.{w16}
use Rattle.laws.specs.Back.{via}
use Rattle.lsp.proofs.second_stage.Goals as goal

pub returns-then-i-lt5 : goal.returns-then-i-lt5
returns-then-i-lt5 c = rw (lt-ltb _ _ c.if-i-lt5.true) (via w16 _ c.result-1.given)

pub returns : goal.returns
returns c = rw (le-ltb _ _ c.if-i-lt5.false) (via w16 _ c.result-2-1.given)

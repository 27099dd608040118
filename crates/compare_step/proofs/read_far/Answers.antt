-- `compare_step::read_far` meets its contract: each part from its place.
use mir.Syntax.{w16}
use Rattle.laws.specs.Back.{via}
use Rattle.compare_step.specs.Compare.{read_far}
use Rattle.compare_step.proofs.read_far.Goals as goal

pub returns : goal.returns
unfolding read_far
returns c =
    rw (via w16 c.word.result c.word.type_inv, via w16 c.word-2.result c.word-2.type_inv, via w16 c.word-3.result c.word-3.type_inv, c.word.ensures, c.word-2.ensures, c.word-3.ensures, c.words.ensures, c.words_at-tail.ensures)

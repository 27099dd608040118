-- `print::Writer::words` meets its contract.
use native.Mathlib.Omega.{arith}
use lib.ListN.{length}
use Rattle.text.specs.Laws.{kept}
use Rattle.print.specs.Laws.{length_words}
use Rattle.print.proofs.Writer.words.Goals as goal

pub returns-clause-within : goal.returns-clause-within
returns-clause-within c = let l = c.args.samples.now in omega (arith, c.words-self.ensures.place, length_words (length l) l)

pub returns-clause-kept : goal.returns-clause-kept
returns-clause-kept c = kept c.words-self.ensures

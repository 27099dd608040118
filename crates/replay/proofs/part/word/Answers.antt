-- `replay::part::word` meets its contract: a list read past its end gives the default.
use mathlib.Core.Path.{sym}
use native.Mathlib.Omega.{arith}
use lib.IntN.{pos}
use lib.ListN.{get_or-eq_default}
use Rattle.replay.proofs.part.word.Goals as goal

pub returns-else-from-words : goal.returns-else-from-words
returns-else-from-words c = sym (get_or-eq_default c.args.words.now (pos 0) (omega arith))

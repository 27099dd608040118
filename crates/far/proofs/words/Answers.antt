-- `far::words` meets its contract.
use mathlib.Core.Path.{refl}
use native.Mathlib.Omega.{arith}
use Rattle.far.specs.Laws.{words_short, words_frame}
use Rattle.std.proofs.Common.{rules}
use Rattle.far.proofs.words.Goals as goal

pub returns-then-bytes-lt-WORDS_LENGTH : goal.returns-then-bytes-lt-WORDS_LENGTH
returns-then-bytes-lt-WORDS_LENGTH c = words_short _ (search rules)

pub returns : goal.returns
returns c = words_frame c.args.bytes.now _ _ (omega arith) refl c.from_bytes.ensures

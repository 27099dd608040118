-- `replay::hex::byte` meets its contract: a list read past its end gives the default.
use mathlib.Core.Path.{sym}
use native.Mathlib.Omega.{arith}
use lib.ListN.{get_or-eq_default}
use Rattle.replay.proofs.hex.byte.Goals as goal

pub returns-else-at-text : goal.returns-else-at-text
returns-else-at-text c = sym (get_or-eq_default c.args.text.now 0 (omega arith))

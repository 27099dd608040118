-- `wav::behind` meets its contract: the test picks its case of the definition.
use mathlib.Core.Path.{sym}
use Prim.Native.Nat.{◌-◌}
use native.Mathlib.Omega.{arith}
use borrow.Author.Tests.{lt-ltb, le-ltb}
use Rattle.wav.specs.Wav.{behind}
use Rattle.std.proofs.Common.{rules}
use Rattle.wav.proofs.behind.Goals as goal

pub returns-then-left-size : goal.returns-then-left-size
unfolding behind
returns-then-left-size c = (sym (rw (le-ltb _ _ c.if-left-size.true)), search rules)

pub returns : goal.returns
unfolding behind
returns c =
    let s = c.args in
    (sym (rw (lt-ltb s.size (s.end - s.at) (omega arith))), search rules)

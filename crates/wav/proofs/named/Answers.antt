-- `wav::named` meets its contract: a head that isn't whole has no name.
use mathlib.Core.Path.{sym, ◌∙◌}
use Prim.Native.Nat.{◌-◌}
use native.Mathlib.Omega.{arith}
use lib.ListN.{length}
use borrow.Author.Tests.{lt-ltb, le-ltb}
use Rattle.wav.specs.Wav.{named}
use Rattle.wav.specs.Laws.{rest}
use Rattle.wav.proofs.named.Goals as goal

pub returns-then-bytes-at-lt8 : goal.returns-then-bytes-at-lt8
unfolding named
returns-then-bytes-at-lt8 c = sym (rw (lt-ltb _ _ c.if-bytes-at-lt8.true))

pub returns : goal.returns
unfolding named
returns c =
    let s = c.args in
    rw (le-ltb (length s.bytes.now - s.at) 8 (omega arith)) (c.starts.ensures ∙ rw (rest s.bytes.now s.at))

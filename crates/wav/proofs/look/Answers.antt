-- `wav::look` meets its contract: each test picks its case of the definition.
use mathlib.Core.Path.{sym, ◌∙◌}
use native.Mathlib.Omega.{arith}
use lib.ListN.{length}
use borrow.Author.Tests.{lt-ltb, le-ltb}
use Rattle.wav.specs.Wav.{look}
use Rattle.wav.specs.Laws.{rest}
use Rattle.wav.proofs.look.Goals as goal

pub returns-then-bytes-lt12 : goal.returns-then-bytes-lt12
unfolding look
returns-then-bytes-lt12 c = (sym (rw (lt-ltb _ _ c.if-bytes-lt12.true)), tt)

pub returns-then-not-starts : goal.returns-then-not-starts
unfolding look
returns-then-not-starts c =
    let l = c.args.bytes.now in
    (sym (rw (le-ltb (length l) 12 (omega arith), ← rest l 8, sym c.starts.ensures ∙ c.if-not-starts.true)), tt)

pub returns : goal.returns
unfolding look
returns c =
    let l = c.args.bytes.now in (
      c.samples.ensures.0 ∙ sym (rw (le-ltb (length l) 12 (omega arith), ← rest l 8, sym c.starts.ensures ∙ c.if-not-starts.false, ← c.last.ensures.0)),
      c.samples.ensures.1,
    )

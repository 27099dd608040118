-- `pack::parity_bit` meets its contract: parity with a P0 of 0 decides.
use mathlib.Core.Path.{◌≡◌, sym, ◌∙◌}
use mathlib.Core.Bool.{true, false}
use Rattle.pitch.specs.Pitch.{parity_ok}
use Rattle.pack.specs.Pack.{parity_bit}
use Rattle.pack.proofs.parity_bit.Goals as goal

pub returns-then-parity_ok : goal.returns-then-parity_ok
unfolding parity_bit
returns-then-parity_ok c =
    let e : parity_ok c.args.p1 0 ≡ true = sym c.parity_ok.ensures ∙ c.if-parity_ok.true in
    rw e

pub returns-else-parity_ok : goal.returns-else-parity_ok
unfolding parity_bit
returns-else-parity_ok c =
    let e : parity_ok c.args.p1 0 ≡ false = sym c.parity_ok.ensures ∙ c.if-parity_ok.false in
    rw e

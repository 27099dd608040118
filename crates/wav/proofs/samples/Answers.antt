-- `wav::samples` meets its contract: each test picks its case of the definition, and a chunk that has a name has a whole head.
use mathlib.Core.Path.{sym, ◌∙◌}
use native.Mathlib.Omega.{arith}
use Rattle.std.proofs.lemmas.Result.{err_from_is_err_and}
use Rattle.wav.specs.Wav.{found, samples}
use Rattle.wav.specs.Laws.{named_room}
use Rattle.wav.proofs.samples.Goals as goal

pub returns-then-not-named : goal.returns-then-not-named
unfolding samples
returns-then-not-named c = (sym (rw (sym c.named.ensures ∙ c.if-not-named.true)), tt)

pub returns-in_err-check_format : goal.returns-in_err-check_format
unfolding samples found
returns-in_err-check_format c =
    let p = err_from_is_err_and c.from_residual.result c.from_residual.ensures.1 in
    rw (p.1, p.2) (sym (rw (sym c.named.ensures ∙ c.if-not-named.false, ← c.in_err-check_format.ensures)), tt)

pub field-requires : goal.field-requires
field-requires c =
    omega (arith, named_room _ _ _ (sym c.named.ensures ∙ c.if-not-named.false))

pub returns : goal.returns
unfolding samples found
returns c =
    let e = sym c.named.ensures ∙ c.if-not-named.false in
    (sym (rw (e, ← c.in_ok-check_format.ensures, ← c.field.ensures)), omega (arith, named_room _ _ _ e))

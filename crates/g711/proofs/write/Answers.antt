-- `g711::write` meets its contract: every sample was looked at before the first byte is written.
use Rattle.std.proofs.Common.{◌≡◌, refl, sym, ap, ◌∙◌}
use Rattle.std.proofs.lemmas.Bool.{eqb-false}
use Rattle.std.proofs.lemmas.Result.{err_from_is_err_and}
use Rattle.refusal.specs.Laws.{nonzero}
use Rattle.g711.specs.Fast.{form}
use Rattle.g711.specs.Laws.{taken, write_refused}
use Rattle.g711.proofs.Laws.{write_none, write_done}
use Rattle.g711.proofs.write.Goals as goal

pub returns-in_err-law : goal.returns-in_err-law
returns-in_err-law c =
    let p = err_from_is_err_and c.from_residual.result c.from_residual.ensures.1 in
    rw (p.1, p.2) (write_refused _ _ _ _ c.in_err-law.ensures.refused (eqb-false _ _ (nonzero c.in_err-law.field-0.0)))

pub returns-then-faults-ne0 : goal.returns-then-faults-ne0
returns-then-faults-ne0 c =
    let h = taken _ _ _ _ c.in_ok-law.ensures.refused refl in
    write_none _ h.0 _ _ h.1 (λ e. c.if-faults-ne0.true (c.faults.ensures ∙ rw (c.form-form.ensures, c.in_ok-law.ensures.named) e))

pub compress-requires : goal.compress-requires
compress-requires c = sym (taken _ _ _ _ c.in_ok-law.ensures.refused refl).1

pub returns : goal.returns
returns c =
    let h = taken _ _ _ _ c.in_ok-law.ensures.refused refl in
    let f : c.form-form.result ≡ form c.args.law = c.form-form.ensures ∙ ap form c.in_ok-law.ensures.named in
    write_done _ h.0 _ _ h.1 _ (rw (← f) (sym c.faults.ensures ∙ c.if-faults-ne0.false)) (c.compress.ensures ∙ rw f)

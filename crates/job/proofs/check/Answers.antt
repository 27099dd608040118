-- `job::check` meets its contract: each test decides a part of it.
use Rattle.std.proofs.Common.{sym, ◌∙◌, rules}
use Rattle.std.proofs.lemmas.Result.{err_from_is_err_and}
use Rattle.job.specs.Laws.{check_length, check_sum, check_known, check_fits, check_tables, check_state, block_is}
use Rattle.job.proofs.check.Goals as goal

pub returns-then-bytes-ne-LENGTH-clause-number : goal.returns-then-bytes-ne-LENGTH-clause-number
returns-then-bytes-ne-LENGTH-clause-number c = check_length _ _ c.if-bytes-ne-LENGTH.true

pub returns-then-not-sum_fits-clause-number : goal.returns-then-not-sum_fits-clause-number
returns-then-not-sum_fits-clause-number c = check_sum _ _ c.if-bytes-ne-LENGTH.false (sym c.sum_fits.ensures ∙ c.if-not-sum_fits.true)

pub returns-then-not-known-clause-number : goal.returns-then-not-known-clause-number
returns-then-not-known-clause-number c =
    check_known _ _ c.if-bytes-ne-LENGTH.false (sym c.sum_fits.ensures ∙ c.if-not-sum_fits.false) (sym c.known.ensures ∙ c.if-not-known.true)

pub returns-then-not-fits-clause-number : goal.returns-then-not-fits-clause-number
returns-then-not-fits-clause-number c =
    check_fits _ _ c.if-bytes-ne-LENGTH.false (sym c.sum_fits.ensures ∙ c.if-not-sum_fits.false) _
    (sym c.known.ensures ∙ c.if-not-known.false)
    c.place-p.ensures
    (sym c.fits.ensures ∙ c.if-not-fits.true)

pub returns-then-p-tables-clause-number : goal.returns-then-p-tables-clause-number
returns-then-p-tables-clause-number c =
    check_tables _ _ c.if-bytes-ne-LENGTH.false (sym c.sum_fits.ensures ∙ c.if-not-sum_fits.false) _
    (sym c.known.ensures ∙ c.if-not-known.false)
    c.place-p.ensures
    (sym c.fits.ensures ∙ c.if-not-fits.false)
    c.if-p-tables.true

pub returns-in_err-state_check-clause-number : goal.returns-in_err-state_check-clause-number
returns-in_err-state_check-clause-number c =
    let f = c.args.bytes.now in
    let p = err_from_is_err_and c.from_residual.result c.from_residual.ensures.1 in
    rw (p.1, p.2) (c.in_err-state_check.ensures ∙ check_state f _ c.if-bytes-ne-LENGTH.false (sym c.sum_fits.ensures ∙ c.if-not-sum_fits.false) _
    (sym c.known.ensures ∙ c.if-not-known.false)
    c.place-p.ensures
    _
    (sym c.fits.ensures ∙ c.if-not-fits.false)
    c.if-p-tables.false
    (block_is f _ _ c.if-bytes-ne-LENGTH.false (search rules) c.from_bytes.ensures))

pub returns-clause-number : goal.returns-clause-number
returns-clause-number c =
    let f = c.args.bytes.now in
    c.in_ok-state_check.ensures ∙ check_state f _ c.if-bytes-ne-LENGTH.false (sym c.sum_fits.ensures ∙ c.if-not-sum_fits.false) _
    (sym c.known.ensures ∙ c.if-not-known.false)
    c.place-p.ensures
    _
    (sym c.fits.ensures ∙ c.if-not-fits.false)
    c.if-p-tables.false
    (block_is f _ _ c.if-bytes-ne-LENGTH.false (search rules) c.from_bytes.ensures)

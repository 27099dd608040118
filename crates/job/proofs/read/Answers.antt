-- `job::read` meets its contract.
use Rattle.std.proofs.Common.{sym, arith, rules}
use Rattle.std.proofs.lemmas.Bool.{eqb-false}
use Rattle.std.proofs.lemmas.Result.{err_from_is_err_and}
use Rattle.refusal.specs.Laws.{nonzero}
use Rattle.job.specs.Laws.{check_zero, read_refused, read_done}
use Rattle.job.proofs.read.Goals as goal

pub returns-in_err-place : goal.returns-in_err-place
returns-in_err-place c =
    let p = err_from_is_err_and c.from_residual.result c.from_residual.ensures.1 in
    rw (p.1, p.2) (read_refused _ _ _ _ c.in_err-place.ensures.number (eqb-false _ _ (nonzero c.in_err-place.field-0.0)))

pub slice_bounds-from_bytes-end : goal.slice_bounds-from_bytes-end
slice_bounds-from_bytes-end c = omega (arith, check_zero _ _ (sym c.in_ok-place.ensures.number))

pub returns : goal.returns
returns c =
    read_done _ _ _ _ _ c.in_ok-place.ensures.number c.in_ok-place.ensures.place (search rules) c.from_bytes.ensures

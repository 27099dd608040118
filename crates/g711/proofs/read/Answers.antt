-- `g711::read` meets its contract.
use Rattle.std.proofs.Common.{refl}
use Rattle.std.proofs.lemmas.Bool.{eqb-false}
use Rattle.std.proofs.lemmas.Result.{err_from_is_err_and}
use Rattle.refusal.specs.Laws.{nonzero}
use Rattle.g711.specs.G711.{value}
use Rattle.g711.specs.Laws.{Meets, taken, read_refused, read_done}
use Rattle.g711.proofs.read.Goals as goal

pub returns-in_err-law : goal.returns-in_err-law
returns-in_err-law c =
    let p = err_from_is_err_and c.from_residual.result c.from_residual.ensures.1 in
    rw (p.1, p.2) (read_refused _ _ _ _ c.in_err-law.ensures.refused (eqb-false _ _ (nonzero c.in_err-law.field-0.0)))

pub expand-requires : goal.expand-requires
expand-requires c = (taken _ _ _ _ c.in_ok-law.ensures.refused refl).1

pub returns : goal.returns
returns c =
    let h = taken _ _ _ _ c.in_ok-law.ensures.refused refl in
    let m : Meets (value c.args.law) c.table.result.now = rw (← c.in_ok-law.ensures.named) c.table.ensures in
    read_done c.args.law h.0 _ _ _ h.1 (c.expand.ensures.by (value c.args.law) m (λ k. (c.type_inv.bytes k).fits))

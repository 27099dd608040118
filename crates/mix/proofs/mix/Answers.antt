-- `mix::mix` meets its contract: the sums, and for each leg these without its own samples.
use Rattle.std.proofs.Common.{refl}
use Rattle.std.proofs.lemmas.Bool.{eqb-false}
use Rattle.std.proofs.lemmas.Result.{err_from_is_err_and}
use Rattle.refusal.specs.Laws.{nonzero}
use Rattle.mix.specs.Laws.{taken, mix_refused, mix_done}
use Rattle.mix.proofs.mix.Goals as goal

pub returns-in_err-check : goal.returns-in_err-check
returns-in_err-check c =
    let p = err_from_is_err_and c.from_residual.result c.from_residual.ensures.1 in
    rw (p.1, p.2) (mix_refused _ _ _ c.in_err-check.ensures (eqb-false _ _ (nonzero c.in_err-check.field-0.0)))

pub sums-total-requires : goal.sums-total-requires
sums-total-requires c = (taken c.args.legs.now c.args.heard.now _ c.in_ok-check.ensures refl).0.most

pub each-requires : goal.each-requires
each-requires c =
    let h = taken c.args.legs.now c.args.heard.now _ c.in_ok-check.ensures refl in
    (h.0.rest, h.1, c.sums-total.ensures)

pub returns : goal.returns
returns c = mix_done _ _ _ _ c.in_ok-check.ensures refl c.each.ensures

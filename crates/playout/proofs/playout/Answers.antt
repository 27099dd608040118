-- `playout::playout` meets its contract: what is refused, else the kinds, and the lost among them.
use Rattle.std.specs.Prelude.{◌≡◌, length}
use Rattle.std.proofs.Common.{refl, sym, ap, ◌∙◌, arith}
use Rattle.std.proofs.lemmas.Bool.{eqb-false}
use Rattle.std.proofs.lemmas.Result.{err_from_is_err_and}
use Rattle.refusal.specs.Laws.{nonzero}
use Rattle.playout.specs.Playout.{arrivals, kinds}
use Rattle.playout.specs.Laws.{playout_refused, playout_done, lost_most, length_kinds, accepted}
use Rattle.playout.proofs.playout.Goals as goal

pub returns-in_err-check : goal.returns-in_err-check
returns-in_err-check c =
    let p = err_from_is_err_and c.from_residual.result c.from_residual.ensures.1 in
    rw (p.1, p.2) (playout_refused _ _ _ _ _ _ _ c.in_err-check.ensures (eqb-false _ _ (nonzero c.in_err-check.field-0.0)))

pub overflow_cast-result : goal.overflow_cast-result
overflow_cast-result c =
    let h = accepted c.args.frames c.args.numbers.now (length c.args.times.now) (length c.args.out.now) (sym c.in_ok-check.ensures) in
    let n : length c.kinds.new.out ≡ length c.args.out.now = ap length c.kinds.ensures ∙ length_kinds c.args.start c.args.depth (arrivals c.args.numbers.now c.args.times.now) (length c.args.out.now) in
    record { fits = omega (arith, c.lost-n.ensures, lost_most c.kinds.new.out, n, h.0, h.4) }

pub returns : goal.returns
returns c =
    let h = accepted c.args.frames c.args.numbers.now (length c.args.times.now) (length c.args.out.now) (sym c.in_ok-check.ensures) in
    playout_done _ c.args.start c.args.depth _ _ _ _ c.in_ok-check.ensures refl _ _ (c.kinds.ensures ∙ ap (kinds _ _ _) h.4) c.lost-n.ensures

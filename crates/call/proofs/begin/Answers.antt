-- `call::begin` meets its contract: the tests first, then the words of the file and the fresh state, and the tables only where it is taken.
use lib.IntN.{pos}
use lib.ListN.{replicate, length-replicate}
use Rattle.std.proofs.Common.{refl}
use Rattle.std.proofs.lemmas.Bool.{eqb-false}
use Rattle.std.proofs.lemmas.Result.{err_from_is_err_and}
use Rattle.refusal.specs.Laws.{nonzero}
use Rattle.call.specs.Laws.{begin_short, begin_room, begin_refused, begin_done}
use Rattle.call.proofs.begin.Goals as goal

pub returns-then-file-ne3760 : goal.returns-then-file-ne3760
returns-then-file-ne3760 c = let s = c.args in begin_short s.file.now s.t.now s.b.now c.if-file-ne3760.true

pub returns-then-t-ne1880 : goal.returns-then-t-ne1880
returns-then-t-ne1880 c = let s = c.args in begin_room s.file.now s.t.now s.b.now c.if-file-ne3760.false c.if-t-ne1880.true

pub returns-in_err-fresh_state : goal.returns-in_err-fresh_state
returns-in_err-fresh_state c =
    let s = c.args in
    let p = err_from_is_err_and c.from_residual.result c.from_residual.ensures.1 in
    rw (p.1, p.2)
    (begin_refused s.file.now s.t.now s.b.now c.if-file-ne3760.false c.if-t-ne1880.false (replicate 1880 (pos 0)) (length-replicate 1880 (pos 0)) c.from_bytes.ensures c.in_err-fresh_state.ensures
    (eqb-false _ _ (nonzero c.in_err-fresh_state.field-0.0)))

pub returns : goal.returns
returns c =
    let s = c.args in
    begin_done s.file.now s.t.now s.b.now c.if-file-ne3760.false c.if-t-ne1880.false (replicate 1880 (pos 0)) (length-replicate 1880 (pos 0)) c.from_bytes.ensures c.in_ok-fresh_state.ensures
    refl c.from_bytes-2.ensures

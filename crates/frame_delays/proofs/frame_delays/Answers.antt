-- `frame_delays::frame_delays` meets its contract: what the calls give, one after the other.
use Prim.Native.Nat.{◌<◌}
use lib.Signed.{mag}
use mir.Syntax.{w16}
use Rattle.laws.specs.Back.{via}
use Rattle.std.proofs.Common.{rules}
use Rattle.frame_delays.specs.Laws.{done}
use Rattle.frame_delays.proofs.frame_delays.Goals as goal

pub returns : goal.returns
returns c =
    let a = c.args in
    let x = c.delays-found.result in
    let old : mag a.carried.now < 32768 = search rules in
    let next : mag x.state.old < 32768 = search rules in
    let back = via w16 a.carried.now old in
    done a.carried.now a.kind a.payload.now (rw back at c.in_ok-check.ensures) c.decide-d.ensures x (rw back at c.delays-found.ensures) c.handed_up.ensures (via w16 x.state.old next)

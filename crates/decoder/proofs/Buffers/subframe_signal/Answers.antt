-- `decoder::Buffers::subframe_signal` meets its contract: the calls, one after the other.
use Prim.Native.Nat.{◌<◌}
use lib.Signed.{mag}
use mir.Syntax.{w16}
use Rattle.laws.specs.Back.{via}
use Rattle.decoder.specs.Frame.{subframe_signal}
use Rattle.std.proofs.Common.{rules}
use Rattle.decoder.proofs.Buffers.subframe_signal.Goals as goal

pub returns : goal.returns
unfolding subframe_signal
returns c =
    let v = c.args.v.now in
    let integer : mag v.delay.integer < 32768 = search rules in
    let fraction : mag v.delay.fraction < 32768 = search rules in
    let gp : mag v.gp < 32768 = search rules in
    let gc : mag v.gc < 32768 = search rules in
    rw (c.reconstruct.ensures.exc_after, c.reconstruct.ensures.speech_after, c.excitation.ensures, c.adaptive_vector.ensures, c.b30.ensures, via w16 v.delay.integer integer, via w16 v.delay.fraction fraction, via w16 v.gp gp, via w16 v.gc gc)

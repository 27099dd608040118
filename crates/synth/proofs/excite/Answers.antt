-- `synth::excite` meets its contract: the whole form where its callee allows it, and elsewhere the calls in their order.
use lib.IntN.{negsuc}
use lib.Signed.{lt_z}
use mir.Syntax.{w16, w32}
use mir.Val.{to_z, of_z}
use mir.Facts.{to_z-of_z}
use Rattle.laws.specs.Back.{via}
use Rattle.synth.specs.Synth.{excite}
use Rattle.synth.specs.FastLaws.{first_gain, second_gain}
use Rattle.synth.proofs.excite.Goals as goal

pub excite_whole-requires : goal.excite_whole-requires
excite_whole-requires c =
    let p = to_z-of_z c.ranges.gp in
    let q = to_z-of_z c.ranges.gc in
    record { gp_bound = rw p (first_gain p c.ranges.gp (lt_z (negsuc 32767) (to_z w16 (of_z w16 c.args.gc))) c.if-gp-gc.true); gc_bound = rw q (second_gain q c.ranges.gc (lt_z (negsuc 32767) (to_z w16 (of_z w16 c.args.gp))) c.if-gp-gc.true) }

pub returns-then-gp-gc : goal.returns-then-gp-gc
returns-then-gp-gc c =
    cc (via w16 c.excite_whole.result c.excite_whole.type_inv, to_z-of_z c.ranges.v, to_z-of_z c.ranges.c, to_z-of_z c.ranges.gp, to_z-of_z c.ranges.gc)

pub returns : goal.returns
unfolding excite
returns c =
    cc (via w16 c.round.result c.round.type_inv, via w32 c.l_shl.result c.l_shl.type_inv, via w32 c.l_mac-l.result c.l_mac-l.type_inv, via w32 c.l_mult.result c.l_mult.type_inv, to_z-of_z c.ranges.v, to_z-of_z c.ranges.c, to_z-of_z c.ranges.gp, to_z-of_z c.ranges.gc)

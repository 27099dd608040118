-- `decoder::frame` meets its contract: a refusal by its number, else what the calls give, one after the other, of which both parts are written.
use mathlib.Core.Path.{◌≡◌}
use lib.ListN.{length}
use Rattle.block.specs.Places.{speech_length}
use Rattle.decoder.specs.Laws.{done, samples_are, report_is, block_is}
use Rattle.std.proofs.Common.{rules}
use Rattle.decoder.proofs.frame.Goals as goal

pub returns : goal.returns
returns c =
    let a = c.args in
    let b = a.b.now in
    let d = c.decide-d.result in
    let p = c.read_params.ensures in
    let v = c.parameters-v.ensures in
    let w = c.opened-w.ensures in
    let u = c.frame_signal.ensures in
    let sized : length c.frame_signal.new.self.speech ≡ speech_length = search rules in
    done a.t.now b a.kind a.payload.now a.out.now c.in_ok-check.ensures _ c.decide-d.ensures (block_is a.t.now d b p v w u c.write_block-left.ensures) sized (samples_are a.t.now d b p v w u) c.words.ensures (report_is a.t.now d b p v w u c.handed_up.ensures) c.copy_block.ensures

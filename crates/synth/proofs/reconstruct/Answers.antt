-- `synth::reconstruct` meets its contract, by the two cases; the second synthesis gives what it would give on the samples lent.
use Rattle.synth.specs.Laws.{again_exc, again_speech, once_exc, once_speech}
use Rattle.synth.proofs.reconstruct.Goals as goal

pub returns-then-saturated : goal.returns-then-saturated
returns-then-saturated c =
    let f = c.synthesize-saturated.ensures in
    let t = c.if-saturated.true in
    record { exc_after = again_exc _ _ _ _ f.value t c.divide_by_4.ensures; speech_after = again_speech _ _ _ _ f.value t c.divide_by_4.ensures f.speech_after c.synthesize.ensures.speech_after }

pub returns-else-saturated : goal.returns-else-saturated
returns-else-saturated c =
    let f = c.synthesize-saturated.ensures in
    let t = c.if-saturated.false in
    record { exc_after = once_exc _ _ _ _ f.value t; speech_after = once_speech _ _ _ _ f.value t f.speech_after }

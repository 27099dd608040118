-- `synth_filter::synthesize` meets its contract: the plain samples go on where the whole ones end.
use Rattle.synth_filter.specs.Filter.{synthesis, saturates}
use Rattle.synth_filter.proofs.synthesize.Goals as goal

pub returns : goal.returns
unfolding synthesis saturates
returns c =
    let q = c.plain_samples.ensures _ c.whole_samples-done.ensures.reached in
    record { value = q.1; speech_after = q.0 }

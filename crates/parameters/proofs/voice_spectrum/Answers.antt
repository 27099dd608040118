-- `parameters::voice_spectrum` meets its contract: the calls, one after the other.
use Rattle.parameters.specs.Parameters.{voice_spectrum}
use Rattle.parameters.proofs.voice_spectrum.Goals as goal

pub returns : goal.returns
unfolding voice_spectrum
returns c = cc

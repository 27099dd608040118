-- `unfolding Parts` opens every part of a frame's parameters, for laws on what a frame leaves.
use Rattle.pitch.specs.Pitch.{voice_delays, concealed_delays}
use Rattle.parameters.specs.Parameters.{to_spectrum, voice_spectrum, concealed_spectrum, coded, voice_codes, draw, concealed_codes, subframe, next_params, to_decoded, voice, conceal, parameters}

unfoldable pub Parts : Type 0
unfolding to_spectrum voice_spectrum concealed_spectrum voice_delays concealed_delays coded voice_codes draw concealed_codes subframe next_params to_decoded voice conceal parameters
Parts = Unit {0}

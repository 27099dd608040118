-- `parameters::to_decoded` meets its contract: field by field.
use mir.Facts.{to_z-of_z}
use Rattle.parameters.specs.Parameters.{to_decoded}
use Rattle.parameters.proofs.to_decoded.Goals as goal

pub returns : goal.returns
unfolding to_decoded
returns c i =
    record {
      first = c.to_subframe-first.ensures i;
      second = c.to_subframe-second.ensures i;
      params = (rw (to_z-of_z c.ranges.predictor, to_z-of_z c.ranges.seed) at c.next_params-params.ensures) i;
    }

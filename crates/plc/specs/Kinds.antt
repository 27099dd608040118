-- What a frame of each kind (crate kind) is decoded as. An erased frame is concealed (G.729 clause 4.4). Annex B is left out, and without it the frames of kinds 1
-- and 2 are concealed in the same way.
use Rattle.std.specs.Prelude.{cond, List, ℕ, eqb}
use Rattle.bitstream.specs.Fields.{unpack}
use Rattle.plc.specs.declared.Decision.{Decision}
use Rattle.plc.specs.declared.Decision.TheVariants.{Voice, Concealment}

unfoldable pub decide : ℕ → List ℕ → Decision
decide kind payload = cond (eqb kind 0) (Voice (unpack payload)) Concealment

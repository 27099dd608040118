-- `lsp::predictor_index` meets its contract. Assumes nothing.
use Rattle.std.proofs.Common.{◌≡◌, ◌∙◌, refl, Bool, true, false, cond, to_z-of_z}
use mir.Val.{bool_byte}
use Rattle.lsp.specs.Lsp.{predictor_index}
use Rattle.lsp.proofs.predictor_index.Goals as goal

as_number : (b : Bool) → bool_byte b ≡ cond b 1 0
as_number true = refl
as_number false = refl

pub returns : goal.returns
unfolding predictor_index
returns c = c.from.ensures ∙ rw (to_z-of_z c.ranges.p) (as_number _)

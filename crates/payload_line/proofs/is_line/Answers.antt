-- `payload_line::is_line` meets its contract: Line takes the text, or refuses it.
use mathlib.Core.Path.{refl, ap, ◌∙◌}
use Rattle.payload_line.specs.Laws.{is_frame, tells_ok, line_tells}
use Rattle.payload_line.proofs.is_line.Goals as goal

pub returns : goal.returns
returns c =
    c.is_ok.ensures.value ∙ tells_ok _ _ ∙ ap is_frame c.line.ensures ∙ line_tells c.args.text.now _ refl

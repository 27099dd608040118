-- `far::Form::frame` meets its contract: a form that isn't printed has words.
use mathlib.Core.Path.{◌∙◌}
use Rattle.far.specs.Laws.{other_form, frame_within}
use Rattle.far.proofs.Form.frame.Goals as goal

pub returns-in-Printed-clause-bytes_in_bounds : goal.returns-in-Printed-clause-bytes_in_bounds
returns-in-Printed-clause-bytes_in_bounds c = frame_within _ _ _ c.printed.ensures

pub returns-in-Words : goal.returns-in-Words
returns-in-Words c =
    let e = c.words.ensures ∙ other_form _ _ c.in-Words.is in
    record { frame_value = e; bytes_in_bounds = frame_within _ _ _ e }

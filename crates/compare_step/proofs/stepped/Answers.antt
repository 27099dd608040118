-- `compare_step::stepped` meets its contract: what the calls give, one after the other.
use mathlib.Core.Path.{◌≡◌, ap, ◌∙◌}
use lib.ListN.{length}
use Rattle.block.specs.Laws.{last_part}
use Rattle.parameters.specs.Parameters.{parameters}
use Rattle.compare_step.proofs.Parts.{from_on}
use Rattle.compare_step.specs.Laws.{done}
use Rattle.std.proofs.Common.{rules}
use Rattle.compare_step.proofs.stepped.Goals as goal

pub returns : goal.returns
returns c =
    let g = c.args in
    let v = c.parameters-v.ensures ∙ ap (parameters g.t.now g.d) c.read_params.ensures in
    let y = c.words.ensures ∙ last_part 0 80 g.y.now c.requires.y_len in
    let sized : length c.front.result ≡ 243 = search rules in
    done g.t.now g.m.now g.d g.y.now g.out.now c.requires.m_len v c.read_far-h.ensures y (from_on 243 g.m.now) (c.step-r.ensures c.requires.out_len) c.front.ensures sized c.put.ensures

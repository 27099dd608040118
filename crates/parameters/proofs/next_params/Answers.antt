-- `parameters::next_params` meets its contract: field by field.
use Rattle.lsp.specs.Lsp.{remember_output}
use Rattle.parameters.specs.Parameters.{next_params}
use Rattle.std.proofs.Common.{rules}
use Rattle.parameters.proofs.next_params.Goals as goal

pub returns : goal.returns
unfolding next_params remember_output
returns c =
    rw (c.remember_output-rows.ensures, c.past_rows.ensures) (search rules)

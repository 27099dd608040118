-- `parameters::to_spectrum` meets its contract: the calls, one after the other.
use Rattle.parameters.specs.Parameters.{to_spectrum}
use Rattle.parameters.proofs.to_spectrum.Goals as goal

pub returns : goal.returns
unfolding to_spectrum
returns c = rw (c.lsp_to_lp-a2.ensures, c.lsp_to_lp-a1.ensures, c.interpolate.ensures, c.lsf_to_lsp-lsp.ensures)

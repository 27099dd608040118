-- `lpc::lsp_to_lp` meets its contract: F1 from the LSPs of odd number, F2 from the others. Assumes nothing.
use mir.Syntax.{w16}
use Rattle.laws.specs.Back.{via}
use Rattle.lpc.specs.Laws.{converted}
use Rattle.lpc.proofs.lsp_to_lp.Goals as goal

pub returns : goal.returns
returns c =
    converted _
    (via w16 _ c.polynomial-arg-1.given)
    (via w16 _ c.polynomial-arg-6-1.given)
    (via w16 _ c.polynomial-arg-2-1.given)
    (via w16 _ c.polynomial-arg-7-1.given)
    (via w16 _ c.polynomial-arg-3-1.given)
    (via w16 _ c.polynomial-arg-8-1.given)
    (via w16 _ c.polynomial-arg-4-1.given)
    (via w16 _ c.polynomial-arg-9-1.given)
    (via w16 _ c.polynomial-arg-5-1.given)
    (via w16 _ c.polynomial-arg-10-1.given)
    c.polynomial-f1.ensures
    c.polynomial-f2.ensures
    c.coefficients.ensures

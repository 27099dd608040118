-- `lsp::remember_output` meets its contract: the rows are those that it names.
use mathlib.Core.Path.{◌≡◌, ap}
use mathlib.Core.List.{List, ◌∷◌}
use lib.IntN.{ℤ}
use lib.ListN.{length}
use Rattle.lsp.specs.Lsp.{remember_output}
use Rattle.lsp.specs.Laws.{first_three}
use native.Mathlib.Omega.{arith}
use Rattle.std.proofs.Common.{rules}
use Rattle.lsp.proofs.remember_output.Goals as goal

pub returns : goal.returns
unfolding remember_output
returns c =
    let h : length c.args.past ≡ 4 = search rules in
    ap (λ (r : List (List ℤ)). c.args.l ∷ r) (first_three c.args.past (omega arith))

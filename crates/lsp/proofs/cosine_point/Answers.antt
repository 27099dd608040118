-- `lsp::cosine_point` meets its contract. Assumes nothing.
use Rattle.std.proofs.Common.{◌≡◌, ◌∙◌, ◌≤◌, ◌<◌, refl, ℕ, min, Bool, true, false, cond, ltb, ltb-true, ltb-false, arith}
use Rattle.lsp.proofs.cosine_point.Goals as goal

least : (n : ℕ) → min n 63 ≡ cond (ltb n 63) n 63
least n = go (ltb n 63) refl
  where
    go : (t : Bool) → ltb n 63 ≡ t → min n 63 ≡ cond t n 63
    go true e = let h : n < 63 = ltb-true n 63 e in omega arith
    go false e = let h : 63 ≤ n = ltb-false n 63 e in omega arith

pub returns : goal.returns
returns c = (rw c.from.ensures at c.min.ensures) ∙ least _

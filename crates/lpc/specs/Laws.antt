-- Laws of the definitions of `Lpc`. Assumes nothing.
use Rattle.std.specs.Prelude.{ℕ, ◌+◌, ◌*◌, ◌≡◌, refl, List, [], ◌∷◌, ℤ, pos, length}
use Rattle.laws.specs.Lists.{at, tab, length_tab}
use Rattle.laws.specs.Loops.{steps}
use Rattle.lpc.specs.Lpc.{unit_q24, step, top, older, next_stage, polynomial, coefficient, lsp_to_lp}

pub length_lsp_to_lp : (q : List ℤ) → length (lsp_to_lp q) ≡ 11
unfolding lsp_to_lp
length_lsp_to_lp q = length_tab 11 _

-- the five stages, each coefficient by its name
pub five_stages : {p1 p2 p3 p4 p5 q1 q2 q3 q4 q5 a1 b1 b2 c1 c2 c3 d1 d2 d3 d4 e1 e2 e3 e4 e5 : ℤ}
    → p1 ≡ q1 → p2 ≡ q2 → p3 ≡ q3 → p4 ≡ q4 → p5 ≡ q5
    → a1 ≡ top unit_q24 p1 (pos 0)
    → b1 ≡ step unit_q24 p2 a1 (pos 0) → b2 ≡ top a1 p2 unit_q24
    → c1 ≡ step unit_q24 p3 b1 (pos 0) → c2 ≡ step b1 p3 b2 unit_q24 → c3 ≡ top b2 p3 b1
    → d1 ≡ step unit_q24 p4 c1 (pos 0) → d2 ≡ step c1 p4 c2 unit_q24 → d3 ≡ step c2 p4 c3 c1 → d4 ≡ top c3 p4 c2
    → e1 ≡ step unit_q24 p5 d1 (pos 0) → e2 ≡ step d1 p5 d2 unit_q24 → e3 ≡ step d2 p5 d3 d1 → e4 ≡ step d3 p5 d4 d2 → e5 ≡ top d4 p5 d3
    → unit_q24 ∷ e1 ∷ e2 ∷ e3 ∷ e4 ∷ e5 ∷ [] ≡ polynomial (q1 ∷ q2 ∷ q3 ∷ q4 ∷ q5 ∷ [])
unfolding polynomial next_stage older steps tab
five_stages r1 r2 r3 r4 r5 a b b' c c' c'' d d' d'' d''' e e' e'' e''' e'''' =
    rw (e, e', e'', e''', e'''', d, d', d'', d''', c, c', c'', b, b', a, r1, r2, r3, r4, r5)

tab_five : (f : ℕ → ℤ) → f 0 ∷ f 1 ∷ f 2 ∷ f 3 ∷ f 4 ∷ [] ≡ tab 5 f
unfolding tab
tab_five f = refl

-- the filter from F1 and F2, each LSP by its name
pub converted : (q : List ℤ) {f1 f2 a : List ℤ} {q0 q1 q2 q3 q4 q5 q6 q7 q8 q9 : ℤ}
    → q0 ≡ at q 0 → q1 ≡ at q 1 → q2 ≡ at q 2 → q3 ≡ at q 3 → q4 ≡ at q 4 → q5 ≡ at q 5 → q6 ≡ at q 6 → q7 ≡ at q 7 → q8 ≡ at q 8 → q9 ≡ at q 9
    → f1 ≡ polynomial (q0 ∷ q2 ∷ q4 ∷ q6 ∷ q8 ∷ []) → f2 ≡ polynomial (q1 ∷ q3 ∷ q5 ∷ q7 ∷ q9 ∷ [])
    → a ≡ tab 11 (coefficient f1 f2) → a ≡ lsp_to_lp q
unfolding lsp_to_lp
converted q e0 e1 e2 e3 e4 e5 e6 e7 e8 e9 p1 p2 h =
    rw (h, p1, p2, e0, e1, e2, e3, e4, e5, e6, e7, e8, e9, tab_five (λ k. at q (2 * k)), tab_five (λ k. at q (2 * k + 1)))

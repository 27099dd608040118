-- LSPs to the coefficients of the LP filter, G.729 clause 3.2.6: LSPs in Q15, the polynomials F1 and F2 in Q24, the filter in Q12.
-- The clause is on real numbers and leaves the rounding open: the operators and their order are the Rust's. Sums saturate, so the order shows.
use Rattle.std.specs.Prelude.{ℕ, ◌+◌, ◌-◌, ◌*◌, cond, List, [], ◌∷◌, ℤ, pos, eqb, ltb}
use Rattle.laws.specs.Lists.{at, tab}
use Rattle.laws.specs.Loops.{steps}
use Rattle.basic_op.specs.Ops.{l_add, l_sub, l_shl, l_shr_r, extract_l}
use Rattle.basic_op.specs.Oper32b.{multiply_32_by_16}

-- 1.0 in Q24
abbrev pub unit_q24 : ℤ
unit_q24 = pos 16777216

-- f(j) - 2 q f(j - 1) + f(j - 2)
unfoldable pub step : ℤ → ℤ → ℤ → ℤ → ℤ
step previous q same older = l_add (l_sub same (l_shl (multiply_32_by_16 previous q) (pos 1))) older

-- 2 f(j - 2) - 2 q f(j - 1), the new highest coefficient of a stage: F is symmetric, so its coefficient j is its coefficient j - 2
unfoldable pub top : ℤ → ℤ → ℤ → ℤ
top previous q older = l_sub (l_shl older (pos 1)) (l_shl (multiply_32_by_16 previous q) (pos 1))

-- f(j - 2), and 0 where j is below 2
unfoldable pub older : List ℤ → ℕ → ℤ
older f j = cond (ltb j 2) (pos 0) (at f (j - 2))

-- one stage of the clause's recursion: f, which has the coefficients 0 to `degree` - 1, times 1 - 2 q z^-1 + z^-2, and of that 0 to `degree`
unfoldable pub next_stage : List ℤ → ℕ → ℤ → List ℤ
next_stage f degree q =
    tab (degree + 1) (λ j.
    cond (eqb j 0) unit_q24
    (cond (ltb j degree) (step (at f (j - 1)) q (at f j) (older f j))
    (top (at f (j - 1)) q (older f j))))

-- the coefficients 0 to 5 of F1 or of F2 from its five LSPs: 1, and a stage for each LSP
unfoldable pub polynomial : List ℤ → List ℤ
polynomial roots = steps (λ k f. next_stage f (k + 1) (at roots k)) 5 (unit_q24 ∷ [])

-- equation (25), i from 1 to 5
unfoldable pub f1_prime : List ℤ → ℕ → ℤ
f1_prime f1 i = l_add (at f1 i) (at f1 (i - 1))

unfoldable pub f2_prime : List ℤ → ℕ → ℤ
f2_prime f2 i = l_sub (at f2 i) (at f2 (i - 1))

-- half of x, from Q24 to Q12: rounded, and what exceeds 16 bits wraps
unfoldable pub half_q12 : ℤ → ℤ
half_q12 x = extract_l (l_shr_r x (pos 13))

-- equation (26), i from 1 to 10; a(0) is 1.0
unfoldable pub coefficient : List ℤ → List ℤ → ℕ → ℤ
coefficient f1 f2 i =
    cond (eqb i 0) (pos 4096)
    (cond (ltb i 6) (half_q12 (l_add (f1_prime f1 i) (f2_prime f2 i)))
    (half_q12 (l_sub (f1_prime f1 (11 - i)) (f2_prime f2 (11 - i)))))

-- a(0) to a(10) from the ten LSPs: the first, third, .. give F1, and the second, fourth, .. give F2
unfoldable pub lsp_to_lp : List ℤ → List ℤ
lsp_to_lp q = tab 11 (coefficient (polynomial (tab 5 (λ k. at q (2 * k)))) (polynomial (tab 5 (λ k. at q (2 * k + 1)))))

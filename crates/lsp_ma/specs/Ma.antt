-- Moving-average prediction of the line spectral frequencies of G.729 and its inverse (clauses 3.2.4 and 4.4.1). The past rows are the quantizer
-- outputs l^ of the last four frames, the newest first, as are the rows of weights.
use Rattle.std.specs.Prelude.{List, [], ℕ, ℤ, pos, get_or}
use Rattle.laws.specs.Lists.{at, tab}
use Rattle.laws.specs.Loops.{steps}
use Rattle.basic_op.specs.Ops.{l_mult, l_mac, l_msu, l_shl, extract_h, l_deposit_h}

-- row k of a list of rows
abbrev pub row : List (List ℤ) → ℕ → List ℤ
row l k = get_or l k []

-- the terms of the four past rows at word i, in order of age, added to a sum
unfoldable pub add_past : List (List ℤ) → List (List ℤ) → ℕ → ℤ → ℤ
add_past past weights i sum = steps (λ k s. l_mac s (at (row past k) i) (at (row weights k) i)) 4 sum

-- the same subtracted
unfoldable pub subtract_past : List (List ℤ) → List (List ℤ) → ℕ → ℤ → ℤ
subtract_past past weights i sum = steps (λ k s. l_msu s (at (row past k) i) (at (row weights k) i)) 4 sum

-- equation (20): the current term, weighted by the complement, then the past terms; the upper 16 bits, not rounded
unfoldable pub ma_prediction : List ℤ → List (List ℤ) → List (List ℤ) → List ℤ → List ℤ
ma_prediction l past weights complement = tab 10 (λ i. extract_h (add_past past weights i (l_mult (at l i) (at complement i))))

-- equation (92), clause 4.4.1: the row that gives omega with these past rows. The inverse of the complement is in Q12, so the product
-- is shifted left by 3.
unfoldable pub invert_ma_prediction : List ℤ → List (List ℤ) → List (List ℤ) → List ℤ → List ℤ
invert_ma_prediction omega past weights inverse =
    tab 10 (λ i. extract_h (l_shl (l_mult (extract_h (subtract_past past weights i (l_deposit_h (at omega i)))) (at inverse i)) (pos 3)))

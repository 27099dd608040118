-- Laws of the kinds: what holds of all four, and that a payload has at most ten bytes. Assumes nothing.
use Rattle.std.specs.Prelude.{◌≡◌, Bool, true, false, cond, ℕ, zero, suc, ◌≤◌, eqb}
use Rattle.std.proofs.Common.{arith, le-leb, leb-true}
use Rattle.kind.specs.Kind.{known, payload_length}

pub known_low : (k : ℕ) → known k ≡ true → k ≤ 3
known_low k e = leb-true k 3 e

pub low_known : (k : ℕ) → k ≤ 3 → known k ≡ true
low_known k h = le-leb k 3 h

-- the kinds by number
pub by_kind : (P : ℕ → Type 0) → P 0 → P 1 → P 2 → P 3 → (k : ℕ) → k ≤ 3 → P k
by_kind P a b c d zero h = a
by_kind P a b c d (suc zero) h = b
by_kind P a b c d (suc (suc zero)) h = c
by_kind P a b c d (suc (suc (suc zero))) h = d
by_kind P a b c d (suc (suc (suc (suc n)))) h = absurd (omega arith)

pub payload_few : (kind : ℕ) → payload_length kind ≤ 10
unfolding payload_length
payload_few kind = by (eqb kind 0) (eqb kind 1)
  where
    by : (p q : Bool) → cond p 10 (cond q 2 0) ≤ 10
    by true q = omega arith
    by false true = omega arith
    by false false = omega arith

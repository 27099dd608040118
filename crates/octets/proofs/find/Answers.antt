-- The answers of `octets::find`.
use Rattle.std.proofs.Common.{rules, tests, arith, ap, ℕ, ◌≡◌, ◌+◌, ◌-◌, ◌≤◌, eqb, length, not}
use Rattle.std.specs.List.{position_or_len}
use Rattle.std.proofs.lemmas.List.Sums.{prefix_len-le-length}
use Rattle.std.proofs.lemmas.Iterator.{YieldsList-from_slice}
use Rattle.std.proofs.lemmas.Iterator.Search.{position_from_yields_List}
use Rattle.octets.specs.Octets.{slice}
use Rattle.octets.proofs.Laws.{index_is, length_slice, found, missed}
use Rattle.octets.proofs.find.Goals as goal
use Rattle.octets.proofs.find.Goals.{In-Some, In-None}

pub returns-in-Some-clause-place : goal.returns-in-Some-clause-place
unfolding slice
returns-in-Some-clause-place c =
    let l = slice c.args.from c.args.to c.args.bytes.now in
    let e = position_from_yields_List (λ b. eqb b c.args.x) _ _ c.position.result c.position.ensures.ran (YieldsList-from_slice l cc) (λ x b q k. search (rules, tests)) in
    rw (index_is c.args.x l) (ap (λ (k : ℕ). c.args.from + k) (found _ _ _ _ e c.in-Some.is))

pub returns-in-None-clause-place : goal.returns-in-None-clause-place
unfolding slice
returns-in-None-clause-place c =
    let l = slice c.args.from c.args.to c.args.bytes.now in
    let e = position_from_yields_List (λ b. eqb b c.args.x) _ _ c.position.result c.position.ensures.ran (YieldsList-from_slice l cc) (λ x b q k. search (rules, tests)) in
    let h : length l ≤ position_or_len (λ b. eqb b c.args.x) l = missed _ _ _ e c.in-None.is in
    let k : length l ≡ c.args.to - c.args.from = length_slice c.args.from c.args.to c.args.bytes.now c.requires.ordered c.requires.inside in
    omega (arith, h, k, index_is c.args.x l, prefix_len-le-length (λ b. not (eqb b c.args.x)) l)

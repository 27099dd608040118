-- `pack::write_fields_parity` meets its contract: the lengths first; then the struct has the fourteen fields that are lent, and the parity bit of the fifth behind it.
use Rattle.std.proofs.Common.{sym, ap, ◌∙◌}
use Rattle.std.proofs.lemmas.Result.{err_from_is_err_and}
use Rattle.std.specs.Prelude.{◌≡◌, List, ◌∷◌, ◌++◌, ℕ, length, get_or}
use Rattle.refusal.specs.Laws.{nonzero}
use Rattle.pack.specs.Pack.{parity_bit, with_p0, packed, write_fields_parity}
use Rattle.pack.specs.Laws.{listed, cells, refused, right, taken, fourteen}
use Rattle.pack.proofs.write_fields_parity.Goals as goal

pub returns-in_err-lengths : goal.returns-in_err-lengths
unfolding write_fields_parity
returns-in_err-lengths c =
    let p = err_from_is_err_and c.from_residual.result c.from_residual.ensures.1 in
    let e = c.in_err-lengths.ensures in
    rw (p.1, p.2) (rw e (sym (refused (length c.args.fields.now) 14 _ c.args.bytes.now (rw (← e) (nonzero c.in_err-lengths.field-0.0)))))

pub packed-requires : goal.packed-requires
packed-requires c = (right (length c.args.fields.now) 14 c.args.bytes.now (sym c.in_ok-lengths.ensures)).ten

pub returns : goal.returns
unfolding write_fields_parity cells
returns c =
    let s = c.args in
    let l = s.fields.now in
    let r = right (length l) 14 s.bytes.now (sym c.in_ok-lengths.ensures) in
    let m : listed c.params.result ≡ cells 5 0 l ++ (c.parity_bit.result ∷ cells 9 5 l) = c.params.ensures in
    c.packed.ensures
    ∙ ap (λ (x : List ℕ). packed x s.bytes.now) {y = with_p0 (parity_bit (get_or l 4 0)) l}
    (m ∙ ap (λ (p0 : ℕ). cells 5 0 l ++ (p0 ∷ cells 9 5 l)) (c.parity_bit.ensures ∙ ap parity_bit c.field.ensures) ∙ fourteen (parity_bit (get_or l 4 0)) l r.many)
    ∙ sym (taken (length l) 14 (with_p0 (parity_bit (get_or l 4 0)) l) s.bytes.now r)

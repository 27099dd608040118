-- `pack::write_fields` meets its contract: the lengths first; then the struct has the fifteen fields that are lent.
use Rattle.std.proofs.Common.{sym, ap, ◌∙◌}
use Rattle.std.proofs.lemmas.Result.{err_from_is_err_and}
use Rattle.std.specs.Prelude.{◌≡◌, List, ◌∷◌, ◌++◌, ℕ, length}
use Rattle.refusal.specs.Laws.{nonzero}
use Rattle.pack.specs.Pack.{packed, write_fields}
use Rattle.pack.specs.Laws.{listed, cells, refused, right, taken, fifteen}
use Rattle.pack.proofs.write_fields.Goals as goal

pub returns-in_err-lengths : goal.returns-in_err-lengths
unfolding write_fields
returns-in_err-lengths c =
    let p = err_from_is_err_and c.from_residual.result c.from_residual.ensures.1 in
    let e = c.in_err-lengths.ensures in
    rw (p.1, p.2) (rw e (sym (refused (length c.args.fields.now) 15 _ c.args.bytes.now (rw (← e) (nonzero c.in_err-lengths.field-0.0)))))

pub packed-requires : goal.packed-requires
packed-requires c = (right (length c.args.fields.now) 15 c.args.bytes.now (sym c.in_ok-lengths.ensures)).ten

pub returns : goal.returns
unfolding write_fields cells
returns c =
    let s = c.args in
    let l = s.fields.now in
    let r = right (length l) 15 s.bytes.now (sym c.in_ok-lengths.ensures) in
    let m : listed c.params.result ≡ cells 5 0 l ++ (c.field.result ∷ cells 9 6 l) = c.params.ensures in
    c.packed.ensures
    ∙ ap (λ (x : List ℕ). packed x s.bytes.now) {y = l}
    (m ∙ ap (λ (p0 : ℕ). cells 5 0 l ++ (p0 ∷ cells 9 6 l)) c.field.ensures ∙ fifteen l r.many)
    ∙ sym (taken (length l) 15 l s.bytes.now r)

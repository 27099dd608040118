-- The answers of `line::line`: a line of a form has its length, and the first kind that fits is the definition's.
use Rattle.std.proofs.Common.{◌≡◌, refl, true, false, sym, ◌∙◌, arith, ne_eqb, below_more, length-drop}
use Rattle.kind.specs.Laws.{payload_few}
use Rattle.line.specs.Line.{is, payload, took, line}
use Rattle.line.specs.Laws.{opening_few, form_length, up_to_end, first_kind, no_kind}
use Rattle.line.proofs.line.Goals as goal

pub returns-then-payload-ne10 : goal.returns-then-payload-ne10
unfolding line
returns-then-payload-ne10 c = rw (ne_eqb _ _ c.if-payload-ne10.true)

pub loop-kind-init : goal.loop-kind-init
loop-kind-init c = record { none = λ k h. absurd (omega arith); same = refl }

pub form-requires : goal.form-requires
form-requires c =
    let k = c.loop-kind.kind in
    rw (c.opening-opening.ensures, c.payload_length-n.ensures) (opening_few k, payload_few k)

pub slice_bounds-read_payload-count : goal.slice_bounds-read_payload-count
slice_bounds-read_payload-count c = omega (arith, form_length _ _ _ (sym c.form.ensures ∙ c.if-form.true))

pub slice_bounds-read_payload-start : goal.slice_bounds-read_payload-start
slice_bounds-read_payload-start c = omega (arith, form_length _ _ _ (sym c.form.ensures ∙ c.if-form.true))

pub read_payload-requires : goal.read_payload-requires
read_payload-requires c =
    let e = form_length _ _ _ (sym c.form.ensures ∙ c.if-form.true) in
    (rw (up_to_end, length-drop) (omega (arith, e)), omega (arith, c.payload_length-n.ensures, payload_few c.loop-kind.kind, c.loop-kind.auto.payload))

pub returns-then-form : goal.returns-then-form
unfolding is took payload
returns-then-form c =
    let s = c.args in
    let k = c.loop-kind.kind in
    let o = c.opening-opening.ensures in
    let n = c.payload_length-n.ensures in
    let t : is k s.text.now ≡ true = rw (o, n) at (sym c.form.ensures ∙ c.if-form.true) in
    rw (first_kind s.text.now s.payload.now k (omega arith) c.if-payload-ne10.false c.loop-kind.invariant.none t, c.read_payload.ensures, up_to_end, o, n, c.loop-kind.invariant.same)

pub loop-kind-preserved : goal.loop-kind-preserved
unfolding is
loop-kind-preserved c =
    let i = c.loop-kind.invariant in
    let f : is c.loop-kind.kind c.args.text.now ≡ false = rw (c.opening-opening.ensures, c.payload_length-n.ensures) at (sym c.form.ensures ∙ c.if-form.false) in
    record { none = below_more _ _ i.none f; same = i.same }

pub returns : goal.returns
returns c =
    let i = c.loop-kind.invariant in
    rw (no_kind c.args.text.now c.args.payload.now c.if-payload-ne10.false (λ j h. i.none j (omega arith)), i.same)

-- `payload_line::step` meets its contract: each test picks its case of the definition.
use mathlib.Core.Path.{sym, ap, ◌∙◌}
use Rattle.payload_line.specs.PayloadLine.{Printed, given}
use Rattle.payload_line.specs.Laws.{done, line_overlong, line_payload, line_kept, line_none}
use Rattle.std.proofs.Common.{rules}
use Rattle.payload_line.proofs.step.Goals as goal

pub returns-then-text-gt-LONGEST : goal.returns-then-text-gt-LONGEST
returns-then-text-gt-LONGEST c =
    let s = c.args in
    c.refuse.ensures ∙ ap (λ (p : Printed). given p s.out.now) (line_overlong s.text.now s.number c.if-text-gt-LONGEST.true)

pub of_payload-requires : goal.of_payload-requires
of_payload-requires c =
    (sym c.is_hex.ensures ∙ c.if-is_hex.true, (search rules, search rules))

pub returns-then-is_hex : goal.returns-then-is_hex
returns-then-is_hex c =
    let s = c.args in
    c.of_payload.ensures
    ∙ ap (λ (p : Printed). given p s.out.now) (line_payload s.text.now s.number c.if-text-gt-LONGEST.false (sym c.is_hex.ensures ∙ c.if-is_hex.true))

pub returns-then-is_line : goal.returns-then-is_line
returns-then-is_line c =
    let s = c.args in
    done 0 c.put_ended-written.ensures
    ∙ ap (λ (p : Printed). given p s.out.now)
    (line_kept s.text.now s.number c.if-text-gt-LONGEST.false (sym c.is_hex.ensures ∙ c.if-is_hex.false) (sym c.is_line.ensures ∙ c.if-is_line.true))

pub returns : goal.returns
returns c =
    let s = c.args in
    c.refuse-2.ensures
    ∙ ap (λ (p : Printed). given p s.out.now)
    (line_none s.text.now s.number c.if-text-gt-LONGEST.false (sym c.is_hex.ensures ∙ c.if-is_hex.false) (sym c.is_line.ensures ∙ c.if-is_line.false))

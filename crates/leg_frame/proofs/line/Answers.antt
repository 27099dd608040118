-- `leg_frame::line` meets its contract: each test picks its case of the definition.
use Rattle.std.proofs.Common.{refl, sym, ◌∙◌, arith, eq-eqb, ne_eqb}
use Rattle.leg_frame.specs.Laws.{line_total, line_refused, read_line}
use Rattle.leg_frame.proofs.line.Goals as goal

pub returns-then-is_total : goal.returns-then-is_total
returns-then-is_total c =
    let s = c.args in
    (line_total s.before s.text.now c.is_total.ensures (sym c.starts.ensures ∙ c.if-starts.true) (rw c.if-is_total.true) refl, omega arith)

pub returns-then-starts : goal.returns-then-starts
returns-then-starts c =
    let s = c.args in
    (line_total s.before s.text.now c.is_total.ensures (sym c.starts.ensures ∙ c.if-starts.true) (rw c.if-is_total.false) refl, omega arith)

pub returns-then-starts-2 : goal.returns-then-starts-2
returns-then-starts-2 c =
    let s = c.args in
    (line_refused s.before s.text.now (sym c.starts.ensures ∙ c.if-starts.false) (sym c.starts-2.ensures ∙ c.if-starts-2.true) refl refl, omega arith)

pub returns-then-n-eq0 : goal.returns-then-n-eq0
returns-then-n-eq0 c =
    let s = c.args in
    read_line s.before s.text.now (sym c.starts.ensures ∙ c.if-starts.false) (sym c.starts-2.ensures ∙ c.if-starts-2.false) c.read-n.ensures
    (rw (eq-eqb c.read-n.result 0 c.if-n-eq0.true)) (sym c.if-n-eq0.true)

pub returns : goal.returns
returns c =
    let s = c.args in
    read_line s.before s.text.now (sym c.starts.ensures ∙ c.if-starts.false) (sym c.starts-2.ensures ∙ c.if-starts-2.false) c.read-n.ensures
    (rw (ne_eqb c.read-n.result 0 c.if-n-eq0.false)) refl

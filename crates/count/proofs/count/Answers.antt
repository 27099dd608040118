-- `count::count` meets its contract: each way out rewrites with the tests that led there, and counts that are not full have room for a frame and both its rules.
use mathlib.Core.Path.{sym, ◌∙◌}
use native.Mathlib.Omega.{arith}
use Rattle.count.specs.Count.{with_frame, with_both, count}
use Rattle.count.specs.Laws.{room, more_few, frame_few, rule_few}
use Rattle.count.proofs.count.Goals as goal

pub returns-then-not-known : goal.returns-then-not-known
unfolding count
returns-then-not-known c = rw (sym c.known.ensures ∙ c.if-not-known.true)

pub returns-then-full : goal.returns-then-full
unfolding count
returns-then-full c =
    rw (sym c.known.ensures ∙ c.if-not-known.false, sym c.full.ensures ∙ c.if-full.true)

pub with_frame-frame-requires : goal.with_frame-frame-requires
with_frame-frame-requires c = sym c.full.ensures ∙ c.if-full.false

pub with_rule-requires : goal.with_rule-requires
with_rule-requires c =
    let s = c.args in
    let h = frame_few s.c s.kind 719999 (room _ (sym c.full.ensures ∙ c.if-full.false)).rules in
    rw c.with_frame-frame.ensures (more_few (with_frame s.kind s.c) 719999 720000 (omega arith) h)

pub with_rule-requires-2 : goal.with_rule-requires-2
with_rule-requires-2 c =
    let s = c.args in
    let h = frame_few s.c s.kind 719999 (room _ (sym c.full.ensures ∙ c.if-full.false)).rules in
    rw (c.with_rule.ensures, c.with_frame-frame.ensures) (rule_few _ s.r.first 719999 h)

pub returns : goal.returns
unfolding count with_both
returns c =
    rw (
      sym c.known.ensures ∙ c.if-not-known.false,
      sym c.full.ensures ∙ c.if-full.false,
      c.with_rule-2.ensures,
      c.with_rule.ensures,
      c.with_frame-frame.ensures,
    )

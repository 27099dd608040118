-- `wav::check_format` meets its contract: each test picks its case of the definition.
use mathlib.Core.Path.{sym, ◌∙◌}
use borrow.Author.Tests.{lt-ltb, le-ltb, eq-eqb, ne_eqb}
use Rattle.wav.specs.Wav.{fault}
use Rattle.wav.proofs.check_format.Goals as goal

pub returns-in_default : goal.returns-in_default
unfolding fault
returns-in_default c = sym (rw c.in_default.is)

pub returns-then-bytes-at-lt16 : goal.returns-then-bytes-at-lt16
unfolding fault
returns-then-bytes-at-lt16 c = sym (rw (c.in-Some.is, lt-ltb _ _ c.if-bytes-at-lt16.true))

pub returns-then-field-tag : goal.returns-then-field-tag
unfolding fault
returns-then-field-tag c = sym (rw (
  c.in-Some.is,
  le-ltb _ _ c.if-bytes-at-lt16.false,
  ne_eqb _ _ (rw c.field.ensures at c.if-field-tag.true),
))

pub returns-then-field-ne1 : goal.returns-then-field-ne1
unfolding fault
returns-then-field-ne1 c = sym (rw (
  c.in-Some.is,
  le-ltb _ _ c.if-bytes-at-lt16.false,
  eq-eqb _ _ (sym c.field.ensures ∙ c.if-field-tag.false),
  ne_eqb _ _ (rw c.field-2.ensures at c.if-field-ne1.true),
))

pub returns-then-field-ne8000 : goal.returns-then-field-ne8000
unfolding fault
returns-then-field-ne8000 c = sym (rw (
  c.in-Some.is,
  le-ltb _ _ c.if-bytes-at-lt16.false,
  eq-eqb _ _ (sym c.field.ensures ∙ c.if-field-tag.false),
  eq-eqb _ _ (sym c.field-2.ensures ∙ c.if-field-ne1.false),
  ne_eqb _ _ (rw c.field-3.ensures at c.if-field-ne8000.true),
))

pub returns-then-field-bits : goal.returns-then-field-bits
unfolding fault
returns-then-field-bits c = sym (rw (
  c.in-Some.is,
  le-ltb _ _ c.if-bytes-at-lt16.false,
  eq-eqb _ _ (sym c.field.ensures ∙ c.if-field-tag.false),
  eq-eqb _ _ (sym c.field-2.ensures ∙ c.if-field-ne1.false),
  eq-eqb _ _ (sym c.field-3.ensures ∙ c.if-field-ne8000.false),
  ne_eqb _ _ (rw c.field-4.ensures at c.if-field-bits.true),
))

pub returns : goal.returns
unfolding fault
returns c = sym (rw (
  c.in-Some.is,
  le-ltb _ _ c.if-bytes-at-lt16.false,
  eq-eqb _ _ (sym c.field.ensures ∙ c.if-field-tag.false),
  eq-eqb _ _ (sym c.field-2.ensures ∙ c.if-field-ne1.false),
  eq-eqb _ _ (sym c.field-3.ensures ∙ c.if-field-ne8000.false),
  eq-eqb _ _ (sym c.field-4.ensures ∙ c.if-field-bits.false),
))

-- `mix::check` meets its contract: each test picks its case.
use Rattle.std.proofs.Common.{eq-eqb, ne_eqb}
use Rattle.mix.specs.Mix.{whole, refusal}
use Rattle.mix.proofs.check.Goals as goal

pub returns-then-not-whole : goal.returns-then-not-whole
unfolding refusal whole
returns-then-not-whole c = rw c.if-not-whole.true

pub returns-then-heard-legs : goal.returns-then-heard-legs
unfolding refusal whole
returns-then-heard-legs c = rw (c.if-not-whole.false, ne_eqb _ _ c.if-heard-legs.true)

pub returns : goal.returns
unfolding refusal whole
returns c = rw (c.if-not-whole.false, eq-eqb _ _ c.if-heard-legs.false)

-- `pcm_line::read` meets its contract: each test picks its case of the definition.
use mathlib.Core.Path.{refl}
use native.Mathlib.Omega.{arith}
use Rattle.pcm_line.specs.Laws.{read_short, read_over}
use Rattle.pcm_line.proofs.Laws.{read_other, read_done}
use Rattle.pcm_line.proofs.read.Goals as goal

pub returns-then-text-lt10 : goal.returns-then-text-lt10
returns-then-text-lt10 c =
    let s = c.args in
    read_short s.text.now s.samples.now (omega arith)

pub returns-then-n-gt80 : goal.returns-then-n-gt80
returns-then-n-gt80 c =
    let s = c.args in
    read_over s.text.now s.samples.now refl c.if-n-gt80.true

pub returns-then-not-is_printed : goal.returns-then-not-is_printed
returns-then-not-is_printed c =
    let s = c.args in
    read_other s.text.now s.samples.now refl (omega arith) _ c.digits.ensures c.is_printed.ensures (c.if-not-is_printed.true)

pub returns : goal.returns
returns c =
    let s = c.args in
    read_done s.text.now s.samples.now refl (omega arith) _ c.digits.ensures c.is_printed.ensures (c.if-not-is_printed.false) c.digits-2.ensures

-- `line::is_hex` meets its contract: an odd number of bytes is no text of bytes, and of an even number all are digits.
use Rattle.std.proofs.Common.{sym, ◌∙◌, ne_eqb}
use Rattle.line.specs.Laws.{each_digit, hex_odd, hex_even}
use Rattle.line.proofs.is_hex.Goals as goal

pub returns-then-text-eq0 : goal.returns-then-text-eq0
returns-then-text-eq0 c = c.digits.ensures ∙ each_digit _ ∙ hex_even _ c.if-text-eq0.true

pub returns-else-text-eq0 : goal.returns-else-text-eq0
returns-else-text-eq0 c = ne_eqb _ _ c.if-text-eq0.false ∙ sym (hex_odd _ c.if-text-eq0.false)

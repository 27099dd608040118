-- `line::put` meets its contract: the copy is the part, at its place.
use Rattle.text.specs.Laws.{copied}
use Rattle.std.proofs.Common.{rules}
use Rattle.line.proofs.put.Goals as goal

pub returns : goal.returns
returns c =
    let s = c.args in
    copied s.part.now s.out.now _ s.from c.copy.result (search rules) c.copy.ensures.count c.copy.ensures.written

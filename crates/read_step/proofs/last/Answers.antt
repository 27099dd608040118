-- `read_step::last` meets its contract: as many bytes are held as there are at most.
use Rattle.read_step.specs.Laws.{front}
use Rattle.read_step.proofs.last.Goals as goal

pub returns : goal.returns
returns c =
    let s = c.args in
    rw (← front s.held s.input.now c.min-to.ensures) c.finish.ensures

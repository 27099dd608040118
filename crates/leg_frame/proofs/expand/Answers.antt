-- `leg_frame::expand` meets its contract.
use Rattle.g711.specs.Law.{number, number_known}
use Rattle.leg_frame.specs.Laws.{expanded}
use Rattle.leg_frame.proofs.expand.Goals as goal

pub returns : goal.returns
returns c =
    (c.min-n.ensures, expanded (number c.args.law) c.args.bytes.now c.args.frame.now (number_known c.args.law) c.requires c.min-n.ensures (rw c.from.ensures at c.read.ensures))

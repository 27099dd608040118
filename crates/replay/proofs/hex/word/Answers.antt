-- `replay::hex::word` meets its contract.
use mir.Syntax.{w16, w32}
use Rattle.laws.specs.Back.{via}
use Rattle.replay.specs.Replay.{word}
use Rattle.replay.proofs.hex.word.Goals as goal

pub returns : goal.returns
unfolding word
returns c = cc (via w16 c.extract_l.result c.extract_l.type_inv, via w32 c.signed.result c.signed.type_inv)

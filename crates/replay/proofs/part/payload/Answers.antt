-- `replay::part::payload` meets its contract.
use Rattle.replay.proofs.part.payload.Goals as goal

pub returns : goal.returns
returns c =
    rw (
      c.byte.ensures,
      c.byte-2.ensures,
      c.byte-3.ensures,
      c.byte-4.ensures,
      c.byte-5.ensures,
      c.byte-6.ensures,
      c.byte-7.ensures,
      c.byte-8.ensures,
      c.byte-9.ensures,
      c.byte-10.ensures,
    )

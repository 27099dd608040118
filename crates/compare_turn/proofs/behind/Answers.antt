-- `compare_turn::behind` meets its contract: what is taken and printed behind a place stays inside.
use native.Mathlib.Omega.{arith}
use Rattle.compare_turn.specs.Laws.{room}
use Rattle.compare_turn.proofs.behind.Goals as goal

pub both-requires : goal.both-requires
both-requires c =
    let w = c.requires.0 in
    let e = c.take-one.ensures in (
      omega (arith, room c.args.call.now _ _ w.line e.0, c.well_formed),
      (
        omega (arith, room c.args.far.now _ _ w.frame e.1.0, c.well_formed),
        (omega (arith, w.written, c.requires.1.0, e.1.1.0, c.well_formed), omega (arith, w.printed, c.requires.1.1, e.1.1.1, c.well_formed)),
      ),
    )

pub returns : goal.returns
returns c =
    let w = c.requires.0 in
    let e = c.take-one.ensures in
    let b = c.both.ensures in (
      omega (arith, b.0),
      record {
        line = omega (arith, b.0, room c.args.call.now _ _ w.line e.0);
        frame = omega (arith, b.1.0, room c.args.far.now _ _ w.frame e.1.0);
        written = omega (arith, b.1.1.0, c.requires.1.0, e.1.1.0);
        printed = omega (arith, b.1.1.1, c.requires.1.1, e.1.1.1);
      },
    )

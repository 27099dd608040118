-- The answers of `crc32::more`.
use native.Mathlib.Omega.{arith}
use Rattle.crc32.specs.Laws.{run_none, run_more, run_end}
use Rattle.crc32.proofs.more.Goals as goal

pub loop-b-init : goal.loop-b-init
loop-b-init c = run_none _ c.args.bytes.now

pub loop-b-preserved : goal.loop-b-preserved
loop-b-preserved c = run_more _ c.args.bytes.now c.loop-b.b-index _ _ (omega arith) c.loop-b.invariant c.byte-c.ensures

pub returns : goal.returns
returns c = run_end _ c.args.bytes.now c.loop-b.b-index _ (omega arith) c.loop-b.invariant

-- `replay_playout::lent` is safe: each element comes from a place that is held.
use Prim.Native.Nat.{◌<◌}
use Rattle.replay_playout.proofs.lent.Given as goal

abbrev pub invariant-loop-x : goal.invariant-loop-x
invariant-loop-x l = (l.at < 4096) × (l.step < 65536)

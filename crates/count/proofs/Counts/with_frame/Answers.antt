-- `Counts::with_frame` meets its contract: the test picks its case of the definition, and counts that are not full have room for a frame.
use native.Mathlib.Omega.{arith}
use borrow.Author.Tests.{eq-eqb, ne_eqb}
use Rattle.count.specs.Count.{with_frame}
use Rattle.count.specs.Laws.{room}
use Rattle.count.proofs.Counts.with_frame.Goals as goal
use Rattle.count.proofs.Counts.with_frame.Goals.{then-voice, else-voice}

pub overflow_add-lost : goal.overflow_add-lost
overflow_add-lost c = record { fits = omega (arith, (room c.args.self c.requires).lost) }

pub overflow_add-result : goal.overflow_add-result
overflow_add-result c = record { fits = omega (arith, (room c.args.self c.requires).frames) }

pub returns : goal.returns
unfolding with_frame
returns c =
    elim c.if-voice.branch [
      | then-voice w ↦ rw (eq-eqb c.args.kind 0 (omega arith), w.lost-is)
      | else-voice w ↦ rw (ne_eqb c.args.kind 0 (λ e. omega arith), w.lost-is)
    ]

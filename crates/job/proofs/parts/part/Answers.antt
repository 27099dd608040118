-- `job::parts::part` meets its contract: `call::lines`, and the place behind the lines taken.
use Rattle.std.proofs.Common.{ap, refl, arith, rules}
use Rattle.line_step.specs.declared.Progress.{Progress}
use Rattle.job.specs.Part.{progress}
use Rattle.job.specs.PartLaws.{part_is}
use Rattle.std.proofs.Common.{rules}
use Rattle.job.proofs.parts.part.Goals as goal

pub overflow_sub-result : goal.overflow_sub-result
unfolding progress
overflow_sub-result c = omega (arith, ap (λ (q : Progress). q.lines) c.progress_of.ensures, c.lines-taken.ensures.lines_le_lines.0)

pub overflow_sub-result-2 : goal.overflow_sub-result-2
unfolding progress
overflow_sub-result-2 c = omega (arith, ap (λ (q : Progress). q.lines) c.progress_of.ensures, c.lines-taken.ensures.lines_le_lines.1)

pub returns : goal.returns
returns c =
    let s = c.args in
    let l = c.lines-taken in
    record { out_after = part_is s.t.now s.b.now _ s.p _ _ s.most _ _ _ _ _ s.input.now s.out.now _ c.progress_of.ensures l.ensures.out_after c.more.ensures refl refl; written_in_bounds = search rules }

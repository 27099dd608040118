-- The answers of `synth_filter::plain_samples`.
use Prim.Native.Nat.{◌+◌, ◌-◌}
use mathlib.Core.Path.{◌≡◌}
use native.Mathlib.Omega.{arith}
use mir.Syntax.{w16}
use Rattle.laws.specs.Lists.{at}
use Rattle.laws.specs.Back.{via}
use Rattle.synth_filter.specs.Laws.{samples_turn, saturates_turn}
use Rattle.std.proofs.Common.{rules}
use Rattle.synth_filter.proofs.plain_samples.Goals as goal

pub loop-n-preserved : goal.loop-n-preserved
loop-n-preserved c =
    let x = via w16 (at c.args.exc.now (c.exc_start-from.result + c.loop-n.n)) c.synth_sample-arg-1.given in
    let d = c.exc_start-from.ensures.value in
    let e = c.speech_start-start.ensures.value in (
      search rules,
      λ y h. (
        samples_turn _ _ _ _ c.loop-n.n d e x (c.loop-n.invariant.1 y h).0 (via w16 _ c.struct_told-1.given.0.1) c.synth_sample-s.ensures.word_value,
        saturates_turn _ _ _ _ c.loop-n.n d e x (c.loop-n.invariant.1 y h).0 (c.loop-n.invariant.1 y h).1 c.synth_sample-s.ensures.overflow_value,
      ),
    )

pub returns : goal.returns
returns c y h =
    let e : c.loop-n.n ≡ 40 = omega arith in
    rw e at (c.loop-n.invariant.1 y h)

pub loop-n-init : goal.loop-n-init
loop-n-init c = (search rules, λ y h. h)

pub overflow_add-from : goal.overflow_add-from
overflow_add-from c = omega arith

pub offset_bounds-exc-from : goal.offset_bounds-exc-from
offset_bounds-exc-from c = omega arith

pub bounds-exc-from : goal.bounds-exc-from
bounds-exc-from c = omega arith

pub overflow_add-start : goal.overflow_add-start
overflow_add-start c = omega arith

pub offset_bounds-speech-start : goal.offset_bounds-speech-start
offset_bounds-speech-start c = omega arith

pub bounds-speech-start : goal.bounds-speech-start
bounds-speech-start c = omega arith

pub overflow_step-n : goal.overflow_step-n
overflow_step-n c = omega arith

pub loop-n-smaller : goal.loop-n-smaller
loop-n-smaller c = omega arith

-- `basic_op::log_fraction` meets its contract: the two words read are the table's entries. Assumes nothing.
use Prim.Native.Nat.{◌+◌, ◌-◌, ◌/◌, ◌%◌}
use mathlib.Core.Path.{◌∙◌, ap}
use native.Mathlib.Omega.{arith}
use mir.Syntax.{w16, w32}
use mir.ValLaws.{to_z_pos}
use Rattle.laws.specs.Back.{via}
use Rattle.basic_op.specs.Ops.{extract_h}
use Rattle.basic_op.specs.Oper32b.{log_fraction}
use Rattle.basic_op.specs.Log.{log2_word}
use Rattle.basic_op.proofs.log_fraction.Goals as goal

pub returns : goal.returns
unfolding log_fraction
returns c =
    let i = c.interpolate_q15 in
    let m = c.args.m in
    via w16 c.extract_h.result c.extract_h.type_inv ∙ c.extract_h.ensures
    ∙ ap extract_h
    (via w32 i.result i.type_inv ∙ i.ensures
    ∙ rw (
      via w16 c.word-next.result c.word-next.type_inv ∙ c.word-next.ensures ∙ log2_word c.args.t.now (m / 33554432 - 31) (1792 + m / 33554432) (omega arith) (omega arith),
      via w16 c.word-entry.result c.word-entry.type_inv ∙ c.word-entry.ensures ∙ log2_word c.args.t.now (m / 33554432 - 32) (1791 + m / 33554432) (omega arith) (omega arith),
      to_z_pos w16 (m / 1024 % 32768) (omega arith),
    ))

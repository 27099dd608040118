-- `state::write_lsp_params` meets its contract: after each call the words up to its end stand.
use Prim.Native.Nat.{◌<◌}
use mathlib.Core.Path.{◌≡◌}
use mathlib.Core.List.{append_assoc}
use native.Mathlib.Omega.{arith}
use lib.ListN.{length}
use lib.Signed.{mag}
use mir.Syntax.{w16}
use Rattle.block.specs.Laws.{front_none, front_more, front_one}
use Rattle.state.specs.declared.Params.{Params}
use Rattle.state.specs.State.{lsp_params}
use Rattle.std.proofs.Common.{rules}
use Rattle.state.proofs.write_lsp_params.Goals as goal
use Rattle.state.proofs.write_lsp_params.Goals.{Start}

record Known (p : Params) : Type 0 where
  pub r0 : length p.r0 ≡ 10
  pub r1 : length p.r1 ≡ 10
  pub r2 : length p.r2 ≡ 10
  pub r3 : length p.r3 ≡ 10
  pub predictor : mag p.predictor < 32768
  pub omega : length p.omega ≡ 10
  pub lsp : length p.lsp ≡ 10

known : (c : Start) → Known c.args.p
known c = search rules

pub returns : goal.returns
unfolding lsp_params
returns c h =
    let s = known (goal.at.returns c).Start in
    let f0 = front_more _ 10 (front_none _ h) c.put.ensures s.r0 (omega arith) in
    let f1 = front_more _ 10 f0 c.put-2.ensures s.r1 (omega arith) in
    let f2 = front_more _ 10 f1 c.put-3.ensures s.r2 (omega arith) in
    let f3 = front_more _ 10 f2 c.put-4.ensures s.r3 (omega arith) in
    let fw = front_one w16 c.args.p.predictor f3 c.put_word.ensures s.predictor (omega arith) in
    let f4 = front_more _ 10 fw c.put-5.ensures s.omega (omega arith) in
    let f5 = front_more _ 10 f4 c.put-6.ensures s.lsp (omega arith) in
    simp append_assoc at f5

-- `state::write_excitation_params` meets its contract: after each call the words up to its end stand.
use Prim.Native.Nat.{◌<◌}
use mathlib.Core.Path.{◌≡◌, sym}
use mathlib.Core.List.{append_assoc}
use native.Mathlib.Omega.{arith}
use lib.ListN.{length}
use lib.Signed.{mag}
use mir.Syntax.{w16}
use Rattle.block.specs.Laws.{front_more, front_one}
use Rattle.state.specs.declared.Params.{Params}
use Rattle.state.specs.State.{excitation_params}
use Rattle.std.proofs.Common.{rules}
use Rattle.state.proofs.write_excitation_params.Goals as goal
use Rattle.state.proofs.write_excitation_params.Goals.{Start}

record Known (p : Params) : Type 0 where
  pub old : mag p.pitch.old < 32768
  pub seed : mag p.seed < 32768
  pub mem : length p.gain.mem ≡ 4
  pub gp : mag p.gain.gp < 32768
  pub gc : mag p.gain.gc < 32768
  pub beta : mag p.beta < 32768

known : (c : Start) → Known c.args.p
known c = search rules

pub slice_bounds-put-end-2 : goal.slice_bounds-put-end-2
slice_bounds-put-end-2 c = sym (known (goal.at.slice_bounds-put-end-2 c).Start).mem

pub returns : goal.returns
unfolding excitation_params
returns c l f =
    let s = known (goal.at.returns c).Start in
    let p = c.args.p in
    let f0 = front_one w16 p.pitch.old f c.put_word.ensures s.old (omega arith) in
    let f1 = front_one w16 p.seed f0 c.put_word-2.ensures s.seed (omega arith) in
    let f2 = front_more _ 4 f1 c.put.ensures s.mem (omega arith) in
    let f3 = front_one w16 p.gain.gp f2 c.put_word-3.ensures s.gp (omega arith) in
    let f4 = front_one w16 p.gain.gc f3 c.put_word-4.ensures s.gc (omega arith) in
    let f5 = front_one w16 p.beta f4 c.put_word-5.ensures s.beta (omega arith) in
    simp append_assoc at f5

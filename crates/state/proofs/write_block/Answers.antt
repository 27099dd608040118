-- `state::write_block` meets its contract: the three parts stand one after the other.
use mathlib.Core.Path.{◌≡◌, refl, sym}
use lib.ListN.{length}
use Rattle.block.specs.Laws.{Front}
use Rattle.block.specs.Places.{frame_length, exc_length, speech_length, past_length, tail_length, past_place, state_length}
use Rattle.state.specs.State.{write_params}
use Rattle.state.proofs.Parts.{from_on, with_signal}
use Rattle.std.proofs.Common.{rules}
use Rattle.state.proofs.write_block.Goals as goal
use Rattle.state.proofs.write_block.Goals.{After-write_excitation_params}

-- the parameters stand
params : (c : After-write_excitation_params) → Front state_length c.write_excitation_params.new.out past_place (write_params c.args.p)
unfolding write_params
params c = c.write_excitation_params.ensures _ (c.write_lsp_params.ensures refl)

pub slice_bounds-put-end : goal.slice_bounds-put-end
slice_bounds-put-end c = sym (params (goal.at.slice_bounds-put-end c).After-write_excitation_params).whole

pub returns : goal.returns
returns c =
    let a = c.args in
    let he : length a.exc.now ≡ exc_length = search rules in
    let hs : length a.speech.now ≡ speech_length = search rules in
    with_signal _ a.exc.now a.speech.now _ _ _ c.put.new.b _ he hs (from_on frame_length past_length a.exc.now he) (from_on frame_length tail_length a.speech.now hs)
    (params (goal.at.returns c).After-write_excitation_params) c.put.ensures c.put-2.ensures

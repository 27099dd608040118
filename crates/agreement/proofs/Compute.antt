-- All definitions of a voice frame's parameters and of the run, to compute with: `unfolding Run` opens them.
use Rattle.laws.specs.Lists.{tab}
use Rattle.laws.specs.Loops as loops
use Rattle.basic_op.specs.Ops as op
use Rattle.basic_op.specs.Oper32b as op32
use Rattle.tables.specs.Layout as tables
use Rattle.tables.specs.Formula as formula
use Rattle.bitstream.specs.Fields as bitstream
use Rattle.sort.specs.Sort as sort
use Rattle.lsp_ma.specs.Ma as lsp_ma
use Rattle.lsp.specs.Lsp as lsp
use Rattle.lpc.specs.Lpc as lpc
use Rattle.pitch.specs.Pitch as pitch
use Rattle.fixed.specs.Fixed as fixed
use Rattle.gain.specs.Gain as gain
use Rattle.kind.specs.Kind as kind
use Rattle.plc.specs.Kinds as plc
use Rattle.state.specs.State as state
use Rattle.parameters.specs.Parameters.{sharpened}
use Rattle.parameters.specs.Parts.{Parts}
use Rattle.decoder.specs.Frame as decoder
use Rattle.decoder.specs.Call as call
use Rattle.agreement.specs.Run as runs

unfoldable pub Operators : Type 0
unfolding tab loops.steps loops.run op.sat op.add op.sub op.mult op.l_mult op.l_add op.l_sub op.l_mac op.l_msu op.extract_h op.low16 op.extract_l op.l_deposit_h op.round op.by_sign op.shl op.l_shl op.l_shr op.rounded op.l_shr_r op.normal op.doublings op.norm_l op.lesser op.greater op32.split_high_low op32.join_high_low op32.multiply_split_by_16 op32.multiply_32_by_16 op32.interpolate_q15 op32.log_fraction op32.base2_log op32.base2_power
Operators = Unit {0}

unfoldable pub Stages : Type 0
unfolding Operators state.part tables.log2 tables.scalar tables.table_check formula.lsp_cosine formula.lsp_cosine_slope formula.pow2 formula.gain_prediction_coefficients bitstream.number bitstream.bits bitstream.widths bitstream.sum bitstream.cut bitstream.fields bitstream.unpack lsp.codebook_sum lsp.spread_pair lsp.enforce_spacing lsp.new_row lsp_ma.add_past lsp_ma.ma_prediction sort.insert sort.sort lsp.keep_distance lsp.order_and_bound lsp.decode_lsf lsp.cosine lsp.lsf_to_lsp lsp.interpolate lpc.step lpc.top lpc.older lpc.next_stage lpc.polynomial lpc.f1_prime lpc.f2_prime lpc.half_q12 lpc.coefficient lpc.lsp_to_lp pitch.nat pitch.parity_ok pitch.decode_t1 pitch.decode_t2 pitch.first pitch.second fixed.position fixed.pulse fixed.codevector fixed.sharpen gain.sharpening gain.energy gain.mean_and_energy gain.prediction gain.log2_gain gain.predict gain.row_ga gain.row_gb gain.pitch_gain gain.gamma gain.fixed_gain gain.gain_error gain.push gain.decode
Stages = Unit {0}

unfoldable pub Run : Type 0
unfolding Stages kind.payload_length plc.decide state.read_params state.read_signal state.read state.delay_in_range state.predictor_in_range state.accepted state.state_check state.accepted_state sharpened Parts decoder.decode call.first_of call.input_check runs.code runs.taken runs.frame_of runs.values_of runs.run
Run = Unit {0}

-- `payload_line::put_frame` meets its contract: the frame's digits lie in the line at twice its place in the payload, and its kind has its opening.
use Rattle.std.proofs.Common.{arith}
use Rattle.payload_line.specs.Laws.{digits_within, voice_fits, sid_fits, put_voice, put_sid}
use Rattle.line.specs.Line.{opening}
use Rattle.payload_line.proofs.put_frame.Goals as goal

pub overflow_mul-start : goal.overflow_mul-start
overflow_mul-start c = omega (arith, digits_within c.args.text.now c.args.index c.find_of-found.ensures)

pub overflow_mul-end : goal.overflow_mul-end
overflow_mul-end c = omega (arith, digits_within c.args.text.now c.args.index c.find_of-found.ensures)

pub overflow_add-end : goal.overflow_add-end
overflow_add-end c = omega (arith, digits_within c.args.text.now c.args.index c.find_of-found.ensures)

pub slice_bounds-put_line-end-then-found-eq0 : goal.slice_bounds-put_line-end-then-found-eq0
slice_bounds-put_line-end-then-found-eq0 c = omega (arith, digits_within c.args.text.now c.args.index c.find_of-found.ensures)

pub put_line-requires : goal.put_line-requires
put_line-requires c = omega (arith, voice_fits c.args.text.now c.args.index c.requires.0 c.find_of-found.ensures c.if-found-eq0.true)

pub returns-then-found-eq0 : goal.returns-then-found-eq0
unfolding opening
returns-then-found-eq0 c = put_voice c.args.text.now c.args.index c.requires.0 c.find_of-found.ensures c.if-found-eq0.true c.put_line.ensures

pub slice_bounds-put_line-end-3 : goal.slice_bounds-put_line-end-3
slice_bounds-put_line-end-3 c = omega (arith, digits_within c.args.text.now c.args.index c.find_of-found.ensures)

pub put_line-requires-2 : goal.put_line-requires-2
put_line-requires-2 c = omega (arith, sid_fits c.args.text.now c.args.index c.requires.0 c.find_of-found.ensures c.if-found-eq0.false)

pub returns : goal.returns
unfolding opening
returns c = put_sid c.args.text.now c.args.index c.requires.0 c.find_of-found.ensures c.if-found-eq0.false c.put_line-2.ensures

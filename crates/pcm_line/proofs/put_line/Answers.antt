-- `pcm_line::put_line` meets its contract: three parts, each behind what stands in front of it.
use Rattle.text.specs.Laws.{begun}
use Rattle.pcm_line.specs.Laws.{put_parts}
use Rattle.pcm_line.proofs.put_line.Goals as goal

pub returns : goal.returns
returns c = rw c.written.ensures (put_parts c.args.samples.now (begun c.new-w.ensures.front c.put.ensures.part) c.words.ensures.part c.put-2.ensures.part)

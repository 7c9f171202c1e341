use Rattle.stack_lines.specs.Stacks.{header_text}
use Rattle.ds_base.proofs.Places.{one_more_piece}
use Rattle.stack_lines.proofs.line.push_headers.Goals as goal

pub loop-i-preserved : goal.loop-i-preserved
loop-i-preserved c = one_more_piece header_text c.args.stack.now c.loop-i.i _ c.loop-i.text.items _ _ c.place.ensures c.in_ok-push_header.ensures c.loop-i.invariant

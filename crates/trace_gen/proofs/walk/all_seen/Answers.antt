use Rattle.std.proofs.Common.{◌∙◌, arith}
use Rattle.trace_gen.proofs.Walking.{none_seen, first_state, one_packet, next_state, all_packets}
use Rattle.trace_gen.proofs.walk.all_seen.Goals as goal

pub loop-id-init : goal.loop-id-init
loop-id-init c = record {
  seen_so_far = c.new-seen.ensures ∙ none_seen c.args.number;
  drawn = first_state c.args.number c.new-draws.result.state c.new-draws.ensures;
}

pub loop-id-preserved : goal.loop-id-preserved
loop-id-preserved c = record {
  seen_so_far = one_packet c.args.number c.loop-id.id c.loop-id.draws.state c.loop-id.seen.items c.push_walk.new.seen.items
      c.loop-id.invariant.drawn c.loop-id.invariant.seen_so_far c.in_ok-push_walk.ensures.seen;
  drawn = next_state c.args.number c.loop-id.id c.loop-id.draws.state c.push_walk.new.draws.state
      c.loop-id.invariant.drawn c.in_ok-push_walk.ensures.state;
}

pub returns : goal.returns
returns c = all_packets c.args.number c.loop-id.id c.loop-id.seen.items c.loop-id.invariant.seen_so_far
    (omega (arith, c.loop-id-test.false, c.loop-id.auto.id-end))

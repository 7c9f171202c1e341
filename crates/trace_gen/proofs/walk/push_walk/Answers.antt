use Rattle.std.proofs.Common.{◌≡◌, refl, sym, append-nil, arith}
use Rattle.std.proofs.lemmas.Nat.{mod_below}
use Rattle.trace_gen.proofs.Walking.{after_two, first_point, first_time, how_often, after_both, next_point, next_time, one_seen, all_walked, walked_behind}
use Rattle.trace_gen.proofs.walk.push_walk.Goals as goal

pub loop-k-init : goal.loop-k-init
loop-k-init c = record {
  walked = sym (append-nil c.args.seen.now.items);
  drawn = after_two c.args.draws.now.state c.draw-capture.new.self.state c.draw.new.self.state c.draw-capture.ensures.state c.draw.ensures.state;
  here = first_point c.args.draws.now.state c.draw-capture.new.self.state c.draw-capture.result c.draw-capture.ensures.state c.draw-capture.ensures.number;
  near = c.draw-capture.ensures.below;
  moment = first_time c.args.id c.args.draws.now.state _ (omega (arith, c.from.ensures));
  soon = omega (arith, c.from.ensures);
}

pub loop-k-preserved : goal.loop-k-preserved
loop-k-preserved c =
    let h = c.loop-k.invariant in
    let start = c.args.draws.now.state in
    let before = c.loop-k.draws.state in
    let first = c.draw-in-loop-k.new.self.state in
    let second = c.draw-in-loop-k-2.new.self.state in
    let number : c.from-in-loop-k.result ≡ c.draw-in-loop-k-2.result = c.from-in-loop-k.ensures in
    record {
      walked = one_seen c.args.id start c.loop-k.k c.loop-k.capture c.loop-k.time _ c.args.seen.now.items c.loop-k.seen.items c.put.new.list.items
          h.walked c.in_ok-put.ensures h.here h.moment refl;
      drawn = after_both c.loop-k.k start before first second h.drawn c.draw-in-loop-k.ensures.state c.draw-in-loop-k-2.ensures.state;
      here = next_point c.loop-k.k start before first c.draw-in-loop-k.result c.loop-k.capture h.drawn c.draw-in-loop-k.ensures.state
          c.draw-in-loop-k.ensures.number h.here;
      near = mod_below _ 8 (omega arith);
      moment = next_time c.args.id c.loop-k.k start before first second c.draw-in-loop-k-2.result c.loop-k.time _ h.drawn
          c.draw-in-loop-k.ensures.state c.draw-in-loop-k-2.ensures.state c.draw-in-loop-k-2.ensures.number h.moment (omega (arith, number));
      soon = omega (arith, h.soon, number, c.draw-in-loop-k-2.ensures.below);
    }

pub returns-clause-seen : goal.returns-clause-seen
returns-clause-seen c =
    all_walked c.args.id c.args.draws.now.state c.loop-k.k c.args.seen.now.items c.loop-k.seen.items c.loop-k.invariant.walked
    (how_often c.args.draws.now.state c.draw-capture.new.self.state c.draw.new.self.state c.draw.result c.loop-k.k
    c.draw-capture.ensures.state c.draw.ensures.state c.draw.ensures.number (omega (arith, c.loop-k-test.false, c.loop-k.auto.k-end)))

pub returns-clause-state : goal.returns-clause-state
returns-clause-state c =
    walked_behind c.args.draws.now.state c.loop-k.k c.loop-k.draws.state c.loop-k.invariant.drawn
    (how_often c.args.draws.now.state c.draw-capture.new.self.state c.draw.new.self.state c.draw.result c.loop-k.k
    c.draw-capture.ensures.state c.draw.ensures.state c.draw.ensures.number (omega (arith, c.loop-k-test.false, c.loop-k.auto.k-end)))

-- The lane that failed is the one at its place.
use Rattle.std.proofs.Common.{◌≡◌, List, [], get_or, set, sym, ap₂, ◌∙◌, subst}
use Rattle.std.proofs.lemmas.List.{get_or_default, get_or-set_same}
use Rattle.std.proofs.lemmas.Option.{get_or_from_slice_get}
use Rattle.node_frames.specs.declared.frame.Frame.{Frame}
use Rattle.credit_link.specs.Ends.{TxSeen}
use Rattle.shuffle_poll.specs.Lanes.{LaneSeen}
use Rattle.shuffle_poll.specs.Polling.{LaneFails}
use Rattle.shuffle_poll.specs.Shuffles.{lane_at}
use Rattle.shuffle_poll.proofs.shuffle.poll_at.Goals as goal

pub returns-in-Err-clause-fails : goal.returns-in-Err-clause-fails
returns-in-Err-clause-fails g c d =
    let lane : TxSeen → List Frame → LaneSeen = λ t q. record { tx = t; queue = q } in
    let tx : get_or c.args.links.now.items c.args.i d ≡ c.get_mut.result.now = get_or_from_slice_get c.args.links.now.items c.args.i c.get_mut.result.now d c.get_mut.ensures.value in
    let queue : get_or c.args.queues.now.items c.args.i [] ≡ c.index_mut.result.now =
    get_or_default c.args.queues.now.items c.args.i [] c.index_mut.result.now c.requires.there.1 ∙ sym c.index_mut.ensures.value in
    let tx_after : get_or (set c.args.links.now.items c.args.i c.poll_lane.new.tx) c.args.i d ≡ c.poll_lane.new.tx = get_or-set_same c.args.links.now.items c.args.i c.poll_lane.new.tx d c.requires.there.0 in
    let queue_after : get_or (set c.args.queues.now.items c.args.i c.poll_lane.new.queue) c.args.i [] ≡ c.poll_lane.new.queue = get_or-set_same c.args.queues.now.items c.args.i c.poll_lane.new.queue [] c.requires.there.1 in
    let before : lane_at c.args.links.now.items c.args.queues.now.items c.args.i d ≡ lane c.get_mut.result.now c.index_mut.result.now = ap₂ lane tx queue in
    let after : lane_at (set c.args.links.now.items c.args.i c.poll_lane.new.tx) (set c.args.queues.now.items c.args.i c.poll_lane.new.queue) c.args.i d ≡ lane c.poll_lane.new.tx c.poll_lane.new.queue = ap₂ lane tx_after queue_after in
    subst (λ (l : LaneSeen). LaneFails l (lane_at (set c.args.links.now.items c.args.i c.poll_lane.new.tx) (set c.args.queues.now.items c.args.i c.poll_lane.new.queue) c.args.i d) c.args.cut c.in-Err.bad) (sym before)
    (subst (λ (l : LaneSeen). LaneFails (lane c.get_mut.result.now c.index_mut.result.now) l c.args.cut c.in-Err.bad) (sym after) c.in-Err.ensures.fails)

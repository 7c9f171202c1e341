-- One link more has nothing more to do.
use Rattle.std.proofs.Common.{rules, ◌≡◌, ◌<◌, ◌≤◌, length, ⊎_elim, sym, ap, subst, arith}
use Rattle.shuffle_poll.specs.Lanes.{LaneSeen}
use Rattle.shuffle_poll.specs.Shuffles.{ShuffleSeen, lane_of, lane_at, IsSettled}
use Rattle.shuffle_poll.proofs.Putting.{before_or_not, same_lane}
use Rattle.shuffle_poll.proofs.shuffle.Shuffle.settled.Goals as goal

pub lanes-preserved : goal.lanes-preserved
lanes-preserved g c k d before =
    let i = c.lanes.i in
    let inside_there : c.lanes.i < length c.self.inside.links.items = omega (arith, c.lanes-test.true, c.len-i-end.ensures) in
    let here : IsSettled (record { tx = c.get.result.now; queue = c.index.result.now }) = c.settled_at.ensures.settled (search rules) in
    let lane : lane_at c.self.inside.links.items c.self.inside.queues.items c.lanes.i d ≡ record { tx = c.get.result.now; queue = c.index.result.now } =
    same_lane c.self.inside.links.items c.self.inside.queues.items c.lanes.i d c.get.result.now c.index.result.now c.get.ensures (omega (arith, inside_there, c.self.invariant.as_many)) c.index.ensures in
    ⊎_elim (λ (earlier : k < c.lanes.i). c.lanes.invariant k d earlier)
    (λ (behind : c.lanes.i ≤ k).
    let e : c.lanes.i ≡ k = omega (arith, behind, before) in
    subst (λ (s : ShuffleSeen). IsSettled (lane_of s k d)) c.self.view_is
    (subst (λ j. IsSettled (lane_at c.self.inside.links.items c.self.inside.queues.items j d)) e (subst (λ (l : LaneSeen). IsSettled l) (sym lane) here)))
    (before_or_not k c.lanes.i)

pub returns-clause-settled : goal.returns-clause-settled
returns-clause-settled g c all k d there =
    let long : length c.self.inside.links.items ≡ length c.args.self.now.links = ap (λ (s : ShuffleSeen). length s.links) c.self.view_is in
    c.lanes.invariant k d (omega (arith, there, long, c.lanes-test.false, c.len-i-end.ensures))

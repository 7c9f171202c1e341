-- One frame more on one link.
use Rattle.std.proofs.Common.{◌≡◌, ◌<◌, length, get_or, [], false, sym, subst}
use Rattle.credit_link.specs.Ends.{TxSeen}
use Rattle.credit_link.specs.Frames.{has_finish}
use Rattle.shuffle_poll.specs.Lanes.{put_on}
use Rattle.shuffle_poll.specs.Shuffles.{ShuffleSeen, lane_of}
use Rattle.shuffle_poll.proofs.Putting.{put_holds}
use Rattle.shuffle_poll.proofs.shuffle.Shuffle.put.Goals as goal

pub invariant_of-self : goal.invariant_of-self
invariant_of-self g c =
    let seen : ShuffleSeen = record { links = c.self.inside.links.items; queues = c.self.inside.queues.items } in
    let there : c.args.link < length c.self.inside.links.items = subst (λ (s : ShuffleSeen). c.args.link < length s.links) (sym c.self.view_is) c.requires.room.0 in
    let room : length (get_or c.self.inside.queues.items c.args.link []) < 2 = subst (λ (s : ShuffleSeen). length (get_or s.queues c.args.link []) < 2) (sym c.self.view_is) c.requires.room.1 in
    let going : (d : TxSeen) → has_finish (put_on (lane_of seen c.args.link d)) ≡ false =
    λ d. subst (λ (s : ShuffleSeen). has_finish (put_on (lane_of s c.args.link d)) ≡ false) (sym c.self.view_is) (c.requires.unfinished d) in
    put_holds c.self.inside.links.items c.self.inside.queues.items c.put_at.new.queues.items c.args.link c.args.frame c.self.invariant there c.put_at.ensures room going

pub returns-clause-holds : goal.returns-clause-holds
returns-clause-holds g c = invariant_of-self g c

-- One frame more on each of the first links.
use Rattle.std.proofs.Common.{◌≡◌, ◌<◌, ℕ, length, get_or, [], false, sym, subst}
use Rattle.credit_link.specs.Ends.{TxSeen}
use Rattle.credit_link.specs.Frames.{has_finish}
use Rattle.shuffle_poll.specs.Lanes.{put_on}
use Rattle.shuffle_poll.specs.Shuffles.{ShuffleSeen, lane_of}
use Rattle.shuffle_poll.proofs.Putting.{put_all_holds}
use Rattle.shuffle_poll.proofs.shuffle.Shuffle.put_all.Goals as goal

pub invariant_of-self : goal.invariant_of-self
invariant_of-self g c =
    let seen : ShuffleSeen = record { links = c.self.inside.links.items; queues = c.self.inside.queues.items } in
    let room : (k : ℕ) → k < c.args.links → length (get_or c.self.inside.queues.items k []) < 2 =
    λ k before. subst (λ (s : ShuffleSeen). length (get_or s.queues k []) < 2) (sym c.self.view_is) (c.requires.room k before) in
    let going : (k : ℕ) (d : TxSeen) → k < c.args.links → has_finish (put_on (lane_of seen k d)) ≡ false =
    λ k d before. subst (λ (s : ShuffleSeen). has_finish (put_on (lane_of s k d)) ≡ false) (sym c.self.view_is) (c.requires.unfinished k d before) in
    let e = c.put_to_all.ensures in
    put_all_holds c.self.inside.links.items c.self.inside.queues.items c.put_to_all.new.queues.items c.args.links c.args.frame c.self.invariant e.as_many e.put e.others room going

pub returns-clause-holds : goal.returns-clause-holds
returns-clause-holds g c = invariant_of-self g c

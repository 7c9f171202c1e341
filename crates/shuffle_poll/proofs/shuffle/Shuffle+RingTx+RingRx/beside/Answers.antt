-- The link that was shown its rings is the one at its place.
use Rattle.std.proofs.Common.{get_or, ap, subst}
use Rattle.credit_link.specs.Ends.{TxSeen}
use Rattle.shuffle_poll.specs.Shuffles.{ShuffleSeen, Shows}
use Rattle.shuffle_poll.proofs.Putting.{shown_holds}
use Rattle.shuffle_poll.proofs.shuffle.Shuffle+RingTx+RingRx.beside.Goals as goal

pub returns-clause-shows : goal.returns-clause-shows
returns-clause-shows c d =
    subst (λ (s : ShuffleSeen). Shows (get_or s.links c.args.link d) (get_or c.show_at.new.links.items c.args.link d) c.args.rx.now c.show_at.new.rx) c.self.view_is (c.show_at.ensures.shows d)

pub invariant_of-self : goal.invariant_of-self
invariant_of-self c =
    let e = c.show_at.ensures in
    shown_holds c.self.inside.links.items c.show_at.new.links.items c.self.inside.queues.items c.args.link c.self.invariant e.long e.links e.stands (λ d. ap (λ (t : TxSeen). t.offered) (e.shows d).sending)

pub returns-clause-holds : goal.returns-clause-holds
returns-clause-holds c = invariant_of-self c

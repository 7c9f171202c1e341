-- Where a frame waits, the link's end was not offered yet.
use Rattle.std.proofs.Common.{◌++◌, List, drop, ◌∙◌, subst}
use Rattle.node_frames.specs.declared.frame.Frame.{Frame}
use Rattle.credit_link.specs.Frames.{FinishIsLast}
use Rattle.shuffle_poll.proofs.Passes.{going}
use Rattle.shuffle_poll.proofs.lane.offer_front.Goals as goal

pub offer-requires-clause-unfinished : goal.offer-requires-clause-unfinished
offer-requires-clause-unfinished g c =
    c.ready.ensures.stands.sender.ended ∙ going c.args.tx.now.offered c.in-Some.frame.now (drop 1 c.args.queue.now)
    (subst (λ (q : List Frame). FinishIsLast (c.args.tx.now.offered ++ q)) c.in-Some.ensures c.requires)

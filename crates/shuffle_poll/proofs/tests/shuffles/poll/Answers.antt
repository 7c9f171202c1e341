-- A poll offers what was put.
use Rattle.std.proofs.Common.{◌≡◌, ◌<◌, ℕ, List, [], get_or, subst, ap, ◌∙◌}
use Rattle.std.proofs.lemmas.Result.{IfOk-weaker}
use Rattle.node_frames.specs.declared.frame.Frame.{Frame}
use Rattle.credit_link.specs.Frames.{has_finish}
use Rattle.shuffle_poll.specs.declared.needs.Polled.{Polled}
use Rattle.shuffle_poll.specs.declared.needs.Polled.TheVariants.{Ready}
use Rattle.shuffle_poll.specs.Shuffles.{ShuffleSeen}
use Rattle.shuffle_poll.proofs.tests.shuffles.poll.Goals as goal

abbrev none_waits : ShuffleSeen → Type 0
none_waits s = (k : ℕ) → get_or s.queues k [] ≡ []

pub returns-clause-ready : goal.returns-clause-ready
returns-clause-ready c =
    let after : ShuffleSeen = c.poll.new.self in
    IfOk-weaker c.poll.result (λ (polled : Polled). (polled ≡ Ready → none_waits after) × (none_waits after → polled ≡ Ready)) (λ (polled : Polled). polled ≡ Ready → none_waits after)
    (λ (polled : Polled) (both : (polled ≡ Ready → none_waits after) × (none_waits after → polled ≡ Ready)). both.0) c.poll.ensures.ready

pub returns-clause-unfinished : goal.returns-clause-unfinished
returns-clause-unfinished c k d there =
    ap (λ (fs : List Frame). has_finish fs) (c.poll.ensures.all_put k d) ∙ c.requires.unfinished k d (subst (λ n. k < n) c.poll.ensures.as_many there)
